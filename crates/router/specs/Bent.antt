-- What is lent to the trace is what the theorems of `walks` ask of a search: no table where turns cost nothing, else the table of turns.
-- Assumes nothing.
use Rattle.std.specs.Prelude.{ℕ, ◌+◌, ◌<◌, ◌≡◌, refl, ◌⊎◌, List}
use Rattle.std.proofs.Common.{arith, sym, subst, inl, inr}
use Rattle.std.proofs.Math.Decide.{ℕ_discrete}
use Rattle.std.proofs.Math.Logic.{by_cases}
use Rattle.paper.specs.declared.Mode.{Mode}
use Rattle.paper.specs.declared.Mode.TheVariants.{Plain, Fewest}
use Rattle.paper.specs.Grid.{Node, Axis, level, Grid, Block, All, grid_with}
use Rattle.paper.specs.Laws.Steps.{axis_of}
use Rattle.distances.specs.Lower.{none}
use Rattle.distances.specs.Ways.{cell, Map, far_of, Distances}
use Rattle.trace.specs.Trail.{distance, Charted, slot, noted, turns_in, dues}
use Rattle.bends.specs.Table.{On, Reach, here, Bends}
use Rattle.bends.specs.Going.{slot_one, reach_on, reach_more}
use Rattle.walks.specs.Tracks.{Tracks}
use Rattle.walks.specs.Crossings.{Crossing}
use Rattle.walks.specs.Onward.{Counted, uncounted}
use Rattle.walks.specs.Modes.{price_of}
use Rattle.walks.specs.Rule.{BlockTracked}
use Rattle.walks.specs.Route.{tracks}
use Rattle.walks.proofs.Route.{laws}
use Rattle.router.specs.Told.{Lent}
use Rattle.router.specs.Charts.{tracks_in, Marks, fee_same, leads_iff, searched}

module _ (w h : ℕ) (bs : List Block) (m : Map) (k : Marks w h bs m) (d : List ℕ) (a b : ℕ) (s : Node)
    (t : Distances m a b (cell s.x s.y) d) (ha : a < m.nx) (hb : b < m.ny) (ch : Charted m d) (hs : On m s) where
  abbrev G : Grid
  G = grid_with w h bs

  abbrev T : Axis → Tracks
  T = tracks (tracks_in m.xs m.nx) (tracks_in m.ys m.ny)

  abbrev g : Node
  g = record { x = a; y = b }

  abbrev D : Node → ℕ
  D q = distance d q

  module _ (c : List ℕ) (bent : Bends m d s g c) where
    -- a number that is not 0 stands at a crossing that was reached
    reached : (x : Axis) (q : Node) → On m q → ¬ (noted c x q ≡ 0) → Reach m d s q
    reached x q o n =
        let r = bent.blank (slot x q) (omega (arith, n)) in
        subst (Reach m d s) (sym (slot_one m d ch x r.0 q r.1 o (reach_on m d s r.1 hs r.2) r.3)) r.2

    counted : Counted 1 G T D (turns_in c) (far_of d (cell s.x s.y) + 1) g (Reach m d s)
    counted = record {
      on = (omega arith, omega arith);
      some = omega arith;
      here = t.target;
      steps = (searched w h bs m k d a b (cell s.x s.y) t ha hb).settled;
      home = λ x. by_cases (ℕ_discrete (noted c x g) 0) (λ z. omega arith)
          (λ n. omega (arith, (bent.exact g (reached x g (record { on_x = ha; on_y = hb }) n)).home refl x));
      known = known;
      closed = λ q e r l. reach_more m d s q e r ((leads_iff w h bs m k d q e).1 l);
      most = λ q e r l x.
          let y = bent.exact q r in
          let f = (leads_iff w h bs m k d q e).1 l in
          omega (arith, y.some x, y.seen e f (axis_of e), y.most e f x, fee_same 1 x (axis_of e));
      source = λ q r n x.
          let y = bent.exact q r in
          let z = y.source n x in
          record {
            d = z.dir;
            leads = (leads_iff w h bs m k d q z.dir).0 z.leads;
            costs = omega (arith, z.costs, y.some x, y.seen z.dir z.leads (axis_of z.dir), fee_same 1 x (axis_of z.dir));
          };
    }
      where
        known : (q : Node) → Crossing T q → Reach m d s q ⊎ ((x : Axis) → turns_in c x q ≡ 0)
        known q i =
            let o : On m q = record { on_x = omega (arith, i.0, k.nx_some); on_y = omega (arith, i.1, k.ny_some) } in
            by_cases (ℕ_discrete (noted c level q) 0)
            (λ z. inr (λ x. by_cases (ℕ_discrete (noted c x q) 0) (λ e. omega arith)
            (λ n. absurd (omega (arith, (bent.exact q (reached x q o n)).some level)))))
            (λ n. inl (reached level q o n))

  -- ---- in each mode

  -- the crossings that were seen
  abbrev pub SeenIn : Mode → Node → Type 0
  SeenIn Plain q = Crossing T q × (D q < far_of d (cell s.x s.y))
  SeenIn Fewest q = Reach m d s q

  pub seen_in : (o : Mode) → D s < none → SeenIn o s
  seen_in Plain r = ((omega (arith, hs.on_x), omega (arith, hs.on_y)), omega arith)
  seen_in Fewest r = here

  pub counted_in : All (BlockTracked T G) bs → (o : Mode) (c : List ℕ) → Lent o m d s g c
      → Counted (price_of o) G T D (dues (price_of o) c) (far_of d (cell s.x s.y) + 1) g (SeenIn o)
  unfolding Lent
  counted_in tracked Plain c any =
      uncounted (laws k.rise_x k.rise_y bs tracked) (searched w h bs m k d a b (cell s.x s.y) t ha hb) (dues 0 c) (λ x q. refl)
  counted_in tracked Fewest c bent = counted c bent
