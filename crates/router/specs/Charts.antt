-- The chart of marked ways is the grid of crossings, and a table of distances over it is what the theorems of `walks` ask of a search.
-- Assumes nothing.
use Prim.Native.Nat.{ℕ, suc, pred, ◌+◌, ◌-◌, ◌≤◌, ◌<◌}
use Rattle.std.proofs.Common.{add-one, ◌∙◌}
use native.Mathlib.Omega.{arith}
use Rattle.std.proofs.Math.Decide.{dec_lt}
use Rattle.std.specs.Prelude.{◌≡◌, refl, ◌↔◌, Option, Some, None, List, ◌++◌, replicate}
use Rattle.std.proofs.Math.Path.{sym, ap, subst}
use Rattle.std.proofs.Math.ListN.{get_or}
use Rattle.paper.specs.Grid.{Node, Dir, E, N, W, S, step, Axis, level, upright, Grid, Edge, Free, Block, Blocked, edge, grid_with}
use Rattle.paper.specs.Wire.{gap}
use Rattle.paper.specs.Laws.Steps.{axis_of}
use Rattle.distances.specs.Lower.{none}
use Rattle.distances.specs.Ways.{cell, Map, Way, east, west, north, south, far_of, Distances}
use Rattle.distances.specs.Reached.{way_in}
use Rattle.trace.specs.Trail as trail
use Rattle.trace.specs.Trail.{chart, distance, marks, toll, turning, bend_from, dues}
use Rattle.bends.specs.Table.{Owed}
use Rattle.walks.specs.Tracks.{Tracks, Rising}
use Rattle.walks.specs.Crossings.{crossings, far}
use Rattle.walks.specs.Turns.{Came, fresh, by, fee, bend}
use Rattle.walks.specs.Tables as tables
use Rattle.walks.specs.Search as search
use Rattle.walks.specs.Search.{Searched}
use Rattle.walks.specs.Route.{tracks}

-- how a wire has come, by its last direction
abbrev pub came_of : Option Dir → Came
came_of None = fresh
came_of (Some e) = by (axis_of e)

pub fee_same : (τ : ℕ) (a b : Axis) → fee τ a b ≡ turning τ a b
fee_same τ level level = refl
fee_same τ level upright = refl
fee_same τ upright level = refl
fee_same τ upright upright = refl

bend_same : (τ : ℕ) (came : Option Dir) (b : Axis) → bend τ (came_of came) b ≡ bend_from τ came b
bend_same τ None b = refl
bend_same τ (Some e) b = fee_same τ (axis_of e) b

-- the tracks of a list
abbrev pub tracks_in : List ℕ → ℕ → Tracks
tracks_in xs n = record { last = n - 1; track = λ i. get_or xs i 0 }

-- what is asked of the lists: rising tracks from side to side, and marks just where the first unit edge of a way is blocked
pub record Marks (w h : ℕ) (bs : List Block) (m : Map) : Type 0 where
  pub nx_some : 1 ≤ m.nx
  pub ny_some : 1 ≤ m.ny
  pub rise_x : Rising (tracks_in m.xs m.nx) w
  pub rise_y : Rising (tracks_in m.ys m.ny) h
  pub clear : (a : Axis) (i j : ℕ) → i < m.nx → j < m.ny
      → (get_or (marks m a) (cell i j) 0 ≡ 0) ↔ (¬ (Blocked bs (edge a (record { x = get_or m.xs i 0; y = get_or m.ys j 0 }))))

module _ (w h : ℕ) (bs : List Block) (m : Map) (k : Marks w h bs m) where
  abbrev G : Grid
  G = grid_with w h bs

  abbrev T : Axis → Tracks
  T = tracks (tracks_in m.xs m.nx) (tracks_in m.ys m.ny)

  -- ---- the same ways are open

  edge_iff : (a : Axis) (q : Node) → Edge (chart m) a q ↔ Edge (crossings T G) a q
  unfolding Edge
  edge_iff level q = (
    λ f. (f.0, f.1, (k.clear level q.x q.y (omega (arith, f.0)) (omega (arith, f.1, k.ny_some))).0 f.2),
    λ f. (f.0, f.1, (k.clear level q.x q.y (omega (arith, f.0)) (omega (arith, f.1, k.ny_some))).1 f.2),
  )
  edge_iff upright q = (
    λ f. (f.0, f.1, (k.clear upright q.x q.y (omega (arith, f.0, k.nx_some)) (omega (arith, f.1))).0 f.2),
    λ f. (f.0, f.1, (k.clear upright q.x q.y (omega (arith, f.0, k.nx_some)) (omega (arith, f.1))).1 f.2),
  )

  pub free_iff : (q : Node) (e : Dir) → Free (chart m) q e ↔ Free (crossings T G) q e
  unfolding Free
  free_iff q E = edge_iff level q
  free_iff q N = edge_iff upright q
  free_iff q W = let i = edge_iff level (step W q) in (λ f. (f.0, i.0 f.1), λ f. (f.0, i.1 f.1))
  free_iff q S = let i = edge_iff upright (step S q) in (λ f. (f.0, i.0 f.1), λ f. (f.0, i.1 f.1))

  -- and as long
  pub far_same : (q : Node) (e : Dir) → Free (chart m) q e → trail.far m e q ≡ far T e q
  unfolding trail.far far gap Free Edge step
  far_same q E f =
      let z : get_or m.xs (q.x + 1) 0 ≡ get_or m.xs (suc q.x) 0 = ap (λ n. get_or m.xs n 0) (add-one q.x) in
      omega (arith, z, k.rise_x.inc q.x f.0)
  far_same q N f =
      let z : get_or m.ys (q.y + 1) 0 ≡ get_or m.ys (suc q.y) 0 = ap (λ n. get_or m.ys n 0) (add-one q.y) in
      omega (arith, z, k.rise_y.inc q.y f.1)
  far_same q W f =
      let z : get_or m.xs (suc (pred q.x)) 0 ≡ get_or m.xs q.x 0 = ap (λ n. get_or m.xs n 0) (let e : suc (pred q.x) ≡ q.x = omega (arith, f.0) in e) in
      omega (arith, z, k.rise_x.inc (pred q.x) f.1.0)
  far_same q S f =
      let z : get_or m.ys (suc (pred q.y)) 0 ≡ get_or m.ys q.y 0 = ap (λ n. get_or m.ys n 0) (let e : suc (pred q.y) ≡ q.y = omega (arith, f.0) in e) in
      omega (arith, z, k.rise_y.inc (pred q.y) f.1.1)

  -- ---- the same directions lead nearer, by the same trail

  module _ (d : List ℕ) where
    abbrev D : Node → ℕ
    D q = distance d q

    pub leads_iff : (q : Node) (e : Dir) → trail.Leads m d q e ↔ search.Leads G T D q e
    leads_iff q e = (
      λ l. record { clear = (free_iff q e).0 l.clear; nearer = rw (far_same q e l.clear) at l.nearer },
      λ l. let f = (free_iff q e).1 l.clear in record { clear = f; nearer = rw (far_same q e f) l.nearer },
    )

    -- through a table of turns at any price
    module _ (τ : ℕ) (c : List ℕ) where
      fits_iff : (left : ℕ) (came : Option Dir) (q : Node) (e : Dir)
          → trail.Fits m d (toll τ c) came left q e ↔ tables.Fits τ G T D (dues τ c) (came_of came) left q e
      fits_iff left came q e =
          let b : bend τ (came_of came) (axis_of e) ≡ bend_from τ came (axis_of e) = bend_same τ came (axis_of e) in (
            λ f. let l = (leads_iff q e).0 f.leads in record { clear = l.clear; nearer = l.nearer; turns = omega (arith, f.turns, b) },
            λ f. record { leads = (leads_iff q e).1 (record { clear = f.clear; nearer = f.nearer }); turns = omega (arith, f.turns, b) },
          )

      pub trail_of : (g : Node) (m' : Came) (left : ℕ) (came : Option Dir) → m' ≡ came_of came → (q : Node) (v : List Dir)
          → tables.Trace τ G T D (dues τ c) g m' left q v → trail.Trail m d (toll τ c) g came left q v
      trail_of g m' left came em q v tables.stop = trail.stop
      trail_of g m' left came em q v (tables.go {d = e} {rest = rest} f others t) =
          let k = (fits_iff left came q e).1 (subst (λ n. tables.Fits τ G T D (dues τ c) n left q e) em f) in
          subst (λ n. trail.Trail m d (toll τ c) g came left q (replicate n e ++ rest)) (far_same q e k.leads.clear)
          (trail.go k (λ f r z. others f r (subst (λ n. tables.Fits τ G T D (dues τ c) n left q f) (sym em) ((fits_iff left came q f).0 z)))
          (trail_of g (by (axis_of e)) (dues τ c (axis_of e) (step e q)) (Some e) refl (step e q) rest t))

    -- ---- an open way is a step on the chart

    way_of : (q : Node) (e : Dir) → Free (chart m) q e → Way m q.x q.y (step e q).x (step e q).y (trail.far m e q)
    unfolding Free Edge step trail.far
    way_of q E f =
        subst (λ i. Way m q.x q.y i q.y (get_or m.xs (q.x + 1) 0 - get_or m.xs q.x 0)) (add-one q.x)
        (east (omega (arith, f.0)) (omega (arith, f.1, k.ny_some)) f.2)
    way_of q N f =
        subst (λ j. Way m q.x q.y q.x j (get_or m.ys (q.y + 1) 0 - get_or m.ys q.y 0)) (add-one q.y)
        (north (omega (arith, f.0, k.nx_some)) (omega (arith, f.1)) f.2)
    way_of q W f =
        let z : pred q.x + 1 ≡ q.x = omega (arith, f.0) in
        subst (λ i. Way m i q.y (pred q.x) q.y (get_or m.xs i 0 - get_or m.xs (pred q.x) 0)) z
        (west (let n : pred q.x + 1 < m.nx = omega (arith, f.1.0) in n) (omega (arith, f.1.1, k.ny_some)) f.1.2)
    way_of q S f =
        let z : pred q.y + 1 ≡ q.y = omega (arith, f.0) in
        subst (λ j. Way m q.x j q.x (pred q.y) (get_or m.ys j 0 - get_or m.ys (pred q.y) 0)) z
        (south (omega (arith, f.1.0, k.nx_some)) (let n : pred q.y + 1 < m.ny = omega (arith, f.1.1) in n) f.1.2)

    -- and the other way round
    pub record Stepped (i j i' j' n : ℕ) : Type 0 where
      pub dir : Dir
      pub free : Free (chart m) (record { x = i; y = j }) dir
      pub there : step dir (record { x = i; y = j }) ≡ record { x = i'; y = j' }
      pub long : trail.far m dir (record { x = i; y = j }) ≡ n

    step_of : (i j i' j' n : ℕ) → Way m i j i' j' n → Stepped i j i' j' n
    unfolding Free Edge step trail.far
    step_of i j i' j' n (east {i = u} {j = v} p q r) = record {
      dir = E;
      free = (omega arith, omega arith, r);
      there = (let e = sym (add-one u) in λ t. record { x = e t; y = v });
      long = refl;
    }
    step_of i j i' j' n (north {i = u} {j = v} p q r) = record {
      dir = N;
      free = (omega arith, omega arith, r);
      there = (let e = sym (add-one v) in λ t. record { x = u; y = e t });
      long = refl;
    }
    step_of i j i' j' n (west {i = u} {j = v} p q r) =
        let e : pred (u + 1) ≡ u = omega arith in
        record {
          dir = W;
          free = (omega arith, ((let z : pred (u + 1) < m.nx - 1 = omega arith in z), omega arith, rw e r));
          there = λ t. record { x = e t; y = v };
          long = ap (λ s. get_or m.xs (u + 1) 0 - get_or m.xs s 0) e;
        }
    step_of i j i' j' n (south {i = u} {j = v} p q r) =
        let e : pred (v + 1) ≡ v = omega arith in
        record {
          dir = S;
          free = (omega arith, (omega arith, (let z : pred (v + 1) < m.ny - 1 = omega arith in z), rw e r));
          there = λ t. record { x = u; y = e t };
          long = ap (λ s. get_or m.ys (v + 1) 0 - get_or m.ys s 0) e;
        }

    -- ---- so a table of distances is what a search leaves behind

    module _ (a b s : ℕ) (t : Distances m a b s d) where
      source_of : (q : Node) → q.x < m.nx → q.y < m.ny → D q < far_of d s → ¬ (q ≡ record { x = a; y = b })
          → (e : Dir) × Free (crossings T G) q e × (D (step e q) + far T e q ≤ D q)
      source_of q hx hy r ne =
          let o = t.nearer q.x q.y hx hy r (λ s. ne (λ k. record { x = s.0 k; y = s.1 k })) in
          let s = step_of q.x q.y o.0 o.1 o.2 o.3 in
          let there : D (step s.dir q) ≡ get_or d (cell o.0 o.1) 0 = ap D s.there in
          let long : far T s.dir q ≡ o.2 = sym (far_same q s.dir s.free) ∙ s.long in
          (s.dir, (free_iff q s.dir).0 s.free, omega (arith, there, long, o.4))

      near_of : (e : Dir) (q : Node) → Free (crossings T G) q e → D (step e q) < far_of d s → (D q < none) × (D q ≤ D (step e q) + far T e q)
      near_of e q f r =
          let c = (free_iff q e).1 f in
          let n = t.near q.x q.y (step e q).x (step e q).y (trail.far m e q) (way_of q e c) r in
          (n.0, rw (far_same q e c) at n.1)

      cut_of : (e : Dir) (q : Node) → Free (crossings T G) q e → D q ≤ far_of d s
      cut_of e q f = let k = way_in m _ _ _ _ _ (way_of q e ((free_iff q e).1 f)) in t.cut q.x q.y k.0 k.1

      -- each crossing that is no further than s, but t, has a way that leads nearer
      pub owed : get_or d s 0 < none → Owed m d (record { x = a; y = b }) (get_or d s 0)
      owed r p on h ne =
          let o = t.nearer p.x p.y on.on_x on.on_y (omega arith) (λ s. ne (λ k. record { x = s.0 k; y = s.1 k })) in
          let s = step_of p.x p.y o.0 o.1 o.2 o.3 in
          let there : D (step s.dir p) ≡ get_or d (cell o.0 o.1) 0 = ap D s.there in
          (s.dir, record { clear = s.free; nearer = omega (arith, there, s.long, o.4) })

      module _ (ha : a < m.nx) (hb : b < m.ny) where
        -- what is further than s has one number, which no way makes smaller either
        pub searched : Searched G T D (far_of d s + 1) (far_of d s) (record { x = a; y = b })
        searched = record {
          on = (omega arith, omega arith);
          some = omega arith;
          within = omega arith;
          here = t.target;
          settled = λ e q f r. (
            omega (arith, cut_of e q f),
            elim (dec_lt (D (step e q)) (far_of d s)) [ yes z ↦ (near_of e q f z).1 | no z ↦ omega (arith, cut_of e q f) ],
          );
          source = λ q i r ne. source_of q (omega (arith, i.0, k.nx_some)) (omega (arith, i.1, k.ny_some)) r ne;
        }

        -- where s is not reached, nothing that has a way to what is reached is left out
        pub searched_all : get_or d s 0 ≡ none → Searched G T D none none (record { x = a; y = b })
        searched_all z = record {
          on = (omega arith, omega arith);
          some = omega arith;
          within = omega arith;
          here = t.target;
          settled = λ e q f r. near_of e q f (omega arith);
          source = λ q i r ne. source_of q (omega (arith, i.0, k.nx_some)) (omega (arith, i.1, k.ny_some)) (omega arith) ne;
        }
