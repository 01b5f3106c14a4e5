-- The trace never sticks: where a table of turns is exact it goes on to the goal. Where turns cost nothing, no table is needed.
-- The definitions and lemmas under it stand in specs/Onward.
use Rattle.std.specs.Prelude.{ℕ, zero, suc, ◌+◌, ◌<◌, ◌≡◌, refl, List, [], ◌++◌, replicate}
use Rattle.std.proofs.Math.Decide.{dec_lt, dec_le, ℕ_discrete}
use Rattle.std.proofs.Common.{arith, sym, subst}
use Rattle.std.proofs.Math.Logic.{by_cases}
use Rattle.std.proofs.Math.Logic.Dec
use Rattle.paper.specs.Grid.{Node, Dir, E, N, W, S, rank, step, Axis, level, upright, Grid, Edge, Free}
use Rattle.paper.specs.Laws.Steps.{axis_of}
use Rattle.paper.specs.Laws.Says.{told}
use Rattle.paper.specs.Laws.Tests.{node_says}
use Rattle.walks.specs.Tracks.{Tracks}
use Rattle.walks.specs.Crossings.{spot, crossings, far, Sliced}
use Rattle.walks.specs.Ways.{way_of}
use Rattle.walks.specs.Turns.{Came, fresh, by, fee_none, bend}
use Rattle.walks.specs.Tables.{Fits, Trace, stop, go}
use Rattle.walks.specs.Search.{Leads}
use Rattle.walks.specs.Onward.{Begins, Counted}

-- ---- a free way can be told

all_three : {A B C : Type 0} → Dec A → Dec B → Dec C → Dec (A × B × C)
all_three a b c = Dec.of_iff (λ h. (h.0, h.1.0, h.1.1), λ h. (h.0, (h.1, h.2))) (Dec.and a (Dec.and b c))

module _ (G : Grid) (open? : (a : Axis) (p : Node) → Dec (G.Open a p)) where
  edge? : (a : Axis) (p : Node) → Dec (Edge G a p)
  unfolding Edge
  edge? level p = all_three (dec_lt p.x G.wide) (dec_le p.y G.high) (open? level p)
  edge? upright p = all_three (dec_le p.x G.wide) (dec_lt p.y G.high) (open? upright p)

  free? : (p : Node) (d : Dir) → Dec (Free G p d)
  unfolding Free
  free? p E = edge? level p
  free? p N = edge? upright p
  free? p W = Dec.and (dec_lt 0 p.x) (edge? level (step W p))
  free? p S = Dec.and (dec_lt 0 p.y) (edge? upright (step S p))

each : (Q : Dir → Type 0) → Q E → Q N → Q W → Q S → (d : Dir) → Q d
each Q e n w s E = e
each Q e n w s N = n
each Q e n w s W = w
each Q e n w s S = s

-- of the directions with a property that can be decided one is the first
first_of : (P : Dir → Type 0) → ((d : Dir) → Dec (P d)) → (d : Dir) → P d → (e : Dir) × P e × ((c : Dir) → rank c < rank e → ¬ (P c))
first_of P dec d p =
    by_cases (dec E) (λ e. (E, e, λ c h. absurd (omega arith))) λ n_e.
    by_cases (dec N) (λ n. (N, n, each _ (λ h. n_e) (λ h. absurd (omega arith)) (λ h. absurd (omega arith)) (λ h. absurd (omega arith)))) λ n_n.
    by_cases (dec W) (λ w. (W, w, each _ (λ h. n_e) (λ h. n_n) (λ h. absurd (omega arith)) (λ h. absurd (omega arith)))) λ n_w.
    let s = each (λ e. P e → P S) (λ e. absurd (n_e e)) (λ n. absurd (n_n n)) (λ w. absurd (n_w w)) (λ s. s) d p in
    (S, s, each _ (λ h. n_e) (λ h. n_n) (λ h. n_w) (λ h. absurd (omega arith)))

-- ---- a table of turns

module _ (τ : ℕ) (G : Grid) (T : Axis → Tracks) (D : Node → ℕ) (C : Axis → Node → ℕ) where
  module _ {inf : ℕ} {g : Node} {Seen : Node → Type 0} (k : Counted τ G T D C inf g Seen) where
    -- what is left, come so
    data Left (q : Node) : Came → ℕ → Type 0 where
      along : {a : Axis} {c : ℕ} → c ≡ C a q → Left q (by a) c
      either : {c : ℕ} → Begins C q c → Left q fresh c

    some_way : (q : Node) (m : Came) (c : ℕ) → Seen q → ¬ (q ≡ g) → Left q m c → (d : Dir) × Fits τ G T D C m c q d
    some_way q m c s n (along {a = a} e) =
        let x = k.source q s n a in
        (x.d, record { clear = x.leads.clear; nearer = x.leads.nearer; turns = omega (arith, k.most q x.d s x.leads a, x.costs) })
    some_way q m c s n (either b) =
        let a = b.one in
        let x = k.source q s n a in (
          x.d,
          record {
            clear = x.leads.clear;
            nearer = x.leads.nearer;
            turns = omega (arith, k.most q x.d s x.leads a, k.most q x.d s x.leads (axis_of x.d), x.costs, b.is, b.low (axis_of x.d), fee_none τ (axis_of x.d));
          },
        )

    module _ (sliced : Sliced G T) (open? : (a : Axis) (p : Node) → Dec (G.Open a p)) where
      fits? : (m : Came) (c : ℕ) (q : Node) (d : Dir) → Dec (Fits τ G T D C m c q d)
      fits? m c q d =
          Dec.of_iff (λ h. record { clear = h.0; nearer = h.1.0; turns = h.1.1 }, λ l. (l.clear, (l.nearer, l.turns)))
          (Dec.and (free? (crossings T G) (λ a p. open? a (spot T p)) q d)
          (Dec.and (ℕ_discrete (D (step d q) + far T d q) (D q)) (ℕ_discrete (C (axis_of d) (step d q) + bend τ m (axis_of d)) c)))

      home_left : (m : Came) (c : ℕ) → Left g m c → c ≡ 0
      home_left m c (along {a = a} e) = omega (arith, k.home a)
      home_left m c (either b) = omega (arith, b.is, k.home b.one)

      traced : (n : ℕ) (q : Node) (m : Came) (c : ℕ) → Seen q → Left q m c → D q < n → (v : List Dir) × Trace τ G T D C g m c q v
      traced zero q m c s l h = absurd (omega arith)
      traced (suc n) q m c s l h =
          by_cases (told (node_says q g))
          (λ e. ([], subst (λ p. Trace τ G T D C g m c p []) (sym e) (subst (λ c. Trace τ G T D C g m c g []) (sym (home_left m c (subst (λ p. Left p m c) e l))) stop))) λ ne.
          let x = some_way q m c s ne l in
          let f = first_of (Fits τ G T D C m c q) (fits? m c q) x.0 x.1 in
          let d = f.0 in
          let leads : Leads G T D q d = record { clear = f.1.clear; nearer = f.1.nearer } in
          let rest = traced n (step d q) (by (axis_of d)) (C (axis_of d) (step d q)) (k.closed q d s leads) (along refl)
          (omega (arith, f.1.nearer, (way_of sliced d q f.1.clear).1)) in
          (replicate (far T d q) d ++ rest.0, go f.1 f.2 rest.1)

      pub never_sticks : (q : Node) (c : ℕ) → Seen q → Begins C q c → (v : List Dir) × Trace τ G T D C g fresh c q v
      never_sticks q c s b = traced (suc (D q)) q fresh c s (either b) (omega arith)
