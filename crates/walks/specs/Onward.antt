-- The trace never sticks: where a table of turns is exact it goes on to the goal. Where turns cost nothing, no table is needed.
-- Assumes nothing.
use Rattle.std.specs.Prelude.{ℕ, ◌+◌, ◌≤◌, ◌<◌, ◌≡◌, ◌⊎◌}
use Rattle.std.proofs.Common.{arith, ap, inr, ⊎_elim}
use Rattle.std.proofs.Math.Logic.{by_cases}
use Rattle.paper.specs.Grid.{Node, Dir, step, Axis, level, upright, Grid}
use Rattle.paper.specs.Laws.Steps.{axis_of, free_inside}
use Rattle.paper.specs.Laws.Says.{told}
use Rattle.paper.specs.Laws.Tests.{node_says}
use Rattle.walks.specs.Tracks.{Tracks}
use Rattle.walks.specs.Crossings.{Crossing, crossings, Sliced}
use Rattle.walks.specs.Turns.{fee, fee_most, fee_none}
use Rattle.walks.specs.Tables.{Settled}
use Rattle.walks.specs.Search as search
use Rattle.walks.specs.Search.{Leads, Searched}

-- ---- a table of turns

fee_three : (τ : ℕ) (a b c : Axis) → fee τ a c ≤ fee τ a b + fee τ b c
fee_three τ level level c = omega arith
fee_three τ upright upright c = omega arith
fee_three τ level upright level = omega arith
fee_three τ level upright upright = omega arith
fee_three τ upright level level = omega arith
fee_three τ upright level upright = omega arith

-- what is left at the start: the lesser of both numbers
pub record Begins (C : Axis → Node → ℕ) (q : Node) (n : ℕ) : Type 0 where
  pub low : (a : Axis) → n ≤ C a q
  pub one : Axis
  pub is : n ≡ C one q

module _ (τ : ℕ) (G : Grid) (T : Axis → Tracks) (D : Node → ℕ) (C : Axis → Node → ℕ) where
  -- a way nearer that costs no more than the table says
  pub record Source (a : Axis) (q : Node) : Type 0 where
    pub d : Dir
    pub leads : Leads G T D q d
    pub costs : C (axis_of d) (step d q) + fee τ a (axis_of d) ≤ C a q

  -- What a search of turns to g leaves behind. The crossings that were seen are closed under ways that lead nearer; on them the table is exact,
  -- elsewhere it has 0.
  pub record Counted (inf : ℕ) (g : Node) (Seen : Node → Type 0) : Type 0 where
    pub on : Crossing T g
    pub some : 0 < inf
    pub here : D g ≡ 0
    pub steps : search.Settled G T D inf
    pub home : (a : Axis) → C a g ≡ 0
    pub known : (q : Node) → Crossing T q → Seen q ⊎ ((a : Axis) → C a q ≡ 0)
    pub closed : (q : Node) (d : Dir) → Seen q → Leads G T D q d → Seen (step d q)
    pub most : (q : Node) (d : Dir) → Seen q → Leads G T D q d → (a : Axis) → C a q ≤ C (axis_of d) (step d q) + fee τ a (axis_of d)
    pub source : (q : Node) → Seen q → ¬ (q ≡ g) → (a : Axis) → Source a q

  module _ {inf : ℕ} {g : Node} {Seen : Node → Type 0} (k : Counted inf g Seen) where
    pub settle : Settled τ G T D C inf
    settle = record {
      steps = k.steps;
      straight = λ d q f r e.
          ⊎_elim (λ s. omega (arith, k.most q d s (record { clear = f; nearer = e }) (axis_of d), fee_none τ (axis_of d)))
          (λ z. omega (arith, z (axis_of d))) (k.known q (free_inside (crossings T G) q d f).0);
      turn = λ a b q i r.
          ⊎_elim (λ s. by_cases (told (node_says q g)) (λ e. omega (arith, ap (C a) e, k.home a)) λ n.
          let x = k.source q s n b in
          omega (arith, k.most q x.d s x.leads a, x.costs, fee_three τ a b (axis_of x.d)))
          (λ z. omega (arith, z a)) (k.known q i);
    }

-- ---- where turns cost nothing

module _ {G : Grid} {T : Axis → Tracks} {D : Node → ℕ} {inf owed : ℕ} {g : Node} (sliced : Sliced G T) (done : Searched G T D inf owed g) where
  -- a table of nothing is exact, and all was seen whose distance is owed
  pub uncounted : (C : Axis → Node → ℕ) → ((a : Axis) (q : Node) → C a q ≡ 0) → Counted 0 G T D C inf g (λ q. Crossing T q × (D q < owed))
  uncounted C none = record {
    on = done.on;
    some = done.some;
    here = done.here;
    steps = done.settled;
    home = λ a. none a g;
    known = λ q i. inr (λ a. none a q);
    closed = λ q d s l. ((free_inside (crossings T G) q d l.clear).1, omega (arith, s.1, l.nearer));
    most = λ q d s l a. omega (arith, none a q);
    source = λ q s n a.
        let x = done.source q s.0 s.1 n in
        let t = done.settled x.0 q x.1 (omega (arith, x.2, s.1, done.within)) in
        record {
          d = x.0;
          leads = record { clear = x.1; nearer = omega (arith, x.2, t.1) };
          costs = omega (arith, none (axis_of x.0) (step x.0 q), fee_most 0 a (axis_of x.0));
        };
  }
