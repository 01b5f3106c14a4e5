-- There is one answered wire in each mode; and a potential, a lower bound of the steps still to go, shows a wire to be it.
-- Assumes nothing.
use Prim.Native.Nat.{ℕ, zero, suc, ◌≤◌, ◌<◌}
use Rattle.std.proofs.Math.Decide.{dec_lt}
use Rattle.std.proofs.Common.{le_antisymm, sym, ap, ap₂, subst, ◌∙◌}
use native.Mathlib.Omega.{arith}
use Rattle.std.specs.Prelude.{◌≡◌, refl, length}
use Rattle.std.proofs.Math.Logic.{inl, inr, by_cases}
use mathlib.Core.List.{List, [], ◌∷◌}
use Rattle.paper.specs.declared.Mode.{Mode}
use Rattle.paper.specs.declared.Mode.TheVariants.{Plain, Fewest}
use Rattle.paper.specs.Grid.{Node, Dir, E, N, W, S, rank, step, Grid, Free}
use Rattle.paper.specs.Laws.Steps.{Least}
use Rattle.paper.specs.Wire.{Legal, First, Answered, AnsweredIn}

-- ---- one answer

pub first_antisym : (w v : List Dir) → First w v → First v w → w ≡ v
unfolding First
first_antisym [] [] p q = refl
first_antisym [] (b ∷ v) p q = absurd q
first_antisym (a ∷ w) [] p q = absurd p
first_antisym (a ∷ w) (b ∷ v) (inl p) (inl q) = absurd (omega arith)
first_antisym (a ∷ w) (b ∷ v) (inl p) (inr q) = absurd (omega (arith, ap rank q.0))
first_antisym (a ∷ w) (b ∷ v) (inr p) (inl q) = absurd (omega (arith, ap rank p.0))
first_antisym (a ∷ w) (b ∷ v) (inr p) (inr q) = ap₂ ◌∷◌ p.0 (first_antisym w v p.1 q.1)

pub one_answer : (G : Grid) (s t : Node) (w v : List Dir) → Answered G s t w → Answered G s t v → w ≡ v
one_answer G s t w v p q =
    let same : length v ≡ length w = le_antisymm (q.shortest w p.legal) (p.shortest v q.legal) in
    first_antisym w v (p.first v q.legal same) (q.first w p.legal (sym same))

-- in either mode the answered wire is legal, and as short as in the other

pub in_least : (m : Mode) (G : Grid) (s t : Node) (w : List Dir) → AnsweredIn m G s t w → Least G s t w
in_least Plain G s t w a = (a.legal, a.shortest)
in_least Fewest G s t w a = (a.legal, a.shortest)

pub in_legal : (m : Mode) (G : Grid) (s t : Node) (w : List Dir) → AnsweredIn m G s t w → Legal G s t w
in_legal Plain G s t w a = a.legal
in_legal Fewest G s t w a = a.legal

pub in_shortest : (m : Mode) (G : Grid) (s t : Node) (w : List Dir) → AnsweredIn m G s t w → (v : List Dir) → Legal G s t v → length w ≤ length v
in_shortest Plain G s t w a = a.shortest
in_shortest Fewest G s t w a = a.shortest

-- ---- directions are told by their rank

ranked : ℕ → Dir
ranked zero = E
ranked (suc zero) = N
ranked (suc (suc zero)) = W
ranked (suc (suc (suc n))) = S

ranked_rank : (d : Dir) → ranked (rank d) ≡ d
unfolding ranked
ranked_rank E = refl
ranked_rank N = refl
ranked_rank W = refl
ranked_rank S = refl

pub rank_inj : (a b : Dir) → rank a ≡ rank b → a ≡ b
rank_inj a b e = sym (ranked_rank a) ∙ ap ranked e ∙ ranked_rank b

-- ---- potentials

-- Φ p k says that p is at least k steps away from t: t is none away, and a step comes nearer by one at the most
pub record Potential (G : Grid) (t : Node) (Φ : Node → ℕ → Type 0) : Type 0 where
  pub target : (k : ℕ) → Φ t k → k ≡ 0
  pub along : (p : Node) (d : Dir) → Free G p d → (k : ℕ) → Φ p (suc k) → Φ (step d p) k

-- at each node of the wire an earlier direction leads to where more is left to go than on the wire
unfoldable pub Greedy : Grid → (Node → ℕ → Type 0) → Node → List Dir → Type 0
Greedy G Φ p [] = Unit {0}
Greedy G Φ p (a ∷ w) = ((e : Dir) → rank e < rank a → Free G p e → Φ (step e p) (suc (length w))) × Greedy G Φ (step a p) w

module _ (G : Grid) (t : Node) (Φ : Node → ℕ → Type 0) (φ : Potential G t Φ) where
  -- no legal wire is shorter than the potential says
  pub bound : (p : Node) (w : List Dir) (k : ℕ) → Φ p k → Legal G p t w → k ≤ length w
  unfolding Legal
  bound p w zero h l = omega arith
  bound p [] (suc k) h l = omega (arith, φ.target (suc k) (subst (λ q. Φ q (suc k)) l h))
  bound p (d ∷ w) (suc k) h l = omega (arith, bound (step d p) w k (φ.along p d l.0 k h) l.1)

  -- where it says that every number of steps is too few there is none
  pub no_wire : (p : Node) → ((k : ℕ) → Φ p k) → (w : List Dir) → ¬ (Legal G p t w)
  no_wire p h w l = omega (arith, bound p w (suc (length w)) (h (suc (length w))) l)

  -- a greedy wire as short as the potential says is the first of those as short
  greedy : (p : Node) (w v : List Dir) → Φ p (length w) → Legal G p t w → Greedy G Φ p w → Legal G p t v → length v ≡ length w → First w v
  unfolding Legal First Greedy
  greedy p [] v h l g m e = tt
  greedy p (a ∷ w) [] h l g m e = omega arith
  greedy p (a ∷ w) (b ∷ v) h l g m e =
      by_cases (dec_lt (rank a) (rank b)) inl λ le.
      by_cases (dec_lt (rank b) (rank a))
      (λ less. absurd (omega (arith, bound (step b p) v (suc (length w)) (g.0 b less m.0) m.1)))
      (λ ge. let same : a ≡ b = rank_inj a b (omega arith) in
      inr (same, greedy (step a p) w v (φ.along p a l.0 (length w) h) l.1 g.1 (rw (← same) at m.1) (omega arith)))

  pub answered : (s : Node) (w : List Dir) → Legal G s t w → Φ s (length w) → Greedy G Φ s w → Answered G s t w
  answered s w l h g = record {
    legal = l;
    shortest = λ v m. bound s v (length w) h m;
    first = λ v m e. greedy s w v h l g m e;
  }
