-- A potential, of steps and turns, bounds the cost of every wire; and a wire before whose every step the earlier directions cost more is the
-- best.
-- The definitions and lemmas under it stand in specs/Cost.
use Prim.Native.Nat.{ℕ}
use Rattle.std.proofs.Math.Decide.{dec_lt}
use native.Mathlib.Omega.{arith}
use Rattle.std.specs.Prelude.{◌≡◌, length}
use Rattle.std.proofs.Common.{sym}
use Rattle.std.proofs.Math.Path.{subst}
use Rattle.std.proofs.Math.Logic.{inl, inr, by_cases}
use mathlib.Core.List.{List, [], ◌∷◌}
use Rattle.paper.specs.Grid.{Node, Dir, rank, step, Grid}
use Rattle.paper.specs.Wire.{Legal, First}
use Rattle.paper.specs.Laws.Least.{rank_inj}
use Rattle.paper.specs.Laws.Steps.{axis_of}
use Rattle.walks.specs.Turns.{Came, fresh, by, bends, Best}
use Rattle.walks.specs.Cost.{AtLeast, Firm}

module _ (τ : ℕ) (G : Grid) (t : Node) where
  -- ---- from above: at each node of w an earlier direction costs more

  firm_first : (m : Came) (p : Node) (w v : List Dir) → Firm τ G t m p w → Legal G p t v → length v ≡ length w → bends τ m v ≡ bends τ m w → First w v
  unfolding Legal First Firm bends
  firm_first m p [] v f l e e' = tt
  firm_first m p (d ∷ w) [] f l e e' = omega arith
  firm_first m p (d ∷ w) (b ∷ v) f l e e' =
      by_cases (dec_lt (rank d) (rank b)) inl λ ge.
      by_cases (dec_lt (rank b) (rank d)) (λ less. absurd (omega (arith, (f.0 b less v l).1 (omega arith)))) λ le.
      let same : b ≡ d = rank_inj b d (omega arith) in
      let l' : Legal G p t (d ∷ v) = subst (λ x. Legal G p t (x ∷ v)) same l in
      let e'' : bends τ m (d ∷ v) ≡ bends τ m (d ∷ w) = subst (λ x. bends τ m (x ∷ v) ≡ bends τ m (d ∷ w)) same e' in
      inr (sym same, firm_first (by (axis_of d)) (step d p) w v f.1 l'.1 (omega arith) (omega arith))

  pub firm_best : (s : Node) (w : List Dir) → Legal G s t w → AtLeast τ G t fresh s (length w) (bends τ fresh w) → Firm τ G t fresh s w → Best τ G s t w
  firm_best s w l h f = record {
    legal = l;
    shortest = λ v l'. (h v l').0;
    straightest = λ v l' e. (h v l').1 (sym e);
    first = λ v l' e e'. firm_first fresh s w v f l' e e';
  }
