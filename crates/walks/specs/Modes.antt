-- The best wire is the answered one: where a turn costs nothing, and where it costs one. Turns of a shortest wire are its corners.
-- Assumes nothing.
use Prim.Native.Nat.{ℕ, suc, ◌+◌}
use Rattle.std.proofs.Common.{arith, sym, ap, subst, ⊎_elim}
use Rattle.std.specs.Prelude.{◌≡◌, List, [], ◌∷◌}
use Rattle.std.proofs.Math.Path.{refl}
use Rattle.std.proofs.Math.ListN.{length}
use Rattle.paper.specs.declared.Mode.{Mode}
use Rattle.paper.specs.declared.Mode.TheVariants.{Plain, Fewest}
use Rattle.paper.specs.Grid.{Node, Dir, step, Axis, level, upright, Grid}
use Rattle.paper.specs.Wire.{Legal, turns, corners, runs, runs_of, Straightest, AnsweredIn}
use Rattle.paper.specs.Layout.{across}
use Rattle.paper.specs.Laws.Back.{length_runs}
use Rattle.paper.specs.Laws.Steps.{axis_of, onward, Shortest, Forward, forward}
use Rattle.paper.specs.Laws.Traced.{turns_on, turns_at}
use Rattle.walks.specs.Turns.{fresh, by, fee, fee_none, bends, Best, best_answered}

corners_after : (d : Dir) (p : Node) (v : List Dir) → Forward d v → length (turns d p v) ≡ suc (bends 1 (by (axis_of d)) v)
unfolding Forward bends
corners_after d p [] f = unfold turns in refl
corners_after d p (e ∷ v) f =
    let r = corners_after e (step e p) v f.1 in
    ⊎_elim (λ k. omega (arith, ap length (turns_on d e p v k.1), r, same e k.0))
    (⊎_elim (λ k. omega (arith, ap length (turns_at d e p v k.1), r, other e k.0)) (λ k. absurd (f.0 k))) (onward d e)
  where
    same : (e : Dir) → d ≡ e → fee 1 (axis_of d) (axis_of e) ≡ 0
    same e k = subst (λ e. fee 1 (axis_of d) (axis_of e) ≡ 0) k (fee_none 1 (axis_of d))

    turned : (a : Axis) → fee 1 a (across a) ≡ 1
    turned level = refl
    turned upright = refl

    other : (e : Dir) → axis_of e ≡ across (axis_of d) → fee 1 (axis_of d) (axis_of e) ≡ 1
    other e k = subst (λ b. fee 1 (axis_of d) b ≡ 1) (sym k) (turned (axis_of d))

-- a shortest wire of a step or more has two corners more than turns
corners_turns : (G : Grid) (s t : Node) (d : Dir) (v : List Dir) → Legal G s t (d ∷ v) → Shortest G s t (d ∷ v)
    → length (corners s (d ∷ v)) ≡ suc (suc (bends 1 fresh (d ∷ v)))
unfolding corners bends
corners_turns G s t d v l h = omega (arith, corners_after d (step d s) v (forward G s t d v l h))

runs_bends : (G : Grid) (s t : Node) (d : Dir) (v : List Dir) → Legal G s t (d ∷ v) → Shortest G s t (d ∷ v)
    → runs_of s (d ∷ v) ≡ suc (bends 1 fresh (d ∷ v))
runs_bends G s t d v l h =
    let r : length (runs (corners s (d ∷ v))) ≡ length (turns d (step d s) v) = unfold corners in length_runs s (turns d (step d s) v) in
    let c : length (corners s (d ∷ v)) ≡ suc (length (turns d (step d s) v)) = unfold corners in refl in
    omega (arith, r, c, corners_turns G s t d v l h)

-- of two shortest wires the one has as many runs more than the other as it has turns more
same_more : (G : Grid) (s t : Node) (w v : List Dir) → Legal G s t w → Shortest G s t w → Legal G s t v → length v ≡ length w
    → runs_of s w + bends 1 fresh v ≡ runs_of s v + bends 1 fresh w
same_more G s t [] [] l h l' e = refl
same_more G s t [] (b ∷ v) l h l' e = absurd (omega arith)
same_more G s t (a ∷ w) [] l h l' e = absurd (omega arith)
same_more G s t (a ∷ w) (b ∷ v) l h l' e =
    omega (arith, runs_bends G s t a w l h, runs_bends G s t b v l' (λ u k. omega (arith, h u k)))

best_straightest : (G : Grid) (s t : Node) (w : List Dir) → Best 1 G s t w → Straightest G s t w
best_straightest G s t w b = record {
  legal = b.legal;
  shortest = b.shortest;
  straightest = λ v l e. omega (arith, same_more G s t w v b.legal b.shortest l e, b.straightest v l e);
  first = λ v l e q. b.first v l e (omega (arith, same_more G s t w v b.legal b.shortest l e));
}

-- ---- in each mode

-- what a turn costs
abbrev pub price_of : Mode → ℕ
price_of Plain = 0
price_of Fewest = 1

pub best_in : (m : Mode) (G : Grid) (s t : Node) (w : List Dir) → Best (price_of m) G s t w → AnsweredIn m G s t w
best_in Plain = best_answered
best_in Fewest = best_straightest
