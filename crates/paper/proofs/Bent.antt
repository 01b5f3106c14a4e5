-- The shape of drawn runs: none is refused just where each goes along an axis and across the one before.
-- The definitions and lemmas under it stand in specs/Laws/Bent.
use Rattle.std.specs.Prelude.{ℕ, suc, ◌≤◌, List, [], ◌∷◌, length}
use Rattle.std.proofs.Common.{arith, inl, inr, ⊎_elim}
use Rattle.paper.specs.Grid.{Axis, level, upright, Area}
use Rattle.paper.specs.Layout.{Along, across, Turning}
use Rattle.paper.specs.Drawn.{Bent, Unturned, shape_checks}
use Rattle.paper.specs.Laws.Checks.{Clear}
use Rattle.paper.specs.Laws.Bent.{across_turned, first_straight, straight_not_bent, straight_or}

turned : (a : Axis) (q r : Area) → Along a q → ¬ (Unturned q r) → ¬ (Bent r) → Along (across a) r
turned level q r h n b = ⊎_elim (λ k. absurd (n (inl (h, k)))) (λ k. k) (straight_or r b)
turned upright q r h n b = ⊎_elim (λ k. k) (λ k. absurd (n (inr (h, k)))) (straight_or r b)

pub shape_turning : (a : Axis) (k : ℕ) (q : Area) (rs : List Area) → Along a q → Clear (shape_checks k (q ∷ rs)) → Turning a (q ∷ rs)
unfolding Clear shape_checks Turning
shape_turning a k q [] h c = (h, tt)
shape_turning a k q (r ∷ []) h c = let t = turned a q r h c.1.0 c.1.1.0 in (h, (t, tt))
shape_turning a k q (r ∷ s ∷ rs) h c = let t = turned a q r h c.1.0 c.1.1.0 in (h, shape_turning (across a) (suc k) r (s ∷ rs) t c.1.1)

pub turning_shape : (a : Axis) (k : ℕ) (rs : List Area) → Turning a rs → Clear (shape_checks k rs)
unfolding Clear shape_checks Turning
turning_shape a k [] t = tt
turning_shape a k (q ∷ []) t = (straight_not_bent a q t.0, tt)
turning_shape a k (q ∷ r ∷ rs) t =
    (straight_not_bent a q t.0, (across_turned a q r t.0 t.1.0, turning_shape (across a) (suc k) (r ∷ rs) t.1))

-- runs of a good shape go along the axes by turns
pub by_turns : (k : ℕ) (rs : List Area) → 1 ≤ length rs → Clear (shape_checks k rs) → (a : Axis) × Turning a rs
by_turns k [] h c = absurd (omega arith)
by_turns k (r ∷ rs) h c =
    ⊎_elim (λ a. (level, shape_turning level k r rs a c)) (λ a. (upright, shape_turning upright k r rs a c)) (straight_or r (first_straight k r rs c))
