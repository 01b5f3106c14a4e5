-- Where the table has a trail, the contract of `trace` decides every number.
-- Assumes nothing.
use Rattle.std.specs.Prelude.{ℕ, ◌≡◌, Option, List}
use Rattle.std.proofs.Common.{sym, ◌∙◌}
use Rattle.paper.specs.Grid.{Node, Dir}
use Rattle.distances.specs.Ways.{Map}
use Rattle.trace.specs.Trail.{Toll, Trail, Traces}

pub one_traces : {m : Map} {d : List ℕ} {o : Toll} {g q : Node} {came : Option Dir} {left at : ℕ} {xs xs₁ xs₂ ys ys₁ ys₂ : List ℕ} {r₁ r₂ : ℕ} (v : List Dir) → Trail m d o g came left q v
    → Traces m d o g q came left at xs xs₁ ys ys₁ r₁ → Traces m d o g q came left at xs xs₂ ys ys₂ r₂ → (r₁ ≡ r₂) × (xs₁ ≡ xs₂) × (ys₁ ≡ ys₂)
one_traces v l a b =
    (a.counted v l ∙ sym (b.counted v l), a.xs_are v l ∙ sym (b.xs_are v l), a.ys_are v l ∙ sym (b.ys_are v l))
