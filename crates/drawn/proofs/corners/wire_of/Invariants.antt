-- `drawn::corners::wire_of` meets its contract: k corners stand in the arrays.
use mathlib.Core.Path.{◌≡◌}
use Rattle.drawn.specs.Laws.Numbers.{xs_of, ys_of}
use Rattle.drawn.proofs.corners.wire_of.Given as goal

abbrev pub invariant-loop-k : goal.invariant-loop-k
invariant-loop-k l = (l.xs ≡ xs_of l.numbers l.k) × (l.ys ≡ ys_of l.numbers l.k)
