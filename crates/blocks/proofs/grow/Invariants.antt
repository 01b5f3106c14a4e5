-- `blocks::grow` meets its contract: after k turns the item's first k stretches stand after what was there.
use mathlib.Core.Path.{◌≡◌}
use Rattle.blocks.specs.Laws.Grown.{Filling}
use Rattle.blocks.proofs.grow.Given as goal

abbrev pub invariant-loop-k : goal.invariant-loop-k
invariant-loop-k l = (l.b.items ≡ l.initial.b.items) × Filling l.initial.b l.item l.c l.k l.b
