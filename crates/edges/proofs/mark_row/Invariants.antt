-- `edges::mark_row` meets its contract: the places passed are marked.
use Prim.Native.Nat.{◌≤◌}
use mathlib.Core.Logic.{◌⊎◌}
use Rattle.edges.specs.Marks.{Filled}
use Rattle.edges.proofs.mark_row.Given as goal

abbrev pub invariant-loop-k : goal.invariant-loop-k
invariant-loop-k l = ((l.k ≤ l.to) ⊎ (l.k ≤ l.from)) × Filled l.initial.shut l.shut l.from l.k
