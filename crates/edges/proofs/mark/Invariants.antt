-- `edges::mark` meets its contract: the rows passed are marked.
use Prim.Native.Nat.{◌≤◌}
use mathlib.Core.Logic.{◌⊎◌}
use Rattle.edges.specs.Marks.{Boxed}
use Rattle.edges.specs.Laws.{upto}
use Rattle.edges.proofs.mark.Given as goal

abbrev pub invariant-loop-j : goal.invariant-loop-j
invariant-loop-j l = ((l.j ≤ l.fn.y.to) ⊎ (l.j ≤ l.fn.y.from)) × Boxed l.initial.shut l.shut l.x (upto l.fn.y l.j)
