-- `distances::cut::cut_row` meets its contract: the first k numbers are cut off.
use Rattle.distances.specs.Cut.{CutRow}
use Rattle.distances.proofs.cut.cut_row.Given as goal

abbrev pub invariant-loop-k : goal.invariant-loop-k
invariant-loop-k l = CutRow l.initial.d l.d l.low l.k l.far
