-- `distances::cut::cut` meets its contract: the first j rows are cut off.
use Rattle.distances.specs.Cut.{CutTo}
use Rattle.distances.proofs.cut.cut.Given as goal

abbrev pub invariant-loop-j : goal.invariant-loop-j
invariant-loop-j l = CutTo l.initial.d l.d l.nx l.j l.far
