-- `shapes::bad_turn` meets its contract: the runs before k have no fault, and the next is to go along the axis that `flat` says.
use Rattle.shapes.specs.Laws.Bad.{Ahead}
use Rattle.shapes.proofs.bad_turn.Given as goal

abbrev pub invariant-loop-k : goal.invariant-loop-k
invariant-loop-k l = Ahead l.item l.n l.k l.flat
