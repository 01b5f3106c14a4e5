-- `places::bad_run` meets its contract: the runs before k have no fault.
use Rattle.places.specs.Laws.{Left}
use Rattle.places.proofs.bad_run.Given as goal

abbrev pub invariant-loop-k : goal.invariant-loop-k
invariant-loop-k l = Left l.size l.held l.item l.n l.k
