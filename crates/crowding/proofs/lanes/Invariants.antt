-- `crowding::lanes` meets its contract: the first k tracks have their words.
use Rattle.crowding.specs.Filling.{Filled}
use Rattle.crowding.proofs.lanes.Given as goal

abbrev pub invariant-loop-k : goal.invariant-loop-k
invariant-loop-k l = Filled l.upright l.shut l.k l.n l.out
