-- `edges::edges` meets its contract: block after block.
use Rattle.edges.specs.Marks.{boxes}
use Rattle.edges.specs.Shut.{Done}
use Rattle.edges.proofs.edges.Given as goal

abbrev pub invariant-loop-k : goal.invariant-loop-k
invariant-loop-k l = Done l.initial.map l.map (boxes l.held) l.k
