-- `places::fault_of` meets its contract: runs of a good shape are straight.
use borrow.Author.Rules.{rules}
use Rattle.places.specs.Laws.{straight_runs}
use Rattle.places.proofs.fault_of.Goals as goal

pub bad_run-requires-clause-straight : goal.bad_run-requires-clause-straight
bad_run-requires-clause-straight c = straight_runs c.args.item _ c.in_ok-bad_shape.ensures (search rules) (search rules) c.requires.1
