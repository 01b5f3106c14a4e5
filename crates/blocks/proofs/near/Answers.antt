-- `blocks::near` meets its contract: some stretch below n, widened, hits the place.
use Rattle.std.proofs.Common.{rules}
use Rattle.std.proofs.iter.runs.Sources.{ranges}
use Rattle.blocks.specs.Laws.Meeting.{near_said}
use Rattle.blocks.proofs.near.Goals as goal

pub returns : goal.returns
returns c = near_said c.args.item c.args.n c.args.c _ (search (rules, ranges))
