-- `seams::crossed_at` meets its contract: with those before it.
use Rattle.std.proofs.Common.{rules}
use Rattle.seams.specs.Laws.Crossing.{crossed_says}
use Rattle.seams.proofs.crossed_at.Goals as goal

pub returns : goal.returns
returns c = crossed_says c.args.held.now c.args.i _ _ c.keep_out.ensures (search rules)
