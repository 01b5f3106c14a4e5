-- `seams::crosses` meets its contract: by the rectangle, if there is one.
use Rattle.std.proofs.Common.{rules}
use Rattle.seams.specs.Laws.Crossing.{crosses_wire, crosses_kept}
use Rattle.seams.proofs.crosses.Goals as goal

pub returns-in_default : goal.returns-in_default
returns-in_default c = crosses_wire _ _ _ c.in_default.ensures

pub returns : goal.returns
returns c = crosses_kept c.args.held.now c.args.p c.args.m _ _ _ c.in-Some.ensures c.join.ensures (search rules)
