-- `soundness::shape::whole_change` meets its contract: taken, or the kind that adds the item.
use Rattle.std.proofs.Common.{rules}
use Rattle.soundness.specs.Laws.Whole.{change_said}
use Rattle.soundness.proofs.shape.whole_change.Goals as goal

pub returns-then-change-adding : goal.returns-then-change-adding
returns-then-change-adding c = change_said c.args.change (search rules)

pub returns-else-change-adding : goal.returns-else-change-adding
returns-else-change-adding c = change_said c.args.change (search rules)
