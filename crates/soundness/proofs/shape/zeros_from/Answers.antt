-- `soundness::shape::zeros_from` meets its contract: on each axis, of the corners from k on.
use Rattle.std.proofs.Common.{rules}
use Rattle.soundness.specs.Laws.Places.{zeros_said}
use Rattle.soundness.proofs.shape.zeros_from.Goals as goal

pub returns-then-all : goal.returns-then-all
returns-then-all c = zeros_said c.args.item.xs c.args.item.ys c.args.k 25 (search rules) (search rules) (search rules)

pub returns-else-all : goal.returns-else-all
returns-else-all c = zeros_said c.args.item.xs c.args.item.ys c.args.k 25 (search rules) (search rules) (search rules)
