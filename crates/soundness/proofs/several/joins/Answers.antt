-- `soundness::several::joins` meets its contract: the item fits, the blocks are not too many, and it is apart from the others.
use Rattle.std.proofs.Common.{rules}
use Rattle.soundness.specs.Laws.Front.{beside_said}
use Rattle.soundness.proofs.several.joins.Goals as goal

pub returns-then-total-block_number-le-MOST_BLOCKS : goal.returns-then-total-block_number-le-MOST_BLOCKS
returns-then-total-block_number-le-MOST_BLOCKS c = beside_said c.args.size c.args.others.now c.args.item c.requires.1 (search rules)

pub returns-else-total-block_number-le-MOST_BLOCKS : goal.returns-else-total-block_number-le-MOST_BLOCKS
returns-else-total-block_number-le-MOST_BLOCKS c = beside_said c.args.size c.args.others.now c.args.item c.requires.1 (search rules)
