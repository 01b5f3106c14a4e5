-- `soundness::shape::items_stand` meets its contract: the places that are used, and the others.
use Rattle.std.proofs.Common.{rules}
use Rattle.paper.specs.Laws.Lists.{length_mapped}
use Rattle.paper.specs.Limits.{most_blocks}
use Rattle.paper.specs.Padding.{item_of, no_item}
use Rattle.paper.specs.Laws.Back.{thing_of}
use Rattle.soundness.specs.Laws.Places.{slots_said}
use Rattle.soundness.proofs.shape.items_stand.Goals as goal

pub returns-then-all : goal.returns-then-all
returns-then-all c =
    slots_said item_of thing_of no_item most_blocks c.args.n c.args.items (search (rules, length_mapped)) c.requires (search rules)

pub returns-else-all : goal.returns-else-all
returns-else-all c =
    slots_said item_of thing_of no_item most_blocks c.args.n c.args.items (search (rules, length_mapped)) c.requires (search rules)
