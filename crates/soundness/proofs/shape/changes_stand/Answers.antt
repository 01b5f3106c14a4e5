-- `soundness::shape::changes_stand` meets its contract: the places that are used, and the others.
use Rattle.std.proofs.Common.{rules}
use Rattle.paper.specs.Laws.Lists.{length_mapped}
use Rattle.paper.specs.Limits.{most_kept}
use Rattle.paper.specs.Padding.{change_of, no_change}
use Rattle.paper.specs.Laws.Back.{turn_of}
use Rattle.soundness.specs.Laws.Places.{slots_said}
use Rattle.soundness.proofs.shape.changes_stand.Goals as goal

pub returns-then-all : goal.returns-then-all
returns-then-all c =
    slots_said change_of turn_of no_change most_kept c.args.n c.args.changes (search (rules, length_mapped)) c.requires (search rules)

pub returns-else-all : goal.returns-else-all
returns-else-all c =
    slots_said change_of turn_of no_change most_kept c.args.n c.args.changes (search (rules, length_mapped)) c.requires (search rules)
