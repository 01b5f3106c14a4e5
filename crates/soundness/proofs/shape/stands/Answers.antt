-- `soundness::shape::stands` meets its contract: the counts are within the arrays, and each array holds so many and nothing else.
use Rattle.std.proofs.Common.{rules}
use Rattle.paper.specs.Laws.Lists.{length_mapped}
use Rattle.soundness.specs.Laws.Stands.{stands_said}
use Rattle.soundness.proofs.shape.stands.Goals as goal

pub returns-then-items_stand : goal.returns-then-items_stand
returns-then-items_stand c =
    stands_said c.args.board (search (rules, length_mapped)) (search (rules, length_mapped)) (search rules)

pub returns-else-items_stand : goal.returns-else-items_stand
returns-else-items_stand c =
    stands_said c.args.board (search (rules, length_mapped)) (search (rules, length_mapped)) (search rules)
