-- `soundness::kept::undone_in_turn` meets its contract: what is left to be undone can be undone in turn just if all of it can.
use Rattle.soundness.specs.Laws.Undone.{Left}
use Rattle.soundness.proofs.kept.undone_in_turn.Given as goal

abbrev pub invariant-loop-left : goal.invariant-loop-left
invariant-loop-left l = Left l.initial.left l.left

abbrev pub decreases-loop-left : goal.decreases-loop-left
decreases-loop-left l = l.left.kept
