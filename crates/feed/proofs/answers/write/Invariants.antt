-- `feed::answers::write` meets its contract: after k turns k corners are written.
use mathlib.Core.Path.{◌≡◌}
use lib.ListN.{length, take}
use Rattle.paper.specs.Answer.{written}
use Rattle.paper.specs.Laws.Back.{nodes}
use Rattle.feed.proofs.answers.write.Given as goal

abbrev pub invariant-loop-k : goal.invariant-loop-k
invariant-loop-k l = (length l.answer ≡ length l.initial.answer) × (l.answer ≡ written (take l.k (nodes l.w.xs l.w.ys)) l.initial.answer)
