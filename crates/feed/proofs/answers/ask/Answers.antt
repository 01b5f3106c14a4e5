-- `feed::answers::ask` meets its contract: the wire told; and what is no record of its kind is malformed.
use mathlib.Core.Path.{sym, subst₂}
use Rattle.paper.specs.Answer.{Replies}
use Rattle.paper.specs.Laws.Back.{layout_of}
use Rattle.feed.specs.Laws.Telling.{ask_told}
use Rattle.feed.proofs.Arms.{default}
use Rattle.feed.proofs.answers.ask.Goals as goal

pub returns-in-Ok : goal.returns-in-Ok
returns-in-Ok c =
    subst₂ (λ rec r. Replies (layout_of c.args.board) rec c.args.answer.now c.write.new.answer r) (sym c.in-Ask.is) (sym c.wire_reply.ensures)
    (ask_told _ c.requires.0 _ _ _ _ c.in-Ok.ensures c.write.ensures)

pub returns-in_default : goal.returns-in_default
returns-in_default c = default _ c.requires.0 3 _ c.requires.1 (λ h. c.in_default.not-Ask h.0 h.1) _ _ c.refused.ensures
