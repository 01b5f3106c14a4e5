-- `feed::answers::lay_wire` meets its contract: no room, or written and put in.
use native.Mathlib.Omega.{arith}
use mathlib.Core.Path.{refl, ap, ◌∙◌}
use mathlib.Core.Logic.{inl, inr}
use Rattle.paper.specs.Padding.{board_of}
use Rattle.paper.specs.Answer.{add_to}
use Rattle.paper.specs.Laws.Back.{thing_of, layout_of}
use Rattle.feed.specs.Feeding.{wired_reply, Lays}
use Rattle.feed.proofs.answers.lay_wire.Goals as goal

pub returns-then-found-w : goal.returns-then-found-w
unfolding Lays
returns-then-found-w c =
    let p = c.requires in
    inl (omega (arith, p.two, c.if-found-w.true), c.refused.ensures, refl)

pub returns : goal.returns
unfolding Lays
returns c =
    let l = layout_of c.args.board in
    let b = c.add_item-next.ensures ∙ ap (λ m. board_of (add_to l (thing_of m))) c.wire_item.ensures in
    inr (omega (arith, c.requires.two, c.if-found-w.false), c.wire_reply.ensures ∙ ap (λ b. wired_reply b c.args.found.wire) b, c.write.ensures)
