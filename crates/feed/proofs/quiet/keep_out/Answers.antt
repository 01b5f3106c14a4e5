-- `feed::quiet::keep_out` meets its contract: put in, or refused by its code.
use mathlib.Core.Path.{sym, ap, subst₂, ◌∙◌}
use Rattle.paper.specs.Padding.{board_of}
use Rattle.paper.specs.Answer.{plain, add_to}
use Rattle.paper.specs.Laws.Back.{layout_of}
use Rattle.paper.specs.Laws.Feeds.{refusing}
use Rattle.feed.specs.Feeding.{Quietly}
use Rattle.feed.specs.Laws.Replying.{keep_out_refused, keep_out_set, keep_out_asks, keep_out_is}
use Rattle.feed.proofs.Arms.{default_quiet}
use Rattle.feed.proofs.quiet.keep_out.Goals as goal

pub add_item-requires : goal.add_item-requires
add_item-requires c = keep_out_asks _ c.requires.0 _ _ _ c.in-Ok.ensures c.rect_item.ensures

pub returns-in-Ok : goal.returns-in-Ok
returns-in-Ok c =
    let l = layout_of c.args.board in
    let t = keep_out_is _ c.requires.0 _ _ _ c.rect_item.ensures in
    let n = c.add_item.ensures ∙ ap (λ t. board_of (add_to l t)) t in
    subst₂ (Quietly l) (sym c.in-KeepOut.is) (sym (c.accepted.ensures ∙ ap (refusing (plain 0)) n))
    (keep_out_set _ c.requires.0 _ _ c.in-Ok.ensures)

pub returns-in-Err : goal.returns-in-Err
returns-in-Err c = subst₂ (Quietly (layout_of c.args.board)) (sym c.in-KeepOut.is) (sym c.refused.ensures) (keep_out_refused _ c.requires.0 _ _ _ c.in-Err.ensures)

pub returns-in_default : goal.returns-in_default
returns-in_default c = default_quiet _ c.requires.0 1 _ c.requires.1 (λ h. c.in_default.not-KeepOut h.0 h.1 h.2) _ c.refused-in_default.ensures
