-- `feed::quiet::undo_latest` meets its contract: refused, or undone.
use mathlib.Core.Path.{sym, subst₂, ◌∙◌}
use Rattle.paper.specs.Laws.Back.{layout_of}
use Rattle.feed.specs.Feeding.{Quietly}
use Rattle.feed.specs.Laws.Replying.{no_bounds_yet, undo_none, undo_asks, undo_set}
use Rattle.feed.proofs.Arms.{default_quiet}
use mathlib.Core.Path.{refl}
use mathlib.Core.Logic.{inl}
use Rattle.paper.specs.Answer.{Gives, checks}
use Rattle.paper.specs.Laws.Standing.{well_standing, kept_is}
use Rattle.feed.specs.Laws.Replying.{no_kept, some_kept}
use Rattle.feed.proofs.quiet.undo_latest.Goals as goal

pub returns-then-board-eq0 : goal.returns-then-board-eq0
unfolding Gives checks layout_of
returns-then-board-eq0 c =
    subst₂ (Quietly (layout_of c.args.board)) (sym c.in-Undo.is) (sym c.refused.ensures)
    (no_bounds_yet _ c.requires.0 _ (λ n. inl (c.if-board-eq0.true, refl)))

pub returns-then-board-eq0-2 : goal.returns-then-board-eq0-2
unfolding layout_of
returns-then-board-eq0-2 c =
    let s = well_standing _ c.requires.0 in
    subst₂ (Quietly (layout_of c.args.board)) (sym c.in-Undo.is) (sym c.refused-then-board-eq0-2.ensures)
    (undo_none _ c.requires.0 c.if-board-eq0.false (no_kept _ (sym (kept_is _ s) ∙ c.if-board-eq0-2.true)))

pub undo-requires : goal.undo-requires
unfolding layout_of
undo-requires c =
    let s = well_standing _ c.requires.0 in
    let n = kept_is _ s in
    let z = c.if-board-eq0-2.false in
    (s, undo_asks _ c.requires.0 c.if-board-eq0.false (some_kept c.args.board.kept (layout_of c.args.board).kept n z))

pub returns-else-board-eq0-2 : goal.returns-else-board-eq0-2
unfolding layout_of
returns-else-board-eq0-2 c =
    subst₂ (Quietly (layout_of c.args.board)) (sym c.in-Undo.is) (sym c.accepted.ensures)
    (undo_set _ c.requires.0 _ c.if-board-eq0.false c.undo.ensures)

pub returns-in_default : goal.returns-in_default
returns-in_default c = default_quiet _ c.requires.0 5 _ c.requires.1 (λ e. c.in_default.not-Undo e) _ c.refused-in_default.ensures
