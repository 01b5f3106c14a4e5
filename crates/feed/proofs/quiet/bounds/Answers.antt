-- `feed::quiet::bounds` meets its contract: in range or not.
use mathlib.Core.Path.{sym, ap, subst₂, ◌∙◌}
use Rattle.paper.specs.Answer.{plain}
use Rattle.paper.specs.Laws.Back.{layout_of}
use Rattle.paper.specs.Laws.Feeds.{refusing}
use Rattle.paper.specs.Laws.Says.{said, said_not}
use Rattle.feed.specs.Feeding.{Quietly}
use Rattle.feed.specs.Laws.Replying.{bounds_set, bounds_not}
use Rattle.feed.proofs.Arms.{default_quiet}
use Rattle.feed.proofs.quiet.bounds.Goals as goal

pub returns-then-in_range : goal.returns-then-in_range
returns-then-in_range c =
    subst₂ (Quietly (layout_of c.args.board)) (sym c.in-Bounds.is) (sym (c.accepted.ensures ∙ ap (refusing (plain 0)) c.begin.ensures))
    (bounds_set _ c.requires.0 _ (said c.in_range.ensures c.if-in_range.true))

pub returns-else-in_range : goal.returns-else-in_range
returns-else-in_range c =
    subst₂ (Quietly (layout_of c.args.board)) (sym c.in-Bounds.is) (sym c.refused.ensures)
    (bounds_not _ c.requires.0 _ (said_not c.in_range.ensures c.if-in_range.false))

pub returns-in_default : goal.returns-in_default
returns-in_default c = default_quiet _ c.requires.0 0 _ c.requires.1 (λ h. c.in_default.not-Bounds h.0 h.1) _ c.refused-in_default.ensures
