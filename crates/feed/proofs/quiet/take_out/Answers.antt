-- `feed::quiet::take_out` meets its contract: what is no record of its kind is malformed.
use Rattle.feed.proofs.Arms.{default_quiet}
use Rattle.feed.proofs.quiet.take_out.Goals as goal

pub returns-in_default : goal.returns-in_default
returns-in_default c = default_quiet _ c.requires.0 4 _ c.requires.1 (λ h. c.in_default.not-TakeOut h.0 h.1) _ c.refused-in_default.ensures
