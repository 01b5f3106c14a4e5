-- `feed::answers::lay` meets its contract: what is no record of its kind is malformed.
use Rattle.feed.proofs.Arms.{default}
use Rattle.feed.proofs.answers.lay.Goals as goal

pub returns-in_default : goal.returns-in_default
returns-in_default c = default _ c.requires.0 2 _ c.requires.1 (λ h. c.in_default.not-Lay h.0 h.1 h.2) _ _ c.refused.ensures
