-- `ask::clear` meets its contract: no block of the one item is met, so none of all is on the place.
use Rattle.ask.specs.Questions.{clear_flat}
use Rattle.ask.proofs.clear.Goals as goal

pub returns : goal.returns
returns c = clear_flat _ _ c.hit.result c.requires c.hit.ensures
