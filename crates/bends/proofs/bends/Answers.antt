-- `bends::bends` meets its contract.
use Rattle.bends.specs.Visiting.{bends}
use Rattle.bends.proofs.bends.Goals as goal

pub returns : goal.returns
returns c = bends _ _ _ _ _ c.requires _ c.visit.ensures
