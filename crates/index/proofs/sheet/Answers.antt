-- `index::sheet` meets its contract: the upright tracks, then the level ones.
use Rattle.index.specs.Laws.Lined.{counted}
use Rattle.index.proofs.sheet.Goals as goal

pub returns : goal.returns
returns c = counted _ _ _ c.lines.ensures c.lines-2.ensures
