-- `distances::cut::cut` meets its contract: the first j rows are cut off.
use Rattle.distances.specs.Cut.{cut_more}
use Rattle.distances.proofs.cut.cut.Goals as goal

pub loop-j-preserved : goal.loop-j-preserved
loop-j-preserved c = cut_more _ _ _ _ c.loop-j.j _ c.requires.1 c.loop-j.invariant c.cut_row.ensures
