-- `distances::settle::settle` meets its contract: the sum falls with every pass but the last.
use Rattle.distances.specs.Axis.{side_of}
use Rattle.distances.specs.Settling.{settling_first, settling_on}
use Rattle.distances.proofs.settle.settle.Goals as goal

pub loop-changed-init : goal.loop-changed-init
loop-changed-init c = settling_first _ _ _ c.requires

pub loop-changed-preserved : goal.loop-changed-preserved
loop-changed-preserved c =
    settling_on (side_of c.args.x.now) (side_of c.args.y.now) _ _ _ _ _ c.loop-changed.invariant c.pass-changed.ensures
