-- `crowding::lanes` meets its contract: at first no track has its words.
use Rattle.crowding.specs.Laws.Marking.{filled_none}
use Rattle.crowding.proofs.lanes.Goals as goal

pub loop-k-init : goal.loop-k-init
loop-k-init c = filled_none c.args.upright c.args.shut.now c.args.n
