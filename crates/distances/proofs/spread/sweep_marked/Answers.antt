-- `distances::spread::sweep_marked` meets its contract: one slab after another.
use Rattle.distances.specs.Axis.{across}
use Rattle.distances.specs.Sweeping.{slab_in}
use Rattle.distances.specs.Spread.{came_first, came_then, came_as}
use Rattle.distances.proofs.spread.sweep_marked.Goals as goal

pub loop-k-init : goal.loop-k-init
loop-k-init c = came_first c.requires

pub loop-k-preserved : goal.loop-k-preserved
loop-k-preserved c =
    let a = c.args.axis.now in
    let s = c.slab-slab.result in
    let one = came_as (λ d e h. across d e a.shut.now a.at.now a.lines c.args.back c.loop-k.k s c.slab-slab.ensures (slab_in a.lines c.args.back c.loop-k.k c.loop-k-test.true) h) c.lower_part-lowered.ensures in
    came_then c.loop-k.invariant one
