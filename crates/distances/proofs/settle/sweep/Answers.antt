-- `distances::settle::sweep` meets its contract: one slab after another.
use native.Mathlib.Omega.{arith}
use Rattle.distances.specs.Axis.{slabbed}
use Rattle.distances.specs.Sweeping.{sweeping_first, sweeping_next, sweeping_end}
use Rattle.distances.proofs.settle.sweep.Goals as goal

pub loop-k-init : goal.loop-k-init
loop-k-init c = sweeping_first _ _ _ _ _ c.requires

pub loop-k-preserved : goal.loop-k-preserved
loop-k-preserved c =
    let a = c.args.axis.now in
    let one = slabbed _ _ _ _ a.lines c.args.back c.loop-k.k c.slab.result _ c.slab.ensures c.lower-changed.ensures in
    sweeping_next _ a.shut.now a.at.now a.lines c.args.back _ _ _ c.loop-k.k c.loop-k.invariant c.loop-k-test.true _ one

pub returns : goal.returns
returns c = let a = c.args.axis.now in sweeping_end _ a.shut.now a.at.now a.lines c.args.back _ _ c.loop-k.k c.loop-k.invariant (omega arith)
