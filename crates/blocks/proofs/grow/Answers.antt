-- `blocks::grow` meets its contract: after k turns the item's first k stretches stand after what was there.
use native.Mathlib.Omega.{arith}
use mathlib.Core.Path.{refl}
use Rattle.blocks.specs.Laws.Grown.{filling_none, filling_more, filling_end}
use Rattle.blocks.proofs.grow.Goals as goal

pub loop-k-init : goal.loop-k-init
loop-k-init c = (refl, filling_none _ _ _)

pub loop-k-preserved : goal.loop-k-preserved
loop-k-preserved c =
    let l = c.loop-k in
    (l.invariant.0, filling_more _ _ _ _ _ _ _ l.invariant.1 (omega arith) c.stretch-p.ensures refl)

pub returns : goal.returns
returns c = filling_end _ _ _ _ _ _ _ _ c.loop-k.invariant.1 (omega arith) c.requires.1.0 c.close.ensures
