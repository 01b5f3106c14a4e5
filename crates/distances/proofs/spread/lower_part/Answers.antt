-- `distances::spread::lower_part` meets its contract: a change for each crossing that is lowered.
use native.Mathlib.Omega.{arith}
use Rattle.distances.specs.Spread.{came_first, came_write}
use Rattle.distances.proofs.spread.lower_part.Goals.{then-near-d+then-near-far, else-near-d}
use Rattle.distances.proofs.spread.lower_part.Goals as goal

pub loop-k-init : goal.loop-k-init
loop-k-init c = came_first c.requires.0

pub loop-k-preserved : goal.loop-k-preserved
loop-k-preserved c =
    let l = c.loop-k in
    let s = c.args.slab.now in
    let e = c.cost.ensures.0 in
    elim c.if-near-d.branch [
      | then-near-d+then-near-far w ↦
          rw (w.d-is, e)
          (came_write _ _ s.from s.to s.edge s.step s.count s.width _ l.k l.invariant (omega arith) (rw e at w.if-near-d.true))
      | else-near-d w ↦ rw w.d-is l.invariant
    ]
