-- `distances::settle::lower` meets its contract: each number of the line in turn.
use Rattle.distances.specs.Going.{going_first, going_skip, going_write}
use Rattle.distances.proofs.settle.lower.Goals.{then-near-d, else-near-d}
use Rattle.distances.proofs.settle.lower.Goals as goal

pub loop-k-init : goal.loop-k-init
loop-k-init c = going_first _ _ _ _ _ _ _ _ c.requires

pub loop-k-preserved : goal.loop-k-preserved
loop-k-preserved c =
    let l = c.loop-k in
    let s = c.args.slab.now in
    let e = c.cost.ensures.0 in
    elim c.if-near-d.branch [
      | then-near-d w ↦
          rw (w.d-is, w.changed-is, e)
          (going_write _ _ s.from s.to s.edge s.step s.count s.width _ _ l.k l.invariant c.loop-k-test.true s.to_inside (rw e at w.if-near-d.true))
      | else-near-d w ↦
          rw (w.d-is, w.changed-is)
          (going_skip _ _ s.from s.to s.edge s.step s.count s.width _ _ l.k l.invariant (rw e at w.if-near-d.false))
    ]
