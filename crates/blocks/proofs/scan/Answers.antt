-- `blocks::scan` meets its contract: no item before i stops, and what blocks the place among the blocks of item i stands at k or after it.
use native.Mathlib.Omega.{arith}
use borrow.Author.Count.{below_more}
use Rattle.std.proofs.Common.{◌+◌}
use Rattle.paper.specs.Laws.Says.{said, said_not}
use Rattle.blocks.specs.Flat.{block_at}
use Rattle.blocks.specs.Laws.Scanned.{Ahead, ahead_next, ahead_hit, ahead_none, not_looked, not_blocked, first_here, none_left}
use Rattle.blocks.proofs.scan.Goals.{then-counts+else-loop-k-test, else-counts}
use Rattle.blocks.proofs.scan.Goals as goal

pub loop-k-init : goal.loop-k-init
unfolding Ahead
loop-k-init c = (c.requires.ends_few (c.scan.i + 1) (omega arith), (λ q. q, λ q. q))

pub loop-k-preserved : goal.loop-k-preserved
unfolding block_at
loop-k-preserved c =
    (c.loop-k.invariant.0, ahead_next _ _ _ _ _ c.loop-k.invariant.1 c.loop-k-test.true (said_not (rw c.place.ensures at c.overlaps.ensures) c.if-overlaps.false))

pub scan-preserved : goal.scan-preserved
scan-preserved c = (
  omega arith,
  below_more _ c.scan.i c.scan.invariant.1
      (elim c.if-counts.branch [
        | then-counts+else-loop-k-test w ↦ not_blocked _ _ _ _ (ahead_none _ _ _ _ _ w.loop-k.invariant.1 w.loop-k-test.false)
        | else-counts w ↦ not_looked _ _ _ _ _ c.counts.ensures w.if-counts.false
      ]),
)

pub returns-then-i-n : goal.returns-then-i-n
returns-then-i-n c = none_left _ _ _ _ c.if-i-n.true c.scan.invariant.1

pub returns-then-overlaps : goal.returns-then-overlaps
unfolding block_at
returns-then-overlaps c =
    let hit = ahead_hit _ _ _ _ _ c.loop-k.invariant.1 c.loop-k-test.true (said (rw c.place.ensures at c.overlaps.ensures) c.if-overlaps.true) in
    first_here _ _ _ _ _ c.if-i-n.false c.counts.ensures c.if-counts.true hit c.scan.invariant.1
