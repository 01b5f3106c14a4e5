-- `edges::edges` meets its contract: block after block.
use Rattle.edges.specs.Marks.{box_at, boxes}
use Rattle.edges.specs.Shut.{done_first, done_more}
use Rattle.edges.proofs.edges.Goals as goal

pub loop-k-init : goal.loop-k-init
loop-k-init c = done_first _ _ c.requires.tracks c.requires.blank

pub loop-k-preserved : goal.loop-k-preserved
unfolding box_at
loop-k-preserved c = done_more (boxes c.args.held.now) c.loop-k.k c.loop-k.invariant (rw c.place.ensures at c.mark_block.ensures) c.mark_seams.ensures

pub returns-clause-tracks : goal.returns-clause-tracks
returns-clause-tracks c = (c.loop-k.invariant.x_kept, c.loop-k.invariant.y_kept)
