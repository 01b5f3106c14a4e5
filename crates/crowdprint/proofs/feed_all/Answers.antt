-- `crowdprint::feed_all` meets its contract: a record more at each turn, until none is left.
use Rattle.beside.specs.Laws.{agrees_of}
use Rattle.crowdprint.specs.Crowded.{none, more}
use Rattle.crowdprint.proofs.feed_all.Goals as goal

pub loop-k-init : goal.loop-k-init
loop-k-init c = let s = c.start-board.ensures in (rw s.0 none, agrees_of _ _ s.1 c.of_board-index.ensures)

pub loop-k-preserved : goal.loop-k-preserved
loop-k-preserved c = let f = c.feed_next-kept.ensures in (more c.loop-k.invariant.0 f.0, f.1)
