-- `bends::count` meets its contract: the least of both axes, a turn more from the other.
use Rattle.bends.specs.Counting.{counted}
use Rattle.bends.proofs.count.Goals as goal

pub returns : goal.returns
returns c =
    rw (c.write.ensures, c.min-2.ensures, c.min.ensures)
    (counted _ _ _ _ _ c.args.chart.now.charted c.requires _ _ c.least-h.ensures c.least-v.ensures)
