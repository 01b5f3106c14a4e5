-- `bends::toward` and `bends::visit` meet their contracts: at each call the distance falls, and `visit` at a crossing stands above `toward` there.
use Prim.Native.Nat.{◌+◌}
use Rattle.trace.specs.Trail.{crossing, distance}
use Rattle.bends.proofs.+toward_visit.Given as goal

-- twice the distance from q
abbrev pub decreases-toward : goal.decreases-toward
decreases-toward l = distance l.chart.now.d.now (crossing l.q) + distance l.chart.now.d.now (crossing l.q)

-- and one more
abbrev pub decreases-visit : goal.decreases-visit
decreases-visit l = distance l.chart.now.d.now (crossing l.q) + distance l.chart.now.d.now (crossing l.q) + 1
