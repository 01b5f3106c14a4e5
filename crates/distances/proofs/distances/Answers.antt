-- `distances::distances` meets its contract: what is even from t on, after whatever changes, is the table of distances when it is cut off.
use Rattle.distances.specs.Ways.{map_of}
use Rattle.distances.specs.Found.{map_fits, good_after, found}
use Rattle.distances.specs.Sweeping.{chain_join}
use Rattle.distances.specs.Start.{good_start}
use Rattle.distances.proofs.distances.Goals as goal

pub returns : goal.returns
returns c =
    let p = c.requires in
    let t = c.args.to in
    let s = c.args.from in
    let m = map_of c.args.map.now in
    let fit = map_fits m p.0 p.1 p.6 p.7 in
    let start = good_start m t.i t.j p.2 p.3 p.0 p.1 _ c.unreached-d.ensures in
    let spread = rw (c.x_axis-x.ensures, c.y_axis-y.ensures) at c.spread.ensures.1 in
    let reached = good_after m fit t.i t.j _ _ start (chain_join spread c.complete.ensures.chain) in
    found m fit t.i t.j s.i s.j p.2 p.3 p.4 p.5 _ _ reached c.complete.ensures.even (rw c.after-far.ensures at c.cut.ensures)
