-- `distances::settle::pass` meets its contract: the one axis, then the other.
use Rattle.distances.specs.Axis.{side_of}
use Rattle.distances.specs.Settling.{passed_x, passed_y}
use Rattle.distances.proofs.settle.pass.Goals as goal

pub returns-then-on_x : goal.returns-then-on_x
returns-then-on_x c =
    rw c.if-on_x.true (passed_x (side_of c.args.x.now) (side_of c.args.y.now) _ _ _ _ (rw c.if-on_x.true at c.both_ways-on_x.ensures) c.both_ways-on_y.ensures)

pub returns-else-on_x : goal.returns-else-on_x
returns-else-on_x c =
    passed_y (side_of c.args.x.now) (side_of c.args.y.now) _ _ _ _ (rw c.if-on_x.false at c.both_ways-on_x.ensures) c.both_ways-on_y.ensures
