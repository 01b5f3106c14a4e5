-- `distances::settle::both_ways` meets its contract: a sweep forth and a sweep back.
use Rattle.distances.specs.Axis.{side_of}
use Rattle.distances.specs.Settling.{went_forth, went_back}
use Rattle.distances.proofs.settle.both_ways.Goals as goal

pub returns-then-forth : goal.returns-then-forth
returns-then-forth c =
    rw c.if-forth.true (went_forth (side_of c.args.axis.now) _ _ _ _ (rw c.if-forth.true at c.sweep-forth.ensures) c.sweep-back.ensures)

pub returns-else-forth : goal.returns-else-forth
returns-else-forth c =
    went_back (side_of c.args.axis.now) _ _ _ _ (rw c.if-forth.false at c.sweep-forth.ensures) c.sweep-back.ensures
