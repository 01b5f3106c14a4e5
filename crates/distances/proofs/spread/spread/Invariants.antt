-- `distances::spread::spread` meets its contract: the one axis and the other, by turns.
use Rattle.distances.specs.Settle.{Either}
use Rattle.distances.specs.Axis.{side_of}
use Rattle.distances.specs.Spread.{Came}
use Rattle.distances.proofs.spread.spread.Given as goal

abbrev pub invariant-loop-turn : goal.invariant-loop-turn
invariant-loop-turn l = Came (Either (side_of l.x) (side_of l.y)) l.initial.d l.d
