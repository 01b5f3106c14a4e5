-- `distances::settle::settle` meets its contract: the sum falls with every pass but the last.
use Prim.Native.Nat.{◌+◌}
use Rattle.distances.specs.Lower.{total}
use Rattle.distances.specs.Axis.{side_of}
use Rattle.distances.specs.Settling.{one, Settling}
use Rattle.distances.proofs.settle.settle.Given as goal

abbrev pub invariant-loop-changed : goal.invariant-loop-changed
invariant-loop-changed l = Settling (side_of l.x) (side_of l.y) l.initial.d l.d l.changed

abbrev pub decreases-loop-changed : goal.decreases-loop-changed
decreases-loop-changed l = total l.d + one l.changed
