-- `distances::settle::lower` meets its contract: each number of the line in turn.
use Rattle.distances.specs.Going.{Going}
use Rattle.distances.proofs.settle.lower.Given as goal

abbrev pub invariant-loop-k : goal.invariant-loop-k
invariant-loop-k l = let s = l.slab in Going l.initial.d l.d l.shut s.from s.to s.edge s.step s.count s.width l.changed l.k
