-- `distances::settle::sweep` meets its contract: one slab after another.
use Rattle.distances.specs.Sweeping.{Sweeping}
use Rattle.distances.proofs.settle.sweep.Given as goal

abbrev pub invariant-loop-k : goal.invariant-loop-k
invariant-loop-k l = Sweeping l.initial.d l.d l.axis.shut.now l.axis.at.now l.axis.lines l.back l.changed l.k
