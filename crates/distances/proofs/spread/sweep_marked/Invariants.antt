-- `distances::spread::sweep_marked` meets its contract: one slab after another.
use Rattle.distances.specs.Sweep.{Across}
use Rattle.distances.specs.Spread.{Came}
use Rattle.distances.proofs.spread.sweep_marked.Given as goal

abbrev pub invariant-loop-k : goal.invariant-loop-k
invariant-loop-k l = Came (Across l.axis.shut.now l.axis.at.now l.axis.lines l.back) l.initial.d l.d
