-- `distances::spread::lower_part` meets its contract: a change for each crossing that is lowered.
use Rattle.distances.specs.Lower.{Change}
use Rattle.distances.specs.Spread.{Came}
use Rattle.distances.proofs.spread.lower_part.Given as goal

abbrev pub invariant-loop-k : goal.invariant-loop-k
invariant-loop-k l = let s = l.slab in Came (Change l.shut s.from s.to s.edge s.step s.count s.width) l.initial.d l.d
