-- `index::lines` meets its contract: the first k tracks have their lines.
use Rattle.index.specs.Rows.{Put}
use Rattle.index.proofs.lines.Given as goal

abbrev pub invariant-loop-k : goal.invariant-loop-k
invariant-loop-k l = Put l.initial.sheet l.from l.t l.es l.k l.sheet
