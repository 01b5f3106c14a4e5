-- `distances::even::row` meets its contract: while the answer is yes the first k ways are even.
use Rattle.std.specs.Prelude.{◌≡◌, true}
use Rattle.distances.specs.Even.{EvenRow}
use Rattle.distances.proofs.even.row.Given as goal

abbrev pub invariant-loop-k : goal.invariant-loop-k
invariant-loop-k l = l.even ≡ true → EvenRow l.d l.shut l.widths l.ways.low l.ways.apart l.k l.far
