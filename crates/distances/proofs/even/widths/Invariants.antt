-- `distances::even::widths` meets its contract: the first k widths stand.
use Rattle.std.specs.Prelude.{◌+◌}
use Rattle.distances.specs.Even.{WidthsOf}
use Rattle.distances.proofs.even.widths.Given as goal

abbrev pub invariant-loop-k : goal.invariant-loop-k
invariant-loop-k l = WidthsOf l.at (l.k + 1) l.out
