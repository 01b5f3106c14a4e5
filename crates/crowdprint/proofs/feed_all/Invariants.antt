-- `crowdprint::feed_all` meets its contract: a record more at each turn, until none is left.
use Rattle.beside.specs.Beside.{Agrees}
use Rattle.crowdprint.specs.Crowded.{Leaves}
use Rattle.crowdprint.proofs.feed_all.Given as goal

abbrev pub invariant-loop-k : goal.invariant-loop-k
invariant-loop-k l = Leaves l.file l.k l.board × Agrees l.board l.index
