use Rattle.trace.proofs.+trace.Given as goal

abbrev pub decreases-trace : goal.decreases-trace
decreases-trace l = l.remaining
