-- `edges::mark_seams` meets its contract: block after block.
use Rattle.edges.specs.Marks.{boxes}
use Rattle.edges.specs.Maps.{BySeams, Gains}
use Rattle.edges.proofs.mark_seams.Given as goal

abbrev pub invariant-loop-m : goal.invariant-loop-m
invariant-loop-m l = Gains l.initial.map l.map (BySeams (boxes l.held) l.k l.m)
