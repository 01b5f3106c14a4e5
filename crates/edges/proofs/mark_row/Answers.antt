-- `edges::mark_row` meets its contract: the places passed are marked.
use Rattle.std.proofs.Common.{arith, inl, inr}
use Rattle.edges.specs.Laws.{filled_first, filled_more, filled_end}
use Rattle.edges.proofs.mark_row.Goals as goal

pub loop-k-init : goal.loop-k-init
loop-k-init c = (inr (omega arith), filled_first _ _)

pub loop-k-preserved : goal.loop-k-preserved
loop-k-preserved c = let l = c.loop-k in (inl (omega arith), filled_more _ _ _ l.k (omega (arith, l.invariant.1.long)) (omega arith) l.invariant.1)

pub returns : goal.returns
returns c = let l = c.loop-k in filled_end _ _ _ l.k _ (omega arith) l.invariant.0 (omega arith) l.invariant.1
