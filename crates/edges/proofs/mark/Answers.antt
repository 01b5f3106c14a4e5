-- `edges::mark` meets its contract: the rows passed are marked.
use Rattle.std.proofs.Common.{arith, inl, inr}
use Rattle.edges.specs.Laws.{boxed_first, boxed_more, boxed_end}
use Rattle.edges.proofs.mark.Goals as goal

pub loop-j-init : goal.loop-j-init
loop-j-init c = (inr (omega arith), boxed_first _ _ c.args.y)

pub loop-j-preserved : goal.loop-j-preserved
loop-j-preserved c =
    (inl (omega arith), boxed_more _ _ _ c.args.x c.args.y c.loop-j.j c.requires.1 (omega arith) c.loop-j.invariant.1 c.mark_row.ensures)

pub returns : goal.returns
returns c = boxed_end _ _ _ c.args.y c.loop-j.j (omega arith) c.loop-j.invariant.0 (omega arith) c.loop-j.invariant.1
