-- `blocks::with_item` meets its contract: a keep-out's one stretch as it is, or a wire's stretches widened by c.
use native.Mathlib.Omega.{arith}
use Rattle.blocks.specs.Laws.Added.{adds_keep_out, adds_wire}
use Rattle.blocks.proofs.with_item.Goals as goal

pub returns-then-runs-eq0 : goal.returns-then-runs-eq0
returns-then-runs-eq0 c = adds_keep_out _ _ _ _ (omega arith) c.grow.ensures

pub returns : goal.returns
returns c = adds_wire _ _ _ _ (omega arith) (rw c.from.ensures at c.grow-2.ensures)
