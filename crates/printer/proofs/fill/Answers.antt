-- `printer::fill` meets its contract: each step puts a line more after those that stand in the buffer.
use native.Mathlib.Omega.{arith}
use mathlib.Core.Path.{refl}
use borrow.Author.Tests.{ltb-true}
use Rattle.text.specs.Laws.Written.{puts_length}
use Rattle.printer.specs.Filling.{fill_none, fill_more}
use Rattle.printer.proofs.fill.Goals as goal

pub loop-place-init : goal.loop-place-init
loop-place-init c = (refl, fill_none c.requires)

pub loop-place-preserved : goal.loop-place-preserved
loop-place-preserved c =
    let f = fill_more c.loop-place.invariant.1 c.loop-place-test.true (omega (arith, ltb-true)) c.step-line.ensures in
    (puts_length f.put, f)
