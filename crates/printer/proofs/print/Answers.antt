-- `printer::print` is safe, and the last line comes once every record is printed: the steps of each turn go on from those before it, and each
-- but the last prints a record more.
use native.Mathlib.Omega.{arith}
use mathlib.Core.Path.{sym, ◌∙◌}
use mathlib.Core.List.{[], ◌++◌}
use Rattle.text.specs.Laws.Written.{puts_length}
use Rattle.printer.specs.Filled.{here}
use Rattle.printer.specs.Filling.{leads_join, leads_count, fills_over, all_printed}
use Rattle.printer.proofs.print.Goals as goal

pub loop-init : goal.loop-init
loop-init g c =
    let s = c.start.ensures in (
      sym c.zeros-out.ensures,
      record { inside = omega arith; few = omega arith; well_formed = s.1 },
      ([], rw s.0 here),
    )

pub loop-smaller : goal.loop-smaller
loop-smaller g c = omega (arith, leads_count c.fill-place.ensures.filled.leads, c.fill-place.ensures.filled.within.few)

pub loop-preserved : goal.loop-preserved
loop-preserved g c =
    let l = c.loop.invariant in
    let f = c.fill-place.ensures.filled in
    (puts_length f.put ∙ l.0, f.within, (l.2.0 ++ f.steps, leads_join l.2.1 f.leads))

pub finish-requires : goal.finish-requires
finish-requires g c =
    let l = c.loop.invariant in
    let e = c.fill-place.ensures in
    let size = puts_length e.filled.put ∙ l.0 in
    (all_printed (leads_join l.2.1 e.filled.leads) (fills_over e (omega (arith, size)) (omega (arith, c.if-place-before.true))), omega (arith, size))
