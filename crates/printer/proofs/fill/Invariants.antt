-- `printer::fill` meets its contract: each step puts a line more after those that stand in the buffer.
use Prim.Native.Nat.{◌-◌}
use mathlib.Core.Path.{◌≡◌}
use lib.ListN.{length}
use Rattle.printer.specs.Filled.{Filled}
use Rattle.printer.proofs.fill.Given as goal

abbrev pub invariant-loop-place : goal.invariant-loop-place
invariant-loop-place l =
    (length l.out ≡ length l.initial.out) × Filled l.file l.fn.from.at l.fn.from.records l.fn.from.board l.initial.out l.out l.place.at l.place.records l.place.waiting l.place.board

abbrev pub decreases-loop-place : goal.decreases-loop-place
decreases-loop-place l = 65535 - l.place.records
