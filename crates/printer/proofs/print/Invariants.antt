-- `printer::print` is safe, and the last line comes once every record is printed: the steps of each turn go on from those before it, and each
-- but the last prints a record more.
use mathlib.Core.Path.{◌≡◌}
use mathlib.Core.List.{List}
use Prim.Native.Nat.{◌-◌}
use lib.ListN.{length}
use Rattle.paper.specs.Layout.{fresh}
use Rattle.paper.specs.Padding.{board_of}
use Rattle.sheet.specs.Sheet.{Stepped}
use Rattle.printer.specs.Filled.{Within, Leads}
use Rattle.printer.proofs.print.Given as goal

abbrev pub invariant-loop : goal.invariant-loop
invariant-loop g l =
    (length l.out ≡ 65536) × Within l.file l.place.at l.place.records l.place.board
    × ((ts : List Stepped) × Leads l.file 0 0 (board_of fresh) ts l.place.at l.place.records l.place.board)

abbrev pub decreases-loop : goal.decreases-loop
decreases-loop g l = 65535 - l.place.records
