-- `blocks::gather` meets its contract: after i turns the first i items are held.
use mathlib.Core.Path.{◌≡◌}
use lib.ListN.{take}
use Rattle.paper.specs.Layout.{wires}
use Rattle.paper.specs.Laws.Back.{layout_of}
use Rattle.blocks.specs.Flat.{flat_of}
use Rattle.blocks.proofs.gather.Given as goal

abbrev pub invariant-loop-i : goal.invariant-loop-i
invariant-loop-i l = l.out ≡ flat_of l.c wires (take l.i (layout_of l.board).items)
