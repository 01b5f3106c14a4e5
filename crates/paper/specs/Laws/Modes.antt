-- Document 02, order 6: what is answered in one mode, beside what is answered in the other.
-- Assumes nothing.
use Prim.Native.Nat.{◌≤◌}
use Rattle.std.proofs.Common.{le_antisymm, sym}
use Rattle.std.specs.Prelude.{◌≡◌, length}
use mathlib.Core.List.{List}
use Rattle.paper.specs.declared.Pins.{Pins}
use Rattle.paper.specs.declared.Mode.{Mode}
use Rattle.paper.specs.declared.Record.{Record}
use Rattle.paper.specs.declared.Record.TheVariants.{Ask}
use Rattle.paper.specs.Grid.{Node, Dir, Grid}
use Rattle.paper.specs.Wire.{Answered, runs_of, Straightest}

-- ---- as short, with no more runs

pub fewest_no_more : (G : Grid) (s t : Node) (w v : List Dir) → Answered G s t w → Straightest G s t v
    → (length v ≡ length w) × (runs_of s v ≤ runs_of s w)
fewest_no_more G s t w v a b =
    let e : length w ≡ length v = le_antisymm (a.shortest v b.legal) (b.shortest w a.legal) in
    (sym e, b.straightest w a.legal e)

-- ---- what kind 4 answers, kind 8 answers

abbrev pub asks : Mode → Pins → Record
asks m p = Ask (record { pins = p; mode = m })
