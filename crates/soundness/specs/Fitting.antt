-- A keep-out's rectangle, as the struct holds it.
-- Assumes nothing.
use Rattle.std.specs.Prelude.{get_or}
use Rattle.paper.specs.declared.Item.{Item}
use Rattle.paper.specs.declared.Rect.{Rect}

abbrev pub rect_of : Item → Rect
rect_of m = record { x0 = get_or m.xs 0 0; y0 = get_or m.ys 0 0; x1 = get_or m.xs 1 0; y1 = get_or m.ys 1 0 }
