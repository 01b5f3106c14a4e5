-- One wire's corners, as an item holds them.
-- Assumes nothing.
use Rattle.std.specs.Prelude.{ℕ, Bool, true, false, List, take}
use Rattle.paper.specs.declared.Item.{Item}
use Rattle.paper.specs.Grid.{Node, Axis, level, upright}
use Rattle.paper.specs.Laws.Back.{nodes}

-- an axis, as a flag
abbrev pub axis_for : Bool → Axis
axis_for true = level
axis_for false = upright

-- the item's first n corners
abbrev pub corners_of : Item → ℕ → List Node
corners_of m n = nodes (take n m.xs) (take n m.ys)
