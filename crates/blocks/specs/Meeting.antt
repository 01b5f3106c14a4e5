-- Two items of a board, as the struct holds them: how many blocks each is, and how far they stay from each other.
-- Assumes nothing.
use Rattle.std.specs.Prelude.{ℕ, ◌≡◌, cond, eqb}
use Rattle.paper.specs.declared.Item.{Item}
use Rattle.paper.specs.declared.Size.{Size}
use Rattle.paper.specs.Layout.{ThingFits}
use Rattle.paper.specs.Padding.{item_of}
use Rattle.paper.specs.Laws.Back.{thing_of}

-- the item has nothing in unused places, and fits on a board of some size
pub record Placed (m : Item) : Type 0 where
  pub whole : m ≡ item_of (thing_of m)
  pub size : Size
  pub fits : ThingFits size (thing_of m)

-- the blocks of an item with so many runs: a keep-out has none, and is one block
abbrev pub block_number : ℕ → ℕ
block_number runs = cond (eqb runs 0) 1 runs

-- two wires keep the distance c, any other two items none
abbrev pub kept_from : ℕ → ℕ → ℕ → ℕ
kept_from a b c = cond (eqb a 0) 0 (cond (eqb b 0) 0 c)
