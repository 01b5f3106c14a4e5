-- How the arrays are filled: a block more, an item more.
-- Assumes nothing.
use Rattle.std.specs.Prelude.{ℕ, suc, ◌+◌, ◌≤◌, ◌<◌, ◌≡◌, Bool, List, [], ◌∷◌, ◌++◌, map, length, get_or, set}
use Rattle.paper.specs.declared.Item.{Item}
use Rattle.paper.specs.declared.Size.{Size}
use Rattle.paper.specs.Limits.{most_blocks}
use Rattle.paper.specs.Grid.{Node, Area, Block, widened}
use Rattle.paper.specs.Wire.{between}
use Rattle.paper.specs.Layout.{Thing, wires, ThingFits}
use Rattle.paper.specs.Padding.{item_of}
use Rattle.blocks.specs.declared.Blocks.{Blocks}
use Rattle.blocks.specs.declared.Place.{Place}
use Rattle.blocks.specs.Flat.{first_at, listed, packed, flat_of}

-- the block is stored at place `at`
abbrev pub with_block : Blocks → ℕ → Place → ℕ → Blocks
with_block b at p c = record {
  items = b.items;
  first = b.first;
  wires = b.wires;
  x0 = set b.x0 at p.x0;
  y0 = set b.y0 at p.y0;
  x1 = set b.x1 at p.x1;
  y1 = set b.y1 at p.y1;
  c = set b.c at c;
}

-- one item more, whose blocks end before `end`
abbrev pub with_end : Blocks → ℕ → Bool → Blocks
with_end b end wire = record {
  items = b.items + 1;
  first = set b.first (b.items + 1) end;
  wires = set b.wires b.items wire;
  x0 = b.x0;
  y0 = b.y0;
  x1 = b.x1;
  y1 = b.y1;
  c = b.c;
}

abbrev pub corner_at : Item → ℕ → Node
corner_at m k = record { x = get_or m.xs k 0; y = get_or m.ys k 0 }

-- what lies between corners k and k + 1
abbrev pub stretch_at : Item → ℕ → Area
stretch_at m k = between (corner_at m k) (corner_at m (k + 1))

-- the item's first n stretches as blocks
abbrev pub stretched : Item → ℕ → ℕ → List Block
stretched m n c = map (widened c) (listed (stretch_at m) 0 n)

-- there is room for an item of n blocks
abbrev pub Room : Blocks → ℕ → Type 0
Room b n = (b.items < most_blocks) × (first_at b b.items + n ≤ most_blocks)

-- b has these lists, and its last end is the end of the blocks
pub record Carries (b : Blocks) (ss : List ℕ) (fs : List Bool) (bs : List Block) : Type 0 where
  pub same : b ≡ packed ss fs bs
  pub one_more : length ss ≡ suc (length fs)
  pub ends : first_at b b.items ≡ length bs

-- whatever lists b has, r has them with the item's stretches after them
unfoldable pub Grows : Blocks → Item → ℕ → ℕ → Bool → Blocks → Type 0
Grows b m n c wire r = (ss : List ℕ) (fs : List Bool) (bs : List Block) → Carries b ss fs bs
    → r ≡ packed (ss ++ (length bs + n) ∷ []) (fs ++ wire ∷ []) (bs ++ stretched m n c)

-- whatever b holds, r holds it and the item after it
unfoldable pub Adds : Blocks → Item → ℕ → Blocks → Type 0
Adds b m c r = (s : Size) (ts : List Thing) (t : Thing) → ThingFits s t → m ≡ item_of t → b ≡ flat_of c wires ts
    → r ≡ flat_of c wires (ts ++ t ∷ [])
