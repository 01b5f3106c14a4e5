-- The struct `Blocks` in the paper's words: its blocks, item by item, what a scan finds among them, and how they hold a board's items.
-- Assumes nothing.
use Rattle.std.specs.Prelude.{ℕ, zero, suc, ◌+◌, ◌-◌, ◌≤◌, ◌<◌, ◌≡◌, Bool, true, false, not, List, [], ◌∷◌, map, length, get_or, Option, Some, None, is_some}
use Rattle.paper.specs.Limits.{most_blocks}
use Rattle.paper.specs.Grid.{Area, Span, Block, widened, Blocked}
use Rattle.paper.specs.Layout.{Thing, keep_out, wire, Sort, keep_outs, wires, areas, blocks_to, block_count, Layout}
use Rattle.paper.specs.Padding.{filled}
use Rattle.blocks.specs.declared.Blocks.{Blocks}
use Rattle.blocks.specs.declared.Place.{Place}
use Rattle.blocks.specs.declared.Look.{Look}
use Rattle.blocks.specs.declared.Look.TheVariants.{KeepOuts, Wires, Either}

-- ---- the arrays, read

abbrev pub span : ℕ → ℕ → ℕ → Span
span lo hi c = record { lo = lo; hi = hi; c = c }

abbrev pub place_area : Place → Area
place_area p = record { low = record { x = p.x0; y = p.y0 }; high = record { x = p.x1; y = p.y1 } }

abbrev pub place_at : Blocks → ℕ → Place
place_at b k = record { x0 = get_or b.x0 k 0; y0 = get_or b.y0 k 0; x1 = get_or b.x1 k 0; y1 = get_or b.y1 k 0 }

unfoldable pub block_at : Blocks → ℕ → Block
block_at b k = widened (get_or b.c k 0) (place_area (place_at b k))

-- f k, f (k + 1) and so on, n of them
unfoldable pub listed : {A : Type 0} → (ℕ → A) → ℕ → ℕ → List A
listed f k zero = []
listed f k (suc n) = f k ∷ listed f (suc k) n

abbrev pub blocks_from : Blocks → ℕ → ℕ → List Block
blocks_from b k n = listed (block_at b) k n

-- where the blocks of item i start, and those of the item before it end
abbrev pub first_at : Blocks → ℕ → ℕ
first_at b i = get_or b.first i 0

-- the blocks of item i, and those of all items
abbrev pub blocks_in : Blocks → ℕ → List Block
blocks_in b i = blocks_from b (first_at b i) (first_at b (i + 1) - first_at b i)

abbrev pub flat : Blocks → List Block
flat b = blocks_from b 0 (first_at b b.items)

-- every place that the items name is there
pub record Fits (b : Blocks) : Type 0 where
  pub items_few : b.items ≤ most_blocks
  pub ends_few : (i : ℕ) → i ≤ b.items → first_at b i ≤ most_blocks

-- ---- what a scan finds

-- an item counts, by whether it is a wire
abbrev pub looked : Look → Bool → Bool
looked KeepOuts w = not w
looked Wires w = w
looked Either w = true

-- item i counts and blocks the place
unfoldable pub Stops : Blocks → Look → Place → ℕ → Type 0
Stops b look p i = (i < b.items) × (looked look (get_or b.wires i false) ≡ true) × Blocked (blocks_in b i) (place_area p)

-- the first such item, or none
unfoldable pub FirstIs : Blocks → Look → Place → Option ℕ → Type 0
FirstIs b look p (Some i) = Stops b look p i × ((j : ℕ) → j < i → ¬ (Stops b look p j))
FirstIs b look p None = (j : ℕ) → ¬ (Stops b look p j)

-- whether there is one
unfoldable pub Hit : Blocks → Look → Place → Bool → Type 0
Hit b look p r = (f : Option ℕ) × FirstIs b look p f × (r ≡ is_some f)

-- ---- what is held

-- the starts ss with the last end, the flags fs and the blocks bs; every place that is not used holds 0
unfoldable pub packed : List ℕ → List Bool → List Block → Blocks
packed ss fs bs = record {
  items = length fs;
  first = filled 0 (suc most_blocks) ss;
  wires = filled false most_blocks fs;
  x0 = filled 0 most_blocks (map (λ b. b.along_x.lo) bs);
  y0 = filled 0 most_blocks (map (λ b. b.along_y.lo) bs);
  x1 = filled 0 most_blocks (map (λ b. b.along_x.hi) bs);
  y1 = filled 0 most_blocks (map (λ b. b.along_y.hi) bs);
  c = filled 0 most_blocks (map (λ b. b.along_x.c) bs);
}

-- where the blocks of each item start, those of the first at k, and where the last ones end
unfoldable pub starts : ℕ → List Thing → List ℕ
starts k [] = k ∷ []
starts k (t ∷ ts) = k ∷ starts (k + length (areas t)) ts

abbrev pub is_wire : Thing → Bool
is_wire (keep_out i r) = false
is_wire (wire i ps) = true

-- the things as blocks to something of the sort, with the clearance
unfoldable pub flat_of : ℕ → Sort → List Thing → Blocks
flat_of c to ts = packed (starts 0 ts) (map is_wire ts) (blocks_to c to ts)

-- b holds them, and they are not too many
pub record Held (b : Blocks) (c : ℕ) (to : Sort) (ts : List Thing) : Type 0 where
  pub items_few : length ts ≤ most_blocks
  pub blocks_few : block_count ts ≤ most_blocks
  pub same : b ≡ flat_of c to ts

-- it holds the layout's items
abbrev pub HeldOf : Blocks → Sort → Layout → Type 0
HeldOf b to l = Held b l.size.clearance to l.items

-- as the parameter `to_wire` says
abbrev pub sort_to : Bool → Sort
sort_to true = wires
sort_to false = keep_outs
