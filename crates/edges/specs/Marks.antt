-- Marks on a table of 96 × 96 places.
-- Assumes nothing.
use Rattle.std.specs.Prelude.{ℕ, ◌+◌, ◌*◌, ◌≤◌, ◌<◌, ◌≡◌, List, ◌⊎◌, length, get_or}
use Rattle.paper.specs.Grid.{Node, Axis, Block, Hits, Any, edge}
use Rattle.paper.specs.Laws.Joins.{join_of}
use Rattle.blocks.specs.declared.Blocks.{Blocks}
use Rattle.edges.specs.declared.Range.{Range}

-- the place of the crossing of track i and track j
abbrev pub cell : ℕ → ℕ → ℕ
cell i j = i + j * 96

-- the places from `from` up to `to` are marked, the others as they were
pub record Filled (before after : List ℕ) (from to : ℕ) : Type 0 where
  pub long : length after ≡ length before
  pub marked : (k : ℕ) → from ≤ k → k < to → get_or after k 0 ≡ 1
  pub others : (k : ℕ) → (k < from) ⊎ (to ≤ k) → get_or after k 0 ≡ get_or before k 0

abbrev pub In : Range → Range → ℕ → ℕ → Type 0
In x y i j = ((x.from ≤ i) × (i < x.to)) × ((y.from ≤ j) × (j < y.to))

-- the crossings of both ranges are marked, the others as they were
pub record Boxed (before after : List ℕ) (x y : Range) : Type 0 where
  pub long : length after ≡ length before
  pub marked : (i j : ℕ) → i < 96 → In x y i j → get_or after (cell i j) 0 ≡ 1
  pub others : (i j : ℕ) → i < 96 → ¬ (In x y i j) → get_or after (cell i j) 0 ≡ get_or before (cell i j) 0

-- ---- what is marked

-- block k of the arrays
unfoldable pub box_at : List ℕ → List ℕ → List ℕ → List ℕ → List ℕ → ℕ → Block
box_at x0 y0 x1 y1 c k = record {
  along_x = record { lo = get_or x0 k 0; hi = get_or x1 k 0; c = get_or c k 0 };
  along_y = record { lo = get_or y0 k 0; hi = get_or y1 k 0; c = get_or c k 0 };
}

abbrev pub boxes : Blocks → ℕ → Block
boxes b = box_at b.x0 b.y0 b.x1 b.y1 b.c

abbrev pub crossing : List ℕ → List ℕ → ℕ → ℕ → Node
crossing xs ys i j = record { x = get_or xs i 0; y = get_or ys j 0 }

-- the block meets the first unit edge from the crossing along the axis
unfoldable pub Shuts : Axis → Block → List ℕ → List ℕ → ℕ → ℕ → Type 0
Shuts a b xs ys i j = Hits b (edge a (crossing xs ys i j))

-- the crossings with the property are marked, the others as they were
pub record Added (before after : List ℕ) (nx ny : ℕ) (P : ℕ → ℕ → Type 0) : Type 0 where
  pub long : length after ≡ length before
  pub each : (i j : ℕ) → i < nx → j < ny → (P i j × (get_or after (cell i j) 0 ≡ 1)) ⊎ ((¬ (P i j)) × (get_or after (cell i j) 0 ≡ get_or before (cell i j) 0))
  pub rest : (i j : ℕ) → i < 96 → (nx ≤ i) ⊎ (ny ≤ j) → get_or after (cell i j) 0 ≡ get_or before (cell i j) 0

pub record Blank (d : List ℕ) : Type 0 where
  pub long : length d ≡ 9216
  pub each : (i : ℕ) → i < 9216 → get_or d i 0 ≡ 0

-- the rectangle of two blocks does so
unfoldable pub SeamShuts : Axis → Block → Block → List ℕ → List ℕ → ℕ → ℕ → Type 0
SeamShuts a b d xs ys i j = Any (λ q. Shuts a q xs ys i j) (join_of b d)

-- that of block k and one of the first m
abbrev pub Seam : Axis → List ℕ → List ℕ → (ℕ → Block) → ℕ → ℕ → ℕ → ℕ → Type 0
Seam a xs ys b k m i j = (l : ℕ) × (l < m) × SeamShuts a (b l) (b k) xs ys i j

-- one of the first n blocks shuts the way, or the rectangle of two of them
abbrev pub Shut : Axis → List ℕ → List ℕ → (ℕ → Block) → ℕ → ℕ → ℕ → Type 0
Shut a xs ys b n i j = (k : ℕ) × (k < n) × (Shuts a (b k) xs ys i j ⊎ Seam a xs ys b k k i j)

-- a mark stands just where a way is shut; none stands past the crossings
pub record Marked (a : Axis) (d xs : List ℕ) (nx : ℕ) (ys : List ℕ) (ny : ℕ) (b : ℕ → Block) (n : ℕ) : Type 0 where
  pub long : length d ≡ 9216
  pub each : (i j : ℕ) → i < nx → j < ny → (Shut a xs ys b n i j × (get_or d (cell i j) 0 ≡ 1)) ⊎ ((¬ (Shut a xs ys b n i j)) × (get_or d (cell i j) 0 ≡ 0))
  pub rest : (i j : ℕ) → i < 96 → j < 96 → (nx ≤ i) ⊎ (ny ≤ j) → get_or d (cell i j) 0 ≡ 0
