-- The rectangles between keep-outs in the words of the struct.
-- Assumes nothing.
use Rattle.std.specs.Prelude.{ℕ, ◌+◌, ◌-◌, ◌≤◌, ◌<◌, ◌≡◌, Bool, true, false, ◌⊎◌, List, [], ◌∷◌, get_or, Option, Some, None}
use Rattle.paper.specs.Limits.{most_blocks}
use Rattle.paper.specs.Grid.{Block, widened, Any, All, Blocked}
use Rattle.paper.specs.Laws.Says.{Says}
use Rattle.paper.specs.Laws.Joins.{join_of}
use Rattle.blocks.specs.declared.Blocks.{Blocks}
use Rattle.blocks.specs.declared.Place.{Place}
use Rattle.blocks.specs.declared.Look.{Look}
use Rattle.blocks.specs.declared.Look.TheVariants.{KeepOuts, Wires}
use Rattle.blocks.specs.Flat.{place_area, place_at, first_at, Fits, Stops, Hit}

-- ---- two rectangles

-- a place as a block that is not widened, and back
abbrev pub place_box : Place → Block
place_box p = widened 0 (place_area p)

abbrev pub box_place : Block → Place
box_place b = record { x0 = b.along_x.lo; y0 = b.along_y.lo; x1 = b.along_x.hi; y1 = b.along_y.hi }

-- the one rectangle, or none
abbrev pub joined_is : Option Place → List Block
joined_is (Some p) = place_box p ∷ []
joined_is None = []

-- ---- the keep-outs that are held

-- each keep-out has its block
pub record Keeps (b : Blocks) : Type 0 where
  pub fits : Fits b
  pub kept : (i : ℕ) → i < b.items → get_or b.wires i false ≡ false → first_at b i < most_blocks

-- item i as a keep-out
abbrev pub kept_at : Blocks → ℕ → Block
kept_at b i = place_box (place_at b (first_at b i))

-- some wire that is held goes across the block
abbrev pub Across : Blocks → Block → Type 0
Across b q = (i : ℕ) × Stops b Wires (box_place q) i

-- item m is a keep-out, and a wire goes across its rectangle with the place
unfoldable pub Crosses : Blocks → Place → ℕ → Type 0
Crosses b p m = (get_or b.wires m false ≡ false) × Any (Across b) (join_of (kept_at b m) (place_box p))

-- one of the first n does so
abbrev pub CrossesOf : Blocks → ℕ → Place → Type 0
CrossesOf b n p = (m : ℕ) × (m < n) × Crosses b p m

-- item i is a keep-out, and a wire goes across its rectangle with one before it
unfoldable pub CrossedAt : Blocks → ℕ → Type 0
CrossedAt b i = (get_or b.wires i false ≡ false) × CrossesOf b i (place_at b (first_at b i))

abbrev pub CrossedAny : Blocks → Type 0
CrossedAny b = (i : ℕ) × (i < b.items) × CrossedAt b i

-- items l and m are keep-outs, and the place goes across their rectangle
unfoldable pub SeamAt : Blocks → Place → ℕ → ℕ → Type 0
SeamAt b p m l = (get_or b.wires l false ≡ false) × (get_or b.wires m false ≡ false) × Blocked (join_of (kept_at b l) (kept_at b m)) (place_area p)

abbrev pub SeamWith : Blocks → Place → ℕ → Type 0
SeamWith b p m = (l : ℕ) × (l < m) × SeamAt b p m l

-- of some two items
abbrev pub SeamOf : Blocks → Place → Type 0
SeamOf b p = (m : ℕ) × (m < b.items) × SeamWith b p m

-- ---- with what blocks the place itself

-- an item that counts blocks it, or else P
unfoldable pub HitOr : Blocks → Look → Place → Type 0 → Bool → Type 0
HitOr b look p P r = (a : Bool) × Hit b look p a × (((a ≡ true) × (r ≡ true)) ⊎ ((a ≡ false) × Says r P))

-- ---- the cells round a node

-- a cell as a place, by its high corner; that below and left of the node first
abbrev pub cell_at : ℕ → ℕ → Place
cell_at x y = record { x0 = x - 1; y0 = y - 1; x1 = x; y1 = y }

abbrev pub cells : ℕ → ℕ → List Place
cells x y = cell_at x y ∷ cell_at (x + 1) y ∷ cell_at x (y + 1) ∷ cell_at (x + 1) (y + 1) ∷ []

-- item i is a keep-out that holds one of them
abbrev pub HoldsOne : Blocks → ℕ → ℕ → ℕ → Type 0
HoldsOne b x y i = Any (λ q. Stops b KeepOuts q i) (cells x y)

-- they are there, and each lies in some keep-out
abbrev pub Sunk : Blocks → ℕ → ℕ → Type 0
Sunk b x y = (1 ≤ x) × (1 ≤ y) × All (λ q. (i : ℕ) × Stops b KeepOuts q i) (cells x y)

-- the first keep-out round a node that is all round covered
unfoldable pub RoundIs : Blocks → ℕ → ℕ → Option ℕ → Type 0
RoundIs b x y (Some i) = Sunk b x y × HoldsOne b x y i × ((j : ℕ) → j < i → ¬ (HoldsOne b x y j))
RoundIs b x y None = ¬ (Sunk b x y)
