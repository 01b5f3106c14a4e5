-- A board as the paper has it: its size, its clearance, its items by rising id and its kept changes; and when it is well formed
-- (document 01, "The twelve-byte record", second paragraph, and "A board is well formed if"; the seams between keep-outs are document 02's order 3).
-- Assumes nothing.
use Rattle.std.specs.Prelude.{ℕ, ◌+◌, ◌≤◌, ◌<◌, ◌≡◌, cond, ◌⊎◌, List, [], ◌∷◌, ◌++◌, map, length, eqb, ltb}
use Rattle.paper.specs.declared.Size.{Size}
use Rattle.paper.specs.declared.Rect.{Rect}
use Rattle.paper.specs.Limits.{most_side, most_clearance, most_blocks, most_runs, most_kept}
use Rattle.paper.specs.Grid.{Node, E, N, step, Axis, level, upright, Grid, edge, Area, Block, widened, Any, All, Pairs, Blocked}
use Rattle.paper.specs.Wire.{runs}

-- ---- items, and what they block

-- a wire is its list of corners
pub data Thing : Type 0 where
  keep_out : ℕ → Rect → Thing
  wire : ℕ → List Node → Thing

abbrev pub id_of : Thing → ℕ
id_of (keep_out i r) = i
id_of (wire i ps) = i

pub data Sort : Type 0 where
  keep_outs wires : Sort

abbrev pub sort_of : Thing → Sort
sort_of (keep_out i r) = keep_outs
sort_of (wire i ps) = wires

abbrev pub rectangle : Rect → Area
rectangle r = record { low = record { x = r.x0; y = r.y0 }; high = record { x = r.x1; y = r.y1 } }

-- the places that an item takes, one for each block that it is
unfoldable pub areas : Thing → List Area
areas (keep_out i r) = rectangle r ∷ []
areas (wire i ps) = runs ps

-- How far items stay from each other: a wire stays the clearance from a wire; else the one only enters no inside of the other.
abbrev pub distance : ℕ → Sort → Sort → ℕ
distance c wires wires = c
distance c wires keep_outs = 0
distance c keep_outs wires = 0
distance c keep_outs keep_outs = 0

-- the blocks that one item, or several, are to something of the sort
unfoldable pub blocks_of : ℕ → Sort → Thing → List Block
blocks_of c to t = map (widened (distance c to (sort_of t))) (areas t)

unfoldable pub blocks_to : ℕ → Sort → List Thing → List Block
blocks_to c to [] = []
blocks_to c to (t ∷ ts) = blocks_of c to t ++ blocks_to c to ts

-- keep-outs plus runs of wires
unfoldable pub block_count : List Thing → ℕ
block_count [] = 0
block_count (t ∷ ts) = length (areas t) + block_count ts

-- ---- seams between keep-outs

-- the unit cell that has q for its high corner lies in the keep-out
unfoldable pub Covers : Thing → Node → Type 0
Covers (keep_out i r) q = ((r.x0 < q.x) × (q.x ≤ r.x1)) × ((r.y0 < q.y) × (q.y ≤ r.y1))
Covers (wire i ps) q = ⊥

unfoldable pub Covered : List Thing → Node → Type 0
Covered ts q = Any (λ t. Covers t q) ts

-- the two unit cells beside a unit edge, and the four round a node, each by its high corner
abbrev pub beside : Axis → Node → List Node
beside level p = step E p ∷ step N (step E p) ∷ []
beside upright p = step N p ∷ step E (step N p) ∷ []

abbrev pub round : Node → List Node
round p = p ∷ step E p ∷ step N p ∷ step N (step E p) ∷ []

unfoldable pub Sealed : List Thing → List Node → Type 0
Sealed ts cells = All (Covered ts) cells

abbrev pub PartOf : Area → Area → Type 0
PartOf e r = ((r.low.x ≤ e.low.x) × (e.high.x ≤ r.high.x)) × ((r.low.y ≤ e.low.y) × (e.high.y ≤ r.high.y))

-- a unit edge of the run lies between two cells of keep-outs
unfoldable pub InSeam : List Thing → Area → Type 0
InSeam ts r = (a : Axis) × (p : Node) × PartOf (edge a p) r × Sealed ts (beside a p)

-- the grid that a wire finds
abbrev pub grid_of : Size → List Thing → Grid
grid_of s ts = record { wide = s.w; high = s.h; Open = λ a p. (¬ (Blocked (blocks_to s.clearance wires ts) (edge a p))) × (¬ (Sealed ts (beside a p))) }

-- a wire that goes along such a seam
unfoldable pub Seamed : List Thing → Thing → Type 0
Seamed ts t = (sort_of t ≡ wires) × Any (InSeam ts) (areas t)

abbrev pub Seamless : List Thing → Type 0
Seamless ts = All (λ t. ¬ (Seamed ts t)) ts

-- ---- items that may stand together

-- one of the places that u takes is blocked by t
unfoldable pub Meet : ℕ → Thing → Thing → Type 0
Meet c t u = Any (Blocked (blocks_of c (sort_of u) t)) (areas u)

-- keep-outs don't overlap, wires go through no keep-out, two wires are at least c apart in x or in y
abbrev pub Apart : ℕ → Thing → Thing → Type 0
Apart c t u = ¬ (Meet c t u)

abbrev pub RectFits : Size → Rect → Type 0
RectFits s r = (r.x0 < r.x1) × (r.x1 ≤ s.w) × (r.y0 < r.y1) × (r.y1 ≤ s.h)

abbrev pub OnBoard : Size → Node → Type 0
OnBoard s p = (p.x ≤ s.w) × (p.y ≤ s.h)

-- the run goes along the axis and is not empty
unfoldable pub Along : Axis → Area → Type 0
Along level r = (r.low.y ≡ r.high.y) × (r.low.x < r.high.x)
Along upright r = (r.low.x ≡ r.high.x) × (r.low.y < r.high.y)

abbrev pub across : Axis → Axis
across level = upright
across upright = level

-- the first run goes along the axis, and each across the one before
unfoldable pub Turning : Axis → List Area → Type 0
Turning a [] = Unit {0}
Turning a (r ∷ rs) = Along a r × Turning (across a) rs

unfoldable pub last_of : Node → List Node → Node
last_of p [] = p
last_of p (q ∷ ps) = last_of q ps

unfoldable pub EndsDiffer : List Node → Type 0
EndsDiffer [] = ⊥
EndsDiffer (p ∷ ps) = ¬ (p ≡ last_of p ps)

pub record WireFits (s : Size) (ps : List Node) : Type 0 where
  pub ends : EndsDiffer ps
  pub some : 1 ≤ length (runs ps)
  pub few : length (runs ps) ≤ most_runs
  pub turning : Turning level (runs ps) ⊎ Turning upright (runs ps)
  pub on : All (OnBoard s) ps

-- an id is 1 to 65535; a field of 16 bits holds no more
unfoldable pub ThingFits : Size → Thing → Type 0
ThingFits s (keep_out i r) = (1 ≤ i) × RectFits s r
ThingFits s (wire i ps) = (1 ≤ i) × WireFits s ps

abbrev pub Below : Thing → Thing → Type 0
Below t u = id_of t < id_of u

-- each alone and two by two
pub record ItemsApart (s : Size) (ts : List Thing) : Type 0 where
  pub rising : Pairs Below ts
  pub each : All (ThingFits s) ts
  pub apart : Pairs (Apart s.clearance) ts
  pub blocks_few : block_count ts ≤ most_blocks

-- and no wire goes along a seam between two of them
pub record ItemsFit (s : Size) (ts : List Thing) : Type 0 where
  pub two : ItemsApart s ts
  pub seamless : Seamless ts

-- ---- changes and their undoing

pub data Turn : Type 0 where
  added : Thing → Turn
  taken : Thing → Turn

-- the item among the others, by its id
unfoldable pub add : Thing → List Thing → List Thing
add t [] = t ∷ []
add t (u ∷ us) = cond (ltb (id_of u) (id_of t)) (u ∷ add t us) (t ∷ u ∷ us)

unfoldable pub without : ℕ → List Thing → List Thing
without i [] = []
without i (u ∷ us) = cond (eqb (id_of u) i) us (u ∷ without i us)

abbrev pub Has : List Thing → Thing → Type 0
Has ts t = Any (λ u. u ≡ t) ts

abbrev pub Used : List Thing → ℕ → Type 0
Used ts i = Any (λ u. id_of u ≡ i) ts

unfoldable pub undo : Turn → List Thing → List Thing
undo (added t) ts = without (id_of t) ts
undo (taken t) ts = add t ts

-- an added item is there, a taken id is free
unfoldable pub CanUndo : Turn → List Thing → Type 0
CanUndo (added t) ts = Has ts t
CanUndo (taken t) ts = ¬ (Used ts (id_of t))

-- the changes, latest first, can be undone in turn, and each time the items fit
unfoldable pub Undoes : Size → List Thing → List Turn → Type 0
Undoes s ts [] = Unit {0}
Undoes s ts (c ∷ cs) = CanUndo c ts × ItemsFit s (undo c ts) × Undoes s (undo c ts) cs

-- ---- the board

pub record Layout : Type 0 where
  pub size : Size
  pub items : List Thing
  pub kept : List Turn  -- latest first

abbrev pub InRange : Size → Type 0
InRange s =
    ((1 ≤ s.w) × (s.w ≤ most_side)) × ((1 ≤ s.h) × (s.h ≤ most_side)) × ((1 ≤ s.clearance) × (s.clearance ≤ most_clearance))

abbrev pub no_bounds : Size
no_bounds = record { w = 0; h = 0; clearance = 0 }

-- a board of the size without items or kept changes; before any bounds
abbrev pub empty : Size → Layout
empty s = record { size = s; items = []; kept = [] }

abbrev pub fresh : Layout
fresh = empty no_bounds

pub record Laid (l : Layout) : Type 0 where
  pub range : InRange l.size
  pub fits : ItemsFit l.size l.items
  pub kept_few : length l.kept ≤ most_kept
  pub undoes : Undoes l.size l.items l.kept

unfoldable pub Sound : Layout → Type 0
Sound l = (l ≡ fresh) ⊎ Laid l
