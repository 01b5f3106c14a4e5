-- Document 01, "Board, grid, clearance": the unit grid, and what is blocked.
-- Assumes nothing.
use Rattle.std.specs.Prelude.{ℕ, suc, pred, ◌+◌, ◌≤◌, ◌<◌, ◌⊎◌, List, [], ◌∷◌}

-- ---- nodes, steps and unit edges

pub record Node : Type 0 where
  pub x : ℕ
  pub y : ℕ

-- the four directions, in the order of the answer
pub data Dir : Type 0 where
  E N W S : Dir

abbrev pub rank : Dir → ℕ
rank E = 0
rank N = 1
rank W = 2
rank S = 3

unfoldable pub step : Dir → Node → Node
step E p = record { x = suc p.x; y = p.y }
step N p = record { x = p.x; y = suc p.y }
step W p = record { x = pred p.x; y = p.y }
step S p = record { x = p.x; y = pred p.y }

pub data Axis : Type 0 where
  level upright : Axis

-- The grid as a wire finds it: the nodes from (0,0) to (wide,high), and which unit edges are not blocked.
-- A unit edge is told by its axis and its low end, the left one or the one below.
pub record Grid : Type 1 where
  pub wide : ℕ
  pub high : ℕ
  pub Open : Axis → Node → Type 0

-- the unit edge lies on the board and is not blocked
unfoldable pub Edge : Grid → Axis → Node → Type 0
Edge G level p = (p.x < G.wide) × (p.y ≤ G.high) × G.Open level p
Edge G upright p = (p.x ≤ G.wide) × (p.y < G.high) × G.Open upright p

-- the unit step from p in the direction goes along such an edge
unfoldable pub Free : Grid → Node → Dir → Type 0
Free G p E = Edge G level p
Free G p N = Edge G upright p
Free G p W = (0 < p.x) × Edge G level (step W p)
Free G p S = (0 < p.y) × Edge G upright (step S p)

-- ---- blocks, and what they block

-- a node, a straight run or a rectangle, by its low and its high corner
pub record Area : Type 0 where
  pub low : Node
  pub high : Node

-- on one axis, what lies strictly between lo - c and hi + c; the one point lo where lo = hi and c = 0
pub record Span : Type 0 where
  pub lo : ℕ
  pub hi : ℕ
  pub c : ℕ

-- It has a point in common with what lies between a and b: strictly between the ends where a < b; with the point itself where a = b, which is
-- asked only of spans that are more than one point.
unfoldable pub Meets : Span → ℕ → ℕ → Type 0
Meets s a b = (s.lo < b + s.c) × (a < s.hi + s.c)

-- an open box
pub record Block : Type 0 where
  pub along_x : Span
  pub along_y : Span

-- an area widened by c on all four sides; it may reach below zero or past the board and is not trimmed
abbrev pub widened : ℕ → Area → Block
widened c a = record {
  along_x = record { lo = a.low.x; hi = a.high.x; c = c };
  along_y = record { lo = a.low.y; hi = a.high.y; c = c };
}

unfoldable pub Hits : Block → Area → Type 0
Hits b a = Meets b.along_x a.low.x a.high.x × Meets b.along_y a.low.y a.high.y

-- some member of the list; each member; each two members, in their order
unfoldable pub Any : {A : Type 0} → (A → Type 0) → List A → Type 0
Any P [] = ⊥
Any P (x ∷ xs) = P x ⊎ Any P xs

unfoldable pub All : {A : Type 0} → (A → Type 0) → List A → Type 0
All P [] = Unit {0}
All P (x ∷ xs) = P x × All P xs

unfoldable pub Pairs : {A : Type 0} → (A → A → Type 0) → List A → Type 0
Pairs P [] = Unit {0}
Pairs P (x ∷ xs) = All (P x) xs × Pairs P xs

-- The one place where "blocked" is said: of a node, a unit edge, a run or a rectangle.
unfoldable pub Blocked : List Block → Area → Type 0
Blocked bs a = Any (λ b. Hits b a) bs

abbrev pub node : Node → Area
node p = record { low = p; high = p }

abbrev pub edge : Axis → Node → Area
edge level p = record { low = p; high = step E p }
edge upright p = record { low = p; high = step N p }

-- the grid of a board with these blocks
abbrev pub grid_with : ℕ → ℕ → List Block → Grid
grid_with w h bs = record { wide = w; high = h; Open = λ a p. ¬ (Blocked bs (edge a p)) }
