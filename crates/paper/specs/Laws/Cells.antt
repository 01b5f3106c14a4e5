-- With the rectangles of two among the blocks, what cells say of unit edges is what blocks say.
-- Assumes nothing.
use Rattle.std.specs.Prelude.{ℕ, ◌≤◌, ◌<◌, ◌≡◌, ◌↔◌}
use mathlib.Core.List.{List}
use Rattle.paper.specs.Grid.{Node, E, N, step, Axis, level, upright, Span, Block, Any, All}
use Rattle.paper.specs.Layout.{beside}

-- ---- cells and rectangles

abbrev pub CoversOn : Span → ℕ → Type 0
CoversOn s u = (s.c ≡ 0) × (s.lo < u) × (u ≤ s.hi)

-- the cell lies in the block, which is not widened
unfoldable pub Within : Node → Block → Type 0
Within q b = CoversOn b.along_x q.x × CoversOn b.along_y q.y

abbrev pub Filled : List Block → Node → Type 0
Filled bs q = Any (Within q) bs

-- the two cells of an edge: the one below or left of it, and the other
abbrev pub near : Axis → Node → Node
near level p = step E p
near upright p = step N p

abbrev pub far : Axis → Node → Node
far level p = step N (step E p)
far upright p = step E (step N p)

-- ---- a list of blocks

-- the cells beside an edge, one by one
pub cells : (P : Node → Type 0) (a : Axis) (p : Node) → All P (beside a p) ↔ (P (near a p) × P (far a p))
unfolding All
cells P level p = (λ h. (h.0, h.1.0), λ h. (h.0, (h.1, tt)))
cells P upright p = (λ h. (h.0, h.1.0), λ h. (h.0, (h.1, tt)))
