-- Within a run a refused direction stays refused: a step behind a node that is strictly inside a slab every wire can go alongside, at no more
-- turns. Said once over the direction.
-- Assumes nothing.
use Prim.Native.Nat.{ℕ}
use Rattle.paper.specs.Grid.{Node, Dir, Axis}
use Rattle.paper.specs.Laws.Steps.{axis_of}
use Rattle.walks.specs.Axes.{coord, Sense, sense_of, Further, next}
use Rattle.walks.specs.Tracks.{Tracks, Within}

-- ---- a step that ends strictly inside a slab

-- the step from u does so, on one axis
abbrev pub Inward : Tracks → Sense → ℕ → Type 0
Inward U s u = Further s 1 u (next s u) × Within U u (next s u)

unfoldable pub Inner : (Axis → Tracks) → Dir → Node → Type 0
Inner T d p = Inward (T (axis_of d)) (sense_of d) (coord (axis_of d) p)
