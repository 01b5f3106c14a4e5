-- What is marked on a map: on the tables of both axes at once.
-- Assumes nothing.
use Rattle.std.specs.Prelude.{ℕ, ◌≡◌}
use Rattle.paper.specs.Grid.{Axis, level, upright, Block}
use Rattle.tracks.specs.declared.Tracks.{Tracks}
use Rattle.tracks.specs.declared.Map.{Map}
use Rattle.edges.specs.Ranges.{Ascending}
use Rattle.edges.specs.Marks.{Shuts, SeamShuts, Seam, Added}

-- the tracks of both axes are so
pub record Mapped (m : Map) : Type 0 where
  pub x : Ascending m.x
  pub y : Ascending m.y

-- which ways of an axis, on the tracks of both, are meant, told by their low crossing
abbrev pub Ways : Type 1
Ways = Axis → Tracks → Tracks → ℕ → ℕ → Type 0

-- those that the block shuts
abbrev pub ByBlock : Block → Ways
ByBlock b a x y = Shuts a b x.at y.at

-- that the rectangle of two blocks shuts
abbrev pub ByRectangle : Block → Block → Ways
ByRectangle b d a x y = SeamShuts a b d x.at y.at

-- that the rectangle of block k and one of the first m shuts
abbrev pub BySeams : (ℕ → Block) → ℕ → ℕ → Ways
BySeams b k m a x y = Seam a x.at y.at b k m

-- the tracks stay; on each table the ways that are meant are marked, the others as they were
pub record Gains (m n : Map) (P : Ways) : Type 0 where
  pub x_kept : n.x ≡ m.x
  pub y_kept : n.y ≡ m.y
  pub level_ways : Added m.flat n.flat m.x.count m.y.count (P level m.x m.y)
  pub upright_ways : Added m.tall n.tall m.x.count m.y.count (P upright m.x m.y)
