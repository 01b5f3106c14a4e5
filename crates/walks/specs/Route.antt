-- All together, for a board with blocks as the paper has it: what a search over the tracks finds is the answer on the whole grid.
-- Assumes nothing.
use Rattle.paper.specs.Grid.{Axis, level, upright}
use Rattle.walks.specs.Tracks.{Tracks}

-- the tracks of both axes
abbrev pub tracks : Tracks → Tracks → Axis → Tracks
tracks X Y level = X
tracks X Y upright = Y
