-- An item beside others.
-- Assumes nothing.
use Rattle.std.specs.Prelude.{◌+◌, ◌≤◌, List, length}
use Rattle.paper.specs.declared.Size.{Size}
use Rattle.paper.specs.declared.Item.{Item}
use Rattle.paper.specs.Limits.{most_blocks}
use Rattle.paper.specs.Grid.{All}
use Rattle.paper.specs.Layout.{Thing, areas, block_count, Apart, ThingFits}
use Rattle.blocks.specs.Meeting.{Placed}
use Rattle.items.specs.Items.{Whole}

-- they have nothing in unused places; and each fits on a board of some size
pub record AllWhole (ms : List Item) : Type 0 where
  pub few : length ms ≤ most_blocks
  pub each : All Whole ms

pub record AllPlaced (ms : List Item) : Type 0 where
  pub few : length ms ≤ most_blocks
  pub each : All Placed ms

-- what t has to meet so that it may stand with the items ts, but for its id
pub record Joins (s : Size) (ts : List Thing) (t : Thing) : Type 0 where
  pub fits : ThingFits s t
  pub apart : All (Apart s.clearance t) ts
  pub blocks_few : block_count ts + length (areas t) ≤ most_blocks
