-- `soundness::several::seamless` meets its contract: by the blocks to a keep-out.
use Rattle.seams.specs.Laws.Closing.{held_keeps}
use Rattle.soundness.specs.Laws.Seams.{stands_drawn, seamless_says}
use Rattle.soundness.proofs.several.seamless.Goals as goal

pub of_board-requires : goal.of_board-requires
of_board-requires c = stands_drawn _ c.requires.0 c.requires.1

pub crossed-requires : goal.crossed-requires
crossed-requires c = held_keeps c.of_board.ensures

pub returns : goal.returns
returns c = seamless_says _ c.requires.0 c.requires.1 _ _ c.of_board.ensures c.crossed.ensures
