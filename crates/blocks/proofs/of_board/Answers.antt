-- `blocks::of_board` meets its contract: to a wire with the clearance, to a keep-out with none.
use Rattle.paper.specs.Laws.Back.{layout_of}
use Rattle.blocks.specs.Laws.Board.{held_near}
use Rattle.blocks.proofs.of_board.Goals as goal

pub returns-then-to_wire : goal.returns-then-to_wire
unfolding layout_of
returns-then-to_wire c = rw c.if-to_wire.true c.gather.ensures

pub returns : goal.returns
unfolding layout_of
returns c = rw c.if-to_wire.false (held_near _ _ _ c.gather-2.ensures)
