-- `checkprint::turns::put_piece` meets its contract: the lines that wait leave room for one more, or they are written; then comes the piece's.
use Rattle.checkprint.specs.Standing.{with_waiting}
use Rattle.checkprint.specs.Laws.Placed.{stands_spare, stands_more}
use Rattle.checkprint.proofs.turns.put_piece.Goals as goal

pub returns-clause-stands : goal.returns-clause-stands
returns-clause-stands g c =
    let place = c.args.place.now in
    let out = c.args.out.now in
    let at = c.line_start.new.waiting in
    stands_more (with_waiting place at) out c.step-done.new.line c.args.piece.now c.step-done.result
    (stands_spare place out at c.line_start.ensures.0 c.requires.0) c.step-done.ensures
