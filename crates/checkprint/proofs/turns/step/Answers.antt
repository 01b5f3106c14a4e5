-- `checkprint::turns::step` meets its contract: by its letter a piece is a record or a drawn wire.
use Prim.Native.Nat.{ℕ, ◌-◌}
use native.Mathlib.Omega.{arith}
use mathlib.Core.List.{List, []}
use mathlib.Core.Path.{refl, subst}
use lib.ListN.{length, drop, replicate, length-drop}
use lib.Seq.{take_all}
use Rattle.paper.specs.Answer.{Fed}
use Rattle.paper.specs.Drawn.{Judges}
use Rattle.checkprint.specs.Checked.{words_in, feeds, judges}
use Rattle.checkprint.specs.Laws.Placed.{nothing_put}
use Rattle.checkprint.specs.Laws.Pieces.{piece_record, piece_wire}
use Rattle.checkprint.proofs.turns.step.Goals as goal

pub returns-then-piece-eq114 : goal.returns-then-piece-eq114
returns-then-piece-eq114 c =
    let piece : List ℕ = c.args.piece.now in
    let r = c.feed_sound-reply.result in
    record {
      line = [];
      acts = feeds (replicate 50 0) c.feed_sound-reply.new.answer r (piece_record piece c.requires.0 c.if-piece-eq114.true) refl
          (subst (λ p. Fed c.args.board p (replicate 50 0) c.feed_sound-reply.new.answer r)
          (take_all (length piece - 1) (drop 1 piece) (omega (arith, length-drop 1 piece))) c.feed_sound-reply.ensures.0);
      put = nothing_put c.args.line.now;
      well_formed = c.feed_sound-reply.ensures.1;
    }

pub returns : goal.returns
returns c =
    let piece : List ℕ = c.args.piece.now in
    let r = c.wire_line-written.ensures in
    record {
      line = r.writes.bytes;
      acts = judges r.said r.writes.bytes (piece_wire piece c.requires.0 c.if-piece-eq114.false)
          (subst (λ p. Judges c.args.board (words_in p) r.said)
          (take_all (length piece - 2) (drop 2 piece) (omega (arith, length-drop 2 piece))) r.judges) r.writes.spelled;
      put = r.writes.put;
      well_formed = c.requires.3;
    }
