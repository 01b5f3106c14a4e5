-- `sheet::step` meets its contract: the part from the one place to the next is the record, and what is fed is printed.
use Prim.Native.Nat.{ℕ}
use native.Mathlib.Omega.{arith}
use mathlib.Core.Path.{refl, subst}
use mathlib.Core.List.{List}
use lib.ListN.{replicate}
use Rattle.paper.specs.Answer.{Fed}
use Rattle.sheet.specs.Laws.Pieces.{length_piece, part_is_piece}
use Rattle.sheet.specs.Laws.Lent.{fed_room}
use Rattle.sheet.proofs.step.Goals as goal

pub feed_sound-reply-requires : goal.feed_sound-reply-requires
feed_sound-reply-requires c = c.requires.3

pub put_line-written-requires : goal.put_line-written-requires
put_line-written-requires c =
    let room = fed_room _ _ _ _ _ c.feed_sound-reply.ensures.0 in
    (c.requires.1, omega (arith, room, c.feed_sound-reply.auto.answer), room, c.requires.2)

pub returns : goal.returns
returns c =
    let w = c.put_line-written.ensures in
    let file : List ℕ = c.args.file.now in
    let at : ℕ = c.args.at in
    let lent : List ℕ = replicate 50 0 in
    let after : List ℕ = c.feed_sound-reply.new.answer in
    record {
      line = w.bytes;
      steps = record {
        lent = lent;
        after = after;
        reply = c.feed_sound-reply.result;
        enough = refl;
        fed = subst (λ p. Fed c.args.board p lent after c.feed_sound-reply.result)
            (part_is_piece file at c.after_record-next.result c.after_record-next.ensures) c.feed_sound-reply.ensures.0;
        printed = w.spelled;
        next_is = omega (arith, c.after_record-next.ensures, length_piece file at);
        board_is = refl;
      };
      put = w.put;
      well_formed = c.feed_sound-reply.ensures.1;
    }
