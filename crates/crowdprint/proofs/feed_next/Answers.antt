-- `crowdprint::feed_next` meets its contract: the part from the one place to the next is the record.
use Prim.Native.Nat.{ℕ, ◌*◌}
use mathlib.Core.Path.{refl, subst}
use mathlib.Core.List.{List}
use lib.ListN.{replicate}
use Rattle.paper.specs.Answer.{Fed}
use Rattle.sheet.specs.Laws.Pieces.{part_is_piece}
use Rattle.crowdprint.proofs.feed_next.Goals as goal

pub returns : goal.returns
returns c =
    let file : List ℕ = c.args.file.now in
    let lent : List ℕ = replicate 50 0 in
    let after : List ℕ = c.feed_kept.new.answer in
    let reply = c.feed_kept.result.reply in (
      record {
        there = c.requires.0;
        few = c.requires.1;
        lent = lent;
        after = after;
        enough = refl;
        fed = subst (λ p. Fed c.args.board p lent after reply)
            (part_is_piece file (12 * c.args.records) c.after_record-next.result c.after_record-next.ensures) c.feed_kept.ensures.0;
      },
      c.feed_kept.ensures.1,
    )
