-- `feed::answers::write` meets its contract: after k turns k corners are written.
use native.Mathlib.Omega.{arith}
use borrow.Author.Rules.{rules}
use mathlib.Core.Path.{◌≡◌, refl, sym, ◌∙◌}
use lib.ListN.{length, length-set}
use Rattle.feed.specs.Laws.Slices.{write_first, write_next}
use Rattle.feed.proofs.answers.write.Goals as goal

pub loop-k-init : goal.loop-k-init
loop-k-init c =
    let x : length c.args.w.xs ≡ 25 = search rules in
    let y : length c.args.w.ys ≡ 25 = search rules in
    (refl, write_first c.args.w.xs c.args.w.ys c.args.answer.now (x ∙ sym y))

pub loop-k-preserved : goal.loop-k-preserved
loop-k-preserved c =
    let l = c.loop-k in
    let x : length c.args.w.xs ≡ 25 = search rules in
    let y : length c.args.w.ys ≡ 25 = search rules in (
      simp length-set l.invariant.0,
      write_next _ _ _ (x ∙ sym y) l.k l.answer (omega (arith, x, c.requires, c.loop-k-test.true)) (omega (arith, c.requires, l.invariant.0, c.loop-k-test.true)) l.invariant.1,
    )
