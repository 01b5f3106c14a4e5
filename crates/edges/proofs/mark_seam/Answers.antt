-- `edges::mark_seam` meets its contract: by the rectangle, if there is one.
use Rattle.edges.specs.Marks.{box_at}
use Rattle.edges.specs.Shut.{joined, gains_apart, gains_wide, gains_over}
use Rattle.edges.proofs.mark_seam.Goals as goal

pub returns-then-before-ne0 : goal.returns-then-before-ne0
unfolding box_at
returns-then-before-ne0 c = gains_wide _ _ _ c.if-before-ne0.true

pub returns-in_default : goal.returns-in_default
unfolding box_at
returns-in_default c = gains_apart _ _ _ (joined c.args.held.now c.args.m c.args.k c.if-before-ne0.false c.requires.3 c.place.ensures c.place-2.ensures c.in_default.ensures)

pub returns : goal.returns
unfolding box_at
returns c = gains_over _ _ _ _ (joined c.args.held.now c.args.m c.args.k c.if-before-ne0.false c.requires.3 c.place.ensures c.place-2.ensures c.in-Some.ensures) c.mark_block.ensures
