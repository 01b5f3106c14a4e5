-- `edges::mark_seams` meets its contract: block after block.
use Rattle.std.proofs.Common.{arith, ◌≡◌}
use Rattle.edges.specs.Marks.{box_at}
use Rattle.edges.specs.Shut.{seams_first, seams_next, seams_wide, gains_mapped}
use Rattle.edges.proofs.mark_seams.Goals as goal

pub returns-then-width-ne0 : goal.returns-then-width-ne0
unfolding box_at
returns-then-width-ne0 c = seams_wide _ _ _ c.if-width-ne0.true

pub loop-m-init : goal.loop-m-init
loop-m-init c = seams_first _ _ _

pub mark_seam-requires : goal.mark_seam-requires
mark_seam-requires c = (gains_mapped c.requires.0 c.loop-m.invariant, omega (arith, c.requires.1), c.requires.1, c.if-width-ne0.false)

pub loop-m-preserved : goal.loop-m-preserved
loop-m-preserved c = seams_next _ _ _ c.loop-m.invariant c.mark_seam.ensures

pub returns : goal.returns
returns c = let l = c.loop-m in let e : l.m ≡ c.args.k = omega arith in rw e at l.invariant
