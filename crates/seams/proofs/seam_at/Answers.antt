-- `seams::seam_at` meets its contract: by the rectangle, if there is one.
use Rattle.std.proofs.Common.{rules}
use Rattle.seams.specs.Laws.Crossing.{seam_first, seam_second, seam_kept}
use Rattle.seams.proofs.seam_at.Goals as goal

pub returns-in_default : goal.returns-in_default
returns-in_default c = seam_second _ _ _ _ c.in_default.ensures'

pub returns-in_default-2 : goal.returns-in_default-2
returns-in_default-2 c = seam_first _ _ _ _ (rw c.in_default.is-0 at c.keep_out.ensures)

pub returns-in-Some-Some : goal.returns-in-Some-Some
returns-in-Some-Some c = seam_kept c.args.held.now c.args.p c.args.m c.args.l _ _ _ _ c.in-Some-Some.ensures c.in-Some-Some.ensures' c.join.ensures (search rules)
