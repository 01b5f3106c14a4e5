-- `soundness::shape::whole` meets its contract: zeros from the corner after the last one on; a wire with too many runs is read back as another.
use Rattle.std.proofs.Common.{arith, rules}
use Rattle.paper.specs.Laws.Says.{says_as, says_le}
use Rattle.soundness.specs.Laws.Whole.{whole_keep_out, whole_wire, whole_few}
use Rattle.soundness.proofs.shape.whole.Goals as goal

pub returns-then-runs-eq0 : goal.returns-then-runs-eq0
returns-then-runs-eq0 c =
    whole_keep_out c.args.item (search rules) (search rules) _ (omega (arith, c.from-runs.ensures, c.if-runs-eq0.true)) c.zeros_from.ensures

pub returns-then-runs-le-MOST_RUNS : goal.returns-then-runs-le-MOST_RUNS
returns-then-runs-le-MOST_RUNS c =
    whole_wire c.args.item (search rules) (search rules) _ (omega (arith, c.from-runs.ensures, c.if-runs-eq0.false)) (omega (arith, c.from-runs.ensures, c.if-runs-le-MOST_RUNS.true))
    (rw c.from-runs.ensures at c.zeros_from-then-runs-le-MOST_RUNS.ensures)

pub returns-else-runs-le-MOST_RUNS : goal.returns-else-runs-le-MOST_RUNS
returns-else-runs-le-MOST_RUNS c =
    says_as (λ h. absurd (omega (arith, h, c.if-runs-le-MOST_RUNS.false))) (λ w. omega (arith, c.from-runs.ensures, whole_few c.args.item (search rules) (search rules) w))
    (says_le _ _)
