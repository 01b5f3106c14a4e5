-- `seams::join` meets its contract: by the numbers on each axis.
use Rattle.std.proofs.Common.{arith}
use Rattle.seams.specs.Laws.Rectangle.{Commonly, joined_beam, joined_post, joined_none}
use Rattle.seams.proofs.join.Goals.{else-x0-x1-via-then-x0-x1+else-y0-y1, else-x0-x1-via-else-x0-x1, else-x0-x1-2-via-then-x0-x1-2+else-y0-y1-2, else-x0-x1-2-via-else-x0-x1-2, After-min-y1}
use Rattle.seams.proofs.join.Goals as goal

-- what is common on each axis
known : (c : After-min-y1) → Commonly c.args.a c.args.b c.max-x0.result c.max-y0.result c.min-x1.result c.min-y1.result
known c = record { low_x = c.max-x0.ensures; low_y = c.max-y0.ensures; high_x = c.min-x1.ensures; high_y = c.min-y1.ensures }

pub returns-then-y0-y1 : goal.returns-then-y0-y1
returns-then-y0-y1 c =
    joined_beam _ _ _ _ _ _ (known c.before.before.before.before) _ _ c.min.ensures c.max.ensures c.if-x0-x1.true c.if-y0-y1.true

pub returns-then-y0-y1-2 : goal.returns-then-y0-y1-2
returns-then-y0-y1-2 c =
    joined_post _ _ _ _ _ _ (known c.before.before.before.before.before) _ _ c.min-then-y0-y1-2.ensures c.max-then-y0-y1-2.ensures c.if-x0-x1-2.true c.if-y0-y1-2.true

pub returns : goal.returns
returns c = joined_none _ _ _ _ _ _ (known c.before.before)
    (λ k. elim c.else-x0-x1.branch [ else-x0-x1-via-then-x0-x1+else-y0-y1 w ↦ omega arith | else-x0-x1-via-else-x0-x1 w ↦ omega arith ])
    (λ k. elim c.else-x0-x1-2.branch [ else-x0-x1-2-via-then-x0-x1-2+else-y0-y1-2 w ↦ omega arith | else-x0-x1-2-via-else-x0-x1-2 w ↦ omega arith ])
