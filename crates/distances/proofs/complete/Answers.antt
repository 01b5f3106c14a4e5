-- `distances::complete` meets its contract: the table is even, or it is settled.
use Rattle.distances.specs.Found.{completes_settled, completes_even}
use Rattle.distances.proofs.complete.Goals as goal

pub returns-then-not-even : goal.returns-then-not-even
returns-then-not-even c = completes_settled _ c.args.s _ _ c.requires.3 c.requires.4 c.settle.ensures

pub returns-else-not-even : goal.returns-else-not-even
returns-else-not-even c =
    completes_even _ c.args.s _ _ c.requires.0 c.after-far.ensures (c.even.ensures c.if-not-even.false)
