-- `soundness::several::items_fit` meets its contract: the items before i fit, and `last` is the highest of their ids.
use Rattle.std.proofs.Common.{[], arith}
use Rattle.paper.specs.declared.Item.{Item}
use Rattle.paper.specs.Laws.Says.{said, said_not}
use Rattle.soundness.specs.Laws.Joined.{tops_none}
use Rattle.soundness.specs.Laws.Front.{front_whole, front_placed, fits_none, fits_stop, fits_not, fits_next}
use Rattle.soundness.proofs.several.items_fit.Goals.{then-item-last-via-then-item-last, then-item-last-via-else-item-last+then-not-joins}
use Rattle.soundness.proofs.several.items_fit.Goals as goal

-- what the checker takes for an item past the end
abbrev none : Item
none = record { id = 0; runs = 0; xs = []; ys = [] }

pub loop-i-init : goal.loop-i-init
loop-i-init c = (fits_none _, tops_none)

pub joins-requires : goal.joins-requires
joins-requires c = (
  front_placed c.args.size c.args.items.now c.loop-i.i c.requires c.loop-i.invariant.0.each,
  front_whole c.args.items.now c.requires _ _ c.loop-i-test.true c.args.size,
)

pub returns-then-item-last : goal.returns-then-item-last
returns-then-item-last c =
    elim c.then-item-last.branch [
      | then-item-last-via-then-item-last w ↦ fits_stop c.args.items.now c.requires none c.loop-i.i c.loop-i-test.true c.args.size c.loop-i.last c.loop-i.invariant.1 (omega (arith, w.if-item-last.true))
      | then-item-last-via-else-item-last+then-not-joins w ↦ fits_not c.args.items.now c.requires _ _ c.loop-i-test.true c.args.size (said_not w.joins.ensures w.if-not-joins.true)
    ]

pub loop-i-preserved : goal.loop-i-preserved
loop-i-preserved c =
    fits_next c.args.items.now c.requires none c.loop-i.i c.loop-i-test.true c.args.size c.loop-i.last c.loop-i.invariant.1 c.loop-i.invariant.0 (omega (arith, c.if-item-last.false))
    (said c.joins.ensures c.if-not-joins.false)
