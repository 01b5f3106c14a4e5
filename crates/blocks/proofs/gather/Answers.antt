-- `blocks::gather` meets its contract: after i turns the first i items are held.
use Prim.Native.Nat.{◌<◌}
use native.Mathlib.Omega.{arith}
use lib.ListN.{length}
use Rattle.paper.specs.Layout.{blocks_to}
use Rattle.paper.specs.Laws.Back.{layout_of}
use Rattle.blocks.specs.Flat.{flat_of, starts}
use Rattle.blocks.specs.Laws.Board.{item_at, room_at, held_more}
use Rattle.blocks.proofs.gather.Goals as goal

pub loop-i-init : goal.loop-i-init
unfolding flat_of starts blocks_to
loop-i-init c = c.none-out.ensures

pub with_item-requires : goal.with_item-requires
with_item-requires c =
    let d = c.requires in
    let h : c.loop-i.i < length (layout_of c.args.board).items = omega (arith, d.count_is) in
    room_at _ _ d _ h _ _ _ c.loop-i.invariant (item_at _ _ d _ h _)

pub loop-i-preserved : goal.loop-i-preserved
loop-i-preserved c =
    let d = c.requires in
    let h : c.loop-i.i < length (layout_of c.args.board).items = omega (arith, d.count_is) in
    held_more _ _ d _ h _ _ _ _ c.loop-i.invariant (item_at _ _ d _ h _) c.with_item.ensures
