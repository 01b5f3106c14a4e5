-- A board that stands, with items that fit two by two: what its blocks say of the wires.
-- Assumes nothing.
use Rattle.std.proofs.Common.{ap, ◌∙◌}
use Rattle.std.specs.Prelude.{refl, Bool, not}
use Rattle.paper.specs.declared.Board.{Board}
use Rattle.paper.specs.Layout.{Seamless, keep_outs, ItemsApart}
use Rattle.paper.specs.Padding.{board_of}
use Rattle.paper.specs.Laws.Back.{layout_of}
use Rattle.paper.specs.Laws.Says.{Says}
use Rattle.paper.specs.Laws.Standing.{Standing, count_is}
use Rattle.blocks.specs.declared.Blocks.{Blocks}
use Rattle.blocks.specs.Flat.{Held}
use Rattle.seams.specs.Seaming.{CrossedAny}
use Rattle.blocks.specs.Laws.Board.{Drawn}
use Rattle.seams.specs.Laws.Closing.{seamless_said}

module _ (b : Board) (st : Standing b) (f : ItemsApart b.size (layout_of b).items) where
  pub stands_drawn : Drawn b (layout_of b).items
  stands_drawn = record {
    count_is = count_is b st;
    items_are = ap (λ b. b.items) st.same ∙ (unfold board_of in refl);
    fit = f.each;
    items_few = st.items_few;
    blocks_few = f.blocks_few;
  }

  pub seamless_says : (h : Blocks) (r : Bool) → Held h (layout_of b).size.clearance keep_outs (layout_of b).items → Says r (CrossedAny h)
      → Says (not r) (Seamless (layout_of b).items)
  seamless_says h r held s = seamless_said held b.size f.each b.size.clearance f.apart r s
