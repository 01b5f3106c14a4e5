-- A board that is how the struct holds the layout read back from it, whether that layout is sound or not.
-- Assumes nothing.
use Rattle.std.specs.Prelude.{ℕ, ◌≤◌, ◌<◌, ◌≡◌, refl, Bool, true, false, cond, List, length, get_or, eqb}
use Rattle.std.proofs.Common.{arith, sym, ap, ◌∙◌, inl, inr}
use Rattle.paper.specs.declared.Item.{Item}
use Rattle.paper.specs.declared.Board.{Board}
use Rattle.paper.specs.Limits.{most_blocks, most_kept}
use Rattle.paper.specs.Grid.{All}
use Rattle.paper.specs.Layout.{Thing, keep_out, wire, id_of, Layout, Sound}
use Rattle.paper.specs.Padding.{item_of, no_item, board_of, WellFormed}
use Rattle.paper.specs.Laws.Back.{thing_of, layout_of, well_formed, ReadsBack, TurnsBack, board_back, laid_reads}
use Rattle.paper.specs.Laws.Shape.{items_few}
use Rattle.paper.specs.Laws.Filled.{image_in}

-- ---- one item

abbrev pub no_thing : Thing
no_thing = keep_out 0 (record { x0 = 0; y0 = 0; x1 = 0; y1 = 0 })

abbrev pub thing_at : List Thing → ℕ → Thing
thing_at ts i = get_or ts i no_thing

pub item_id : (t : Thing) → (item_of t).id ≡ id_of t
unfolding item_of
item_id (keep_out i r) = refl
item_id (wire i ps) = refl

-- one of two things that have the id
either_id : (i : ℕ) (t u : Thing) (b : Bool) → id_of t ≡ i → id_of u ≡ i → id_of (cond b t u) ≡ i
either_id i t u true p q = p
either_id i t u false p q = q

pub thing_id : (m : Item) → id_of (thing_of m) ≡ m.id
unfolding thing_of
thing_id m = either_id m.id _ _ (eqb m.runs 0) refl refl

-- ---- the whole board

pub record Standing (b : Board) : Type 0 where
  pub same : b ≡ board_of (layout_of b)
  pub items_few : length (layout_of b).items ≤ most_blocks
  pub kept_few : length (layout_of b).kept ≤ most_kept
  pub items_back : All ReadsBack (layout_of b).items
  pub kept_back : All TurnsBack (layout_of b).kept

-- the board of a layout stands
pub standing : (l : Layout) → length l.items ≤ most_blocks → length l.kept ≤ most_kept → All ReadsBack l.items
    → All TurnsBack l.kept → Standing (board_of l)
standing l n k p q =
    let e = board_back l p q in
    record {
      same = ap board_of (sym e);
      items_few = rw e n;
      kept_few = rw e k;
      items_back = rw e p;
      kept_back = rw e q;
    }

sound_standing : (l : Layout) → Sound l → Standing (board_of l)
unfolding Sound
sound_standing l (inl e) = rw e (standing _ (omega arith) (omega arith) (unfold All in tt) (unfold All in tt))
sound_standing l (inr p) =
    let h = laid_reads l p in
    standing l (omega (arith, items_few l.size l.items p.fits.two.each, p.fits.two.blocks_few)) p.kept_few h.0 h.1

pub well_standing : (b : Board) → WellFormed b → Standing b
well_standing b w = let h = well_formed b w in rw h.same (sound_standing (layout_of b) h.sound)

module _ (b : Board) (s : Standing b) where
  pub count_is : b.count ≡ length (layout_of b).items
  count_is = ap (λ b. b.count) s.same ∙ (unfold board_of in refl)

  pub kept_is : b.kept ≡ length (layout_of b).kept
  kept_is = ap (λ b. b.kept) s.same ∙ (unfold board_of in refl)

  pub item_at : (i : ℕ) (e : Item) → i < length (layout_of b).items → get_or b.items i e ≡ item_of (thing_at (layout_of b).items i)
  item_at i e h =
      ap (λ b. get_or b.items i e) s.same ∙ (unfold board_of in image_in item_of no_item e no_thing most_blocks (layout_of b).items i h)

  pub id_at : (i : ℕ) (e : Item) → i < length (layout_of b).items → (get_or b.items i e).id ≡ id_of (thing_at (layout_of b).items i)
  id_at i e h = ap (λ m. m.id) (item_at i e h) ∙ item_id (thing_at (layout_of b).items i)
