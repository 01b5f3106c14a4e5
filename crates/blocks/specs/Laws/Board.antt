-- A well-formed board's items, taken one by one.
-- Assumes nothing.
use Rattle.std.specs.Prelude.{ℕ, suc, ◌+◌, ◌≤◌, ◌<◌, max, ◌≡◌, refl, List, [], ◌∷◌, ◌++◌, map, length, take, get_or}
use native.Mathlib.Omega.{arith}
use Rattle.std.proofs.Common.{add-one, sym, ap, subst, ◌∙◌, inl, inr, take_all, length-take-le}
use Rattle.std.proofs.lemmas.List.{length-map}
use Rattle.std.proofs.Math.ListN.{get_or-append}
use Rattle.std.proofs.Math.Seq.{take-suc}
use Rattle.paper.specs.declared.Item.{Item}
use Rattle.paper.specs.declared.Board.{Board}
use Rattle.paper.specs.declared.Size.{Size}
use Rattle.paper.specs.Limits.{most_blocks, most_runs}
use Rattle.paper.specs.Grid.{All, widened}
use Rattle.paper.specs.Layout.{Thing, keep_out, wire, keep_outs, wires, areas, blocks_of, blocks_to, block_count, ThingFits, Layout, Sound}
use Rattle.paper.specs.Padding.{filled, item_of, no_item, board_of, WellFormed}
use Rattle.paper.specs.Laws.Back.{layout_of, well_formed}
use Rattle.paper.specs.Laws.Shape.{items_few}
use Rattle.paper.specs.Laws.Filled.{all_at, image_at}
use Rattle.blocks.specs.declared.Blocks.{Blocks}
use Rattle.blocks.specs.Flat.{first_at, flat_of, Held}
use Rattle.blocks.specs.Growing.{Room, Adds}
use Rattle.paper.specs.Laws.Standing.{thing_at, no_thing}
use Rattle.blocks.specs.Laws.Held.{items_are, ends_at, count_take, count_next}
use Rattle.blocks.specs.Laws.Added.{runs_are}

-- ---- what a well-formed board draws

-- the things stand in the struct, and fit
pub record Drawn (b : Board) (ts : List Thing) : Type 0 where
  pub count_is : b.count ≡ length ts
  pub items_are : b.items ≡ filled no_item most_blocks (map item_of ts)
  pub fit : All (ThingFits b.size) ts
  pub items_few : length ts ≤ most_blocks
  pub blocks_few : block_count ts ≤ most_blocks

sound_drawn : (l : Layout) → Sound l → Drawn (board_of l) l.items
unfolding Sound board_of
sound_drawn l (inl e) =
    rw e (unfold All block_count in record { count_is = refl; items_are = refl; fit = tt; items_few = omega arith; blocks_few = omega arith })
sound_drawn l (inr p) = record {
  count_is = refl;
  items_are = refl;
  fit = p.fits.two.each;
  items_few = omega (arith, items_few l.size l.items p.fits.two.each, p.fits.two.blocks_few);
  blocks_few = p.fits.two.blocks_few;
}

pub drawn : (b : Board) → WellFormed b → Drawn b (layout_of b).items
drawn b w = let h = well_formed b w in subst (λ b'. Drawn b' (layout_of b).items) (sym h.same) (sound_drawn (layout_of b) h.sound)

-- ---- the item at place i

-- a keep-out is one block, a wire one for each run
blocks_are : (s : Size) (t : Thing) → ThingFits s t → (length (areas t) ≡ max 1 (item_of t).runs) × ((item_of t).runs ≤ most_runs)
unfolding ThingFits areas
blocks_are s (keep_out i r) f = unfold item_of in (refl, omega arith)
blocks_are s (wire i ps) f = (omega (arith, runs_are i ps, f.1.some), omega (arith, runs_are i ps, f.1.few))

module _ (b : Board) (ts : List Thing) (d : Drawn b ts) (i : ℕ) (h : i < length ts) where
  pub item_at : (e : Item) → get_or b.items i e ≡ item_of (thing_at ts i)
  item_at e =
      let n : i < length (map item_of ts) = omega (arith, length-map ts item_of) in
      rw d.items_are (get_or-append (map item_of ts) _ e i n ∙ image_at item_of no_thing e ts i h)

  fits_at : ThingFits b.size (thing_at ts i)
  fits_at = all_at (ThingFits b.size) no_thing ts i h d.fit

  -- the first i things leave room for the next
  pub room_at : (c : ℕ) (out : Blocks) (m : Item) → out ≡ flat_of c wires (take i ts) → m ≡ item_of (thing_at ts i)
      → (m.runs ≤ most_runs) × Room out (max 1 m.runs)
  room_at c out m e q =
      let n : length (take i ts) ≡ i = length-take-le i ts (omega arith) in
      let t : (length (areas (thing_at ts i)) ≡ max 1 m.runs) × (m.runs ≤ most_runs)
      = rw q (blocks_are b.size (thing_at ts i) fits_at) in
      let is : out.items ≡ length (take i ts) = rw e (items_are c wires (take i ts)) in
      let at : first_at out out.items ≡ block_count (take i ts) = rw e (ends_at c wires (take i ts)) in
      (t.1, (omega (arith, d.items_few), omega (arith, t.0, count_next ts i h, count_take ts (suc i), d.blocks_few)))

  pub held_more : (c : ℕ) (out : Blocks) (m : Item) (r : Blocks) → out ≡ flat_of c wires (take i ts) → m ≡ item_of (thing_at ts i)
      → Adds out m c r → r ≡ flat_of c wires (take (i + 1) ts)
  unfolding Adds
  held_more c out m r e q adds = adds b.size (take i ts) (thing_at ts i) fits_at q e ∙ rw (add-one, take-suc ts i no_thing h)

pub held_all : (b : Board) (ts : List Thing) (c i : ℕ) (out : Blocks) → Drawn b ts → length ts ≤ i → out ≡ flat_of c wires (take i ts)
    → Held out c wires ts
held_all b ts c i out d h e = record { items_few = d.items_few; blocks_few = d.blocks_few; same = e ∙ ap (flat_of c wires) (take_all i ts h) }

-- ---- the blocks to a keep-out

-- they are those to a wire where wires keep no distance
blocks_near : (c : ℕ) (ts : List Thing) → blocks_to c keep_outs ts ≡ blocks_to 0 wires ts
unfolding blocks_to blocks_of
blocks_near c [] = refl
blocks_near c (keep_out i r ∷ ts) = ap (λ l. map (widened 0) (areas (keep_out i r)) ++ l) (blocks_near c ts)
blocks_near c (wire i ps ∷ ts) = ap (λ l. map (widened 0) (areas (wire i ps)) ++ l) (blocks_near c ts)

pub held_near : (b : Blocks) (c : ℕ) (ts : List Thing) → Held b 0 wires ts → Held b c keep_outs ts
unfolding flat_of
held_near b c ts h = record { items_few = h.items_few; blocks_few = h.blocks_few; same = h.same ∙ rw (← blocks_near c ts) }
