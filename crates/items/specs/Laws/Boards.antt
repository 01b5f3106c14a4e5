-- The board with other items: how the struct holds them.
-- Assumes nothing.
use Prim.Native.Nat.{ℕ, suc, ◌+◌, ◌-◌}
use Rattle.std.proofs.Common.{arith, ◌∙◌}
use Rattle.std.specs.Prelude.{◌≡◌, refl, Some}
use Rattle.std.proofs.Math.Path.{sym, ap}
use mathlib.Core.List.{List, map}
use Rattle.std.proofs.Math.ListN.{length, length-map}
use Rattle.paper.specs.declared.Item.{Item}
use Rattle.paper.specs.declared.Board.{Board}
use Rattle.paper.specs.Limits.{most_blocks}
use Rattle.paper.specs.Layout.{Thing, add, without}
use Rattle.paper.specs.Padding.{filled, item_of, no_item, board_of}
use Rattle.paper.specs.Laws.Back.{thing_of, layout_of, ReadsBack, board_back}
use Rattle.paper.specs.Laws.Among.{all_add}
use Rattle.paper.proofs.Among.{all_without}
use Rattle.paper.specs.Laws.Filled.{put_at, left_at, length_left}
use Rattle.paper.specs.Laws.Standing.{Standing, standing, thing_id, count_is}
use Rattle.items.specs.Items.{with_items, Whole, IdAt, PlaceIs, PutIn, LeftOut, Room}
use Rattle.items.specs.Laws.Found.{put_add, length_add, found_without, without_few}
use Rattle.items.specs.Laws.Arrays.{map_put, map_left}

-- the struct with this array of n items
abbrev pub items_set : Board → ℕ → List Item → Board
items_set b n ms = record { size = b.size; count = n; items = ms; kept = b.kept; changes = b.changes }

module _ (b : Board) (s : Standing b) where
  -- the things, as the items' array holds them
  items_are : b.items ≡ filled no_item most_blocks (map item_of (layout_of b).items)
  items_are = ap (λ b. b.items) s.same ∙ (unfold board_of in refl)

  with_items_lem : (n : ℕ) (ms : List Item) (ts : List Thing) → n ≡ length ts → ms ≡ filled no_item most_blocks (map item_of ts)
      → items_set b n ms ≡ board_of (with_items (layout_of b) ts)
  unfolding board_of layout_of
  with_items_lem n ms ts e f =
      let k : b.kept ≡ (board_of (layout_of b)).kept = ap (λ b. b.kept) s.same in
      let c : b.changes ≡ (board_of (layout_of b)).changes = ap (λ b. b.changes) s.same in
      λ i. record { size = b.size; count = e i; items = f i; kept = k i; changes = c i }

  pub put_board : (m : Item) (at : ℕ) (r : List Item) → Whole m → PlaceIs (layout_of b).items m.id at → PutIn b.items b.count at m r
      → items_set b (b.count + 1) r ≡ board_of (with_items (layout_of b) (add (thing_of m) (layout_of b).items))
  unfolding PutIn
  put_board m at r w p q =
      let ts = (layout_of b).items in
      let t = thing_of m in
      let a : put_at ts at t ≡ add t ts = put_add t ts at (rw (thing_id m) p) in
      let n : length (map item_of ts) ≡ b.count = length-map ts item_of ∙ sym (count_is b s) in
      let e : put_at (map item_of ts) at m ≡ map item_of (add t ts)
      = ap (put_at (map item_of ts) at) w ∙ map_put item_of ts at t ∙ ap (map item_of) a in
      with_items_lem (b.count + 1) r (add t ts) (omega (arith, count_is b s, length_add t ts)) (q (map item_of ts) n items_are ∙ ap (filled no_item most_blocks) e)

  pub left_board : (i at : ℕ) (r : List Item) → IdAt (layout_of b).items i (Some at) → LeftOut b.items b.count at r
      → items_set b (b.count - 1) r ≡ board_of (with_items (layout_of b) (without i (layout_of b).items))
  unfolding LeftOut IdAt
  left_board i at r p q =
      let ts = (layout_of b).items in
      let a : left_at ts at ≡ without i ts = found_without ts i at p in
      let n : length (map item_of ts) ≡ b.count = length-map ts item_of ∙ sym (count_is b s) in
      let k : suc (length (without i ts)) ≡ length ts = ap (λ l. suc (length l)) (sym a) ∙ length_left ts at p.0 in
      let e : left_at (map item_of ts) at ≡ map item_of (without i ts) = map_left item_of ts at ∙ ap (map item_of) a in
      with_items_lem (b.count - 1) r (without i ts) (omega (arith, count_is b s, k)) (q (map item_of ts) n items_are ∙ ap (filled no_item most_blocks) e)

  -- what stands afterwards
  pub stands_add : (t : Thing) → ReadsBack t → Room (layout_of b) → Standing (board_of (with_items (layout_of b) (add t (layout_of b).items)))
  stands_add t e h =
      standing (with_items (layout_of b) (add t (layout_of b).items)) (omega (arith, length_add t (layout_of b).items)) s.kept_few
      (all_add ReadsBack t (layout_of b).items e s.items_back) s.kept_back

  pub stands_without : (i : ℕ) → Standing (board_of (with_items (layout_of b) (without i (layout_of b).items)))
  stands_without i =
      standing (with_items (layout_of b) (without i (layout_of b).items)) (omega (arith, without_few (layout_of b).items i, s.items_few)) s.kept_few
      (all_without ReadsBack i (layout_of b).items s.items_back) s.kept_back

  pub layout_add : (t : Thing) → ReadsBack t
      → layout_of (board_of (with_items (layout_of b) (add t (layout_of b).items))) ≡ with_items (layout_of b) (add t (layout_of b).items)
  layout_add t e = board_back (with_items (layout_of b) (add t (layout_of b).items)) (all_add ReadsBack t (layout_of b).items e s.items_back) s.kept_back

  pub layout_without : (i : ℕ)
      → layout_of (board_of (with_items (layout_of b) (without i (layout_of b).items))) ≡ with_items (layout_of b) (without i (layout_of b).items)
  layout_without i =
      board_back (with_items (layout_of b) (without i (layout_of b).items)) (all_without ReadsBack i (layout_of b).items s.items_back) s.kept_back

-- an item that is whole is read back as it was
pub whole_reads : (m : Item) → Whole m → ReadsBack (thing_of m)
whole_reads m w = ap thing_of (sym w)
