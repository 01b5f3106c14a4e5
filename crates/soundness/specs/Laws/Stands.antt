-- A board stands just if its counts are within the arrays, and the arrays hold so many and nothing else.
-- Assumes nothing.
use Rattle.std.specs.Prelude.{ℕ, ◌≤◌, ◌≡◌, refl, Bool, take}
use Rattle.std.proofs.Common.{arith, ◌∙◌, length-take-le}
use Rattle.std.proofs.Math.Path.{sym, ap}
use mathlib.Core.List.{List, [], ◌∷◌, map, reverse, reverse-reverse, head-eq_of_cons-eq, tail-eq_of_cons-eq}
use Rattle.std.proofs.Math.ListN.{length, length-take}
use Rattle.std.proofs.lemmas.List.{length-map, length-reverse}
use Rattle.paper.specs.declared.Board.{Board}
use Rattle.paper.specs.Limits.{most_blocks, most_kept}
use Rattle.paper.specs.Grid.{All}
use Rattle.paper.specs.Padding.{item_of, no_item, change_of, no_change, board_of}
use Rattle.paper.specs.Laws.Lists.{all_reverse}
use Rattle.paper.specs.Laws.Back.{thing_of, turn_of, layout_of, TurnsBack}
use Rattle.paper.specs.Laws.Says.{Says, says_as}
use Rattle.paper.specs.Laws.Standing.{Standing, count_is, kept_is}
use Rattle.soundness.specs.Shape.{Slots}
use Rattle.soundness.specs.Joining.{AllWhole}
use Rattle.soundness.specs.Laws.Places.{slots_front}

-- ---- an array

all_back : {A B : Type 0} (f : A → B) (g : B → A) (ts : List A) → map g (map f ts) ≡ ts → All (λ t. g (f t) ≡ t) ts
unfolding All
all_back f g [] e = tt
all_back f g (t ∷ ts) e = (head-eq_of_cons-eq e, all_back f g ts (tail-eq_of_cons-eq e))

all_same : {A B : Type 0} (f : A → B) (g : B → A) (xs : List B) → xs ≡ map f (map g xs) → All (λ x. x ≡ f (g x)) xs
unfolding All
all_same f g [] e = tt
all_same f g (x ∷ xs) e = (head-eq_of_cons-eq e, all_same f g xs (tail-eq_of_cons-eq e))

module _ {A B : Type 0} (f : A → B) (g : B → A) (z : B) (m n : ℕ) (xs : List B) (long : length xs ≡ m) (few : n ≤ m) where
  front_long : length (map g (take n xs)) ≡ n
  front_long = length-map (take n xs) g ∙ length-take-le n xs (omega arith)

  slots_back : Slots f g z m n xs → All (λ t. g (f t) ≡ t) (map g (take n xs))
  slots_back s = all_back f g (map g (take n xs)) (ap (map g) (sym (slots_front f g z m n xs long few s)))

-- ---- the board

module _ (b : Board) (s : Standing b) where
  pub count_few : b.count ≤ most_blocks
  count_few = omega (arith, s.items_few, count_is b s)

  pub kept_few : b.kept ≤ most_kept
  kept_few = omega (arith, s.kept_few, kept_is b s)

module _ (b : Board) (li : length b.items ≡ most_blocks) (lc : length b.changes ≡ most_kept) where
  stands_items : Standing b → Slots item_of thing_of no_item most_blocks b.count b.items
  unfolding Slots
  stands_items s = ap (λ b. b.items) s.same ∙ (unfold board_of layout_of in refl)

  stands_changes : Standing b → Slots change_of turn_of no_change most_kept b.kept b.changes
  unfolding Slots board_of layout_of
  stands_changes s = ap (λ b. b.changes) s.same ∙ rw (reverse-reverse (map turn_of (take b.kept b.changes)))

  pub stands_whole : Standing b → AllWhole (take b.count b.items)
  stands_whole s = record {
    few = omega (arith, count_few b s, length-take b.count b.items);
    each = all_same item_of thing_of _ (slots_front item_of thing_of no_item most_blocks b.count b.items li (count_few b s) (stands_items s));
  }

  -- what is asked of the array of items, of the array of changes
  abbrev pub ItemSlots : Type 0
  ItemSlots = Slots item_of thing_of no_item most_blocks b.count b.items

  abbrev pub ChangeSlots : Type 0
  ChangeSlots = Slots change_of turn_of no_change most_kept b.kept b.changes

  module _ (n : b.count ≤ most_blocks) (k : b.kept ≤ most_kept) where
    items_long : length (map thing_of (take b.count b.items)) ≡ b.count
    items_long = front_long item_of thing_of no_item most_blocks b.count b.items li n

    turns_long : length (reverse (map turn_of (take b.kept b.changes))) ≡ b.kept
    turns_long =
        length-reverse (map turn_of (take b.kept b.changes))
        ∙ front_long change_of turn_of no_change most_kept b.kept b.changes lc k

    standing_of : ItemSlots → ChangeSlots → Standing b
    unfolding Slots board_of layout_of
    standing_of p q =
        let cs = map turn_of (take b.kept b.changes) in
        let r : b.changes ≡ (board_of (layout_of b)).changes = q ∙ rw (reverse-reverse cs) in
        record {
          same = λ i. record { size = b.size; count = sym items_long i; items = p i; kept = sym turns_long i; changes = r i };
          items_few = omega (arith, items_long);
          kept_few = omega (arith, turns_long);
          items_back = slots_back item_of thing_of no_item most_blocks b.count b.items li n p;
          kept_back = all_reverse TurnsBack cs (slots_back change_of turn_of no_change most_kept b.kept b.changes lc k q);
        }

  pub stands_said : {r : Bool} → Says r ((b.count ≤ most_blocks) × (b.kept ≤ most_kept) × ItemSlots × ChangeSlots) → Says r (Standing b)
  stands_said =
      says_as (λ p. standing_of p.0 p.1 p.2 p.3) (λ s. (count_few b s, kept_few b s, stands_items s, stands_changes s))
