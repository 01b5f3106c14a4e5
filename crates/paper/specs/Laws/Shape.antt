-- A sound layout has room in the struct: its arrays have the lengths that src/lib.rt gives them.
-- Assumes nothing.
use Rattle.std.specs.Prelude.{ℕ, ◌-◌, ◌≤◌, ◌≡◌, refl, List, [], ◌∷◌, map, reverse, length, replicate}
use Rattle.std.proofs.Common.{arith, inl, inr, length-append}
use Rattle.std.proofs.lemmas.List.{length-map, length-replicate, length-reverse}
use Rattle.paper.specs.declared.Size.{Size}
use Rattle.paper.specs.Grid.{Node, All}
use Rattle.paper.specs.Wire.{runs}
use Rattle.paper.specs.Layout.{Thing, keep_out, wire, areas, block_count, ThingFits, Layout, Sound}
use Rattle.paper.specs.Padding.{filled, no_item, no_change, item_of, change_of, board_of}
use Rattle.paper.specs.Laws.Back.{length_runs}

length_filled : {A : Type 0} (z : A) (n : ℕ) (xs : List A) → length xs ≤ n → length (filled z n xs) ≡ n
length_filled z n xs h = omega (arith, length-append xs (replicate (n - length xs) z), length-replicate (n - length xs) z)

-- each item is a block or more
pub items_few : (s : Size) (ts : List Thing) → All (ThingFits s) ts → length ts ≤ block_count ts
unfolding All ThingFits block_count areas
items_few s [] a = omega arith
items_few s (keep_out i r ∷ ts) a = omega (arith, items_few s ts a.1)
items_few s (wire i ps ∷ ts) a = omega (arith, items_few s ts a.1, a.0.1.some)

corners_few : (ps : List Node) → length (runs ps) ≤ 24 → length ps ≤ 25
corners_few [] h = omega arith
corners_few (p ∷ ps) h = omega (arith, length_runs p ps)

pub item_shape : (s : Size) (t : Thing) → ThingFits s t → (length (item_of t).xs ≡ 25) × (length (item_of t).ys ≡ 25)
unfolding ThingFits item_of
item_shape s (keep_out i r) f = (refl, refl)
item_shape s (wire i ps) f =
    let n : length ps ≤ 25 = corners_few ps f.1.few in (
      length_filled 0 25 (map (λ p. p.x) ps) (omega (arith, length-map ps (λ p. p.x))),
      length_filled 0 25 (map (λ p. p.y) ps) (omega (arith, length-map ps (λ p. p.y))),
    )

pub board_shape : (l : Layout) → Sound l → (length (board_of l).items ≡ 46) × (length (board_of l).changes ≡ 32)
unfolding Sound board_of
board_shape l (inl e) = rw e (refl, refl)
board_shape l (inr p) = (
  length_filled no_item 46 (map item_of l.items)
      (omega (arith, length-map l.items item_of, items_few l.size l.items p.fits.two.each, p.fits.two.blocks_few)),
  length_filled no_change 32 (map change_of (reverse l.kept))
      (omega (arith, length-map (reverse l.kept) change_of, length-reverse l.kept, p.kept_few)),
)
