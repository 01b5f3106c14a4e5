-- Items of an array: all together, and one after the other.
-- Assumes nothing.
use Rattle.std.specs.Prelude.{Bool, sum_by, ◌*◌, ℕ, zero, suc, ◌+◌, ◌≤◌, ◌<◌, ◌≡◌, false, List, [], ◌∷◌, ◌++◌, map, get_or, take, drop}
use Rattle.std.proofs.Common.{arith, add-one, sym, ap₂, subst₂, ◌∙◌, length-take-le, take-suc, get_or-take}
use Rattle.std.proofs.Math.Path.{refl, ap, subst}
use Rattle.std.proofs.lemmas.List.{map-append}
use Rattle.std.proofs.lemmas.List.Sums.{sum_by-cons}
use Rattle.std.proofs.Math.ListN.{length, length-take}
use Rattle.std.proofs.Math.Seq.{split_at}
use Rattle.paper.specs.declared.Size.{Size}
use Rattle.paper.specs.declared.Item.{Item}
use Rattle.paper.specs.Limits.{most_blocks, most_runs}
use Rattle.paper.specs.Padding.{no_item}
use Rattle.paper.specs.Grid.{All, Pairs}
use Rattle.paper.specs.Layout.{Thing, id_of, areas, block_count, Apart, ThingFits, ItemsApart}
use Rattle.paper.specs.Laws.Filled.{all_at}
use Rattle.paper.specs.Laws.Back.{thing_of}
use Rattle.paper.specs.Laws.Says.{Says, says_as, says_never}
use Rattle.paper.specs.Laws.Standing.{thing_id}
use Rattle.blocks.specs.Meeting.{Placed, block_number}
use Rattle.blocks.specs.Laws.Meeting.{number_is, number_few}
use Rattle.items.specs.Items.{Whole}
use Rattle.soundness.specs.Shape.{things_of}
use Rattle.soundness.specs.Joining.{AllWhole, AllPlaced, Joins}
use Rattle.soundness.specs.Laws.Joined.{fits_more, fits_joins, Tops, tops_lower, tops_more, tops_stop}

all_take : {A : Type 0} (P : A → Type 0) (i : ℕ) (xs : List A) → All P xs → All P (take i xs)
unfolding All
all_take P zero xs a = tt
all_take P (suc i) [] a = tt
all_take P (suc i) (x ∷ xs) a = (a.0, all_take P i xs a.1)

both_placed : (s : Size) (ms : List Item) → All Whole ms → All (ThingFits s) (map thing_of ms) → All Placed ms
unfolding All
both_placed s [] a f = tt
both_placed s (m ∷ ms) a f = (record { whole = a.0; size = s; fits = f.0 }, both_placed s ms a.1 f.1)

-- ---- all together

-- what the code counts for the items
abbrev pub counted : List Item → ℕ
counted ms = sum_by (λ m. block_number m.runs) ms

counted_is : (ms : List Item) → All Placed ms → counted ms ≡ block_count (map thing_of ms)
unfolding All block_count
counted_is [] a = refl
counted_is (m ∷ ms) a = sum_by-cons _ m ms ∙ ap₂ ◌+◌ (number_is m a.0) (counted_is ms a.1)

counted_few : (ms : List Item) → All Placed ms → counted ms ≤ most_runs * length ms
unfolding All
counted_few [] a = omega arith
counted_few (m ∷ ms) a = rw (sum_by-cons (λ m. block_number m.runs) m ms) (omega (arith, number_few m a.0, counted_few ms a.1))

-- a fact of each, by its place
all_by : (P : Thing → Type 0) (ms : List Item) → ((k : ℕ) → k < length ms → P (thing_of (get_or ms k no_item))) → All P (map thing_of ms)
unfolding All
all_by P [] f = tt
all_by P (m ∷ ms) f = (f 0 (omega arith), all_by P ms (λ k h. f (suc k) (omega arith)))

by_all : (P : Thing → Type 0) (ms : List Item) → All P (map thing_of ms) → (k : ℕ) → k < length ms → P (thing_of (get_or ms k no_item))
unfolding All
by_all P [] a k h = absurd (omega arith)
by_all P (m ∷ ms) a zero h = a.0
by_all P (m ∷ ms) a (suc k) h = by_all P ms a.1 k (omega arith)

-- what is tested of each place is said of all things
pub all_said : (P : Thing → Type 0) (ms : List Item) {r : Bool} → Says r ((k : ℕ) → k < length ms → P (thing_of (get_or ms k no_item)))
    → Says r (All P (map thing_of ms))
all_said P ms = says_as (all_by P ms) (by_all P ms)

module _ (ms : List Item) (p : AllPlaced ms) where
  pub placed_among : (m : Item) (k : ℕ) → k < length ms → m ≡ get_or ms k m → Placed m
  placed_among m k h e = subst Placed (sym e) (all_at Placed m ms k h p.each)

  pub total_is : counted ms ≡ block_count (map thing_of ms)
  total_is = counted_is ms p.each

  pub total_few : counted ms ≤ most_runs * length ms
  total_few = counted_few ms p.each

-- ---- one beside others, by the number of blocks that its runs are

pub all_placed : (s : Size) (ms : List Item) → AllWhole ms → All (ThingFits s) (map thing_of ms) → AllPlaced ms
all_placed s ms w f = record { few = w.few; each = both_placed s ms w.each f }

-- those before i
pub front_placed : (s : Size) (ms : List Item) (i : ℕ) → AllWhole ms → All (ThingFits s) (things_of i ms) → AllPlaced (take i ms)
front_placed s ms i w =
    all_placed s (take i ms) (record { few = omega (arith, w.few, length-take i ms); each = all_take Whole i ms w.each })

module _ (s : Size) (ms : List Item) (m : Item) (w : Whole m) where
  blocks_are : ThingFits s (thing_of m) → block_number m.runs ≡ length (areas (thing_of m))
  blocks_are f = number_is m (record { whole = w; size = s; fits = f })

  pub beside_said : {r : Bool}
      → Says r (ThingFits s (thing_of m) × (block_count (map thing_of ms) + block_number m.runs ≤ most_blocks) × All (Apart s.clearance (thing_of m)) (map thing_of ms))
      → Says r (Joins s (map thing_of ms) (thing_of m))
  beside_said =
      says_as (λ p. record { fits = p.0; apart = p.2; blocks_few = omega (arith, p.1, blocks_are p.0) })
      (λ j. (j.fits, omega (arith, j.blocks_few, blocks_are j.fits), j.apart))

-- ---- item by item, each held against those before it

pub fits_none : (s : Size) → ItemsApart s []
unfolding All Pairs block_count
fits_none s = record { rising = tt; each = tt; apart = tt; blocks_few = omega arith }

-- what all of the first n are, each of them is
pub front_at : (ms : List Item) (d : Item) (n i : ℕ) → n ≤ length ms → i < n → (P : Item → Type 0) → All P (take n ms) → P (get_or ms i d)
front_at ms d n i few h P a =
    let l : length (take n ms) ≡ n = length-take-le n ms few in subst P (get_or-take n ms i d h) (all_at P d (take n ms) i (omega arith) a)

module _ (ms : List Item) (w : AllWhole ms) (d : Item) (i : ℕ) (h : i < length ms) (s : Size) where
  things_more : things_of (i + 1) ms ≡ things_of i ms ++ thing_of (get_or ms i d) ∷ []
  things_more = ap (λ k. things_of k ms) (add-one i) ∙ ap (map thing_of) (take-suc ms i d h) ∙ rw map-append

  split : ItemsApart s (map thing_of ms) → ItemsApart s (things_of i ms ++ thing_of (get_or ms i d) ∷ map thing_of (drop (suc i) ms))
  split f = subst (ItemsApart s) (ap (map thing_of) (split_at ms i d h) ∙ rw map-append) f

  pub front_whole : Whole (get_or ms i d)
  front_whole = front_at ms d (length ms) i (omega arith) h Whole (all_take Whole (length ms) ms w.each)

  pub fits_not : ¬ (Joins s (things_of i ms) (thing_of (get_or ms i d))) → Says false (ItemsApart s (map thing_of ms))
  fits_not j = says_never (λ f. j (fits_joins s (things_of i ms) (thing_of (get_or ms i d)) _ (split f)))

  module _ (last : ℕ) (p : Tops last (things_of i ms)) where
    pub fits_stop : (get_or ms i d).id ≤ last → Says false (ItemsApart s (map thing_of ms))
    fits_stop l =
        let k : id_of (thing_of (get_or ms i d)) ≤ last = omega (arith, thing_id (get_or ms i d)) in
        says_never (λ f. tops_stop last (things_of i ms) (thing_of (get_or ms i d)) p s _ k (split f))

    pub fits_next : ItemsApart s (things_of i ms) → last < (get_or ms i d).id
        → Joins s (things_of i ms) (thing_of (get_or ms i d)) → ItemsApart s (things_of (i + 1) ms) × Tops (get_or ms i d).id (things_of (i + 1) ms)
    fits_next f l j =
        let t = thing_of (get_or ms i d) in
        let k : last < id_of t = omega (arith, thing_id (get_or ms i d)) in (
          subst (ItemsApart s) (sym things_more) (fits_more s (things_of i ms) t f (tops_lower last (things_of i ms) t p k) j),
          subst₂ Tops (thing_id (get_or ms i d)) (sym things_more) (tops_more last (things_of i ms) t p k),
        )
