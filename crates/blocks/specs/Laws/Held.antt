-- What is read back from arrays that hold things: where each item's blocks start, and which they are.
-- Assumes nothing.
use Rattle.std.specs.Prelude.{ℕ, zero, suc, ◌+◌, ◌-◌, ◌≤◌, ◌<◌, ◌≡◌, refl, Bool, false, List, [], ◌∷◌, map, length, take, get_or}
use Rattle.std.proofs.Common.{arith, zero-add, add_assoc, add-one, sym, ap, ap₂, ◌∙◌, get_or-append-add}
use Rattle.std.proofs.lemmas.List.{length-map}
use Rattle.std.proofs.Math.ListN.{get_or-append}
use Rattle.std.proofs.Math.Seq.{take-length}
use Rattle.paper.specs.Limits.{most_blocks}
use Rattle.paper.specs.Grid.{Block, widened, All}
use Rattle.paper.specs.Layout.{Thing, Sort, areas, sort_of, distance, blocks_of, blocks_to, block_count}
use Rattle.paper.specs.Laws.Lists.{all_join, all_image, all_always}
use Rattle.paper.specs.Laws.Apart.{count_blocks}
use Rattle.paper.specs.Padding.{filled}
use Rattle.paper.specs.Laws.Standing.{no_thing, thing_at}
use Rattle.blocks.specs.declared.Blocks.{Blocks}
use Rattle.blocks.specs.Flat.{span, block_at, blocks_from, first_at, blocks_in, flat, Fits, packed, starts, is_wire, flat_of, Held}
use Rattle.paper.specs.Laws.Filled.{filled_at, images_at}
use Rattle.blocks.specs.Laws.Lists.{listed_is}

-- ---- where each item's blocks start

pub starts_at : (k : ℕ) (ts : List Thing) (i : ℕ) → i ≤ length ts → get_or (starts k ts) i 0 ≡ k + block_count (take i ts)
unfolding starts block_count
starts_at k [] zero h = omega arith
starts_at k [] (suc i) h = absurd (omega arith)
starts_at k (t ∷ ts) zero h = omega arith
starts_at k (t ∷ ts) (suc i) h = starts_at (k + length (areas t)) ts i (omega arith) ∙ add_assoc k (length (areas t)) (block_count (take i ts))

pub length_starts : (k : ℕ) (ts : List Thing) → length (starts k ts) ≡ suc (length ts)
unfolding starts
length_starts k [] = refl
length_starts k (t ∷ ts) = ap suc (length_starts (k + length (areas t)) ts)

pub count_take : (ts : List Thing) (i : ℕ) → block_count (take i ts) ≤ block_count ts
unfolding block_count
count_take [] zero = omega arith
count_take [] (suc i) = omega arith
count_take (t ∷ ts) zero = omega arith
count_take (t ∷ ts) (suc i) = omega (arith, count_take ts i)

pub count_next : (ts : List Thing) (i : ℕ) → i < length ts → block_count (take (suc i) ts) ≡ block_count (take i ts) + length (areas (thing_at ts i))
unfolding block_count
count_next [] i h = absurd (omega arith)
count_next (t ∷ ts) zero h = omega arith
count_next (t ∷ ts) (suc i) h = omega (arith, count_next ts i (omega arith))

-- ---- the blocks of item i among all blocks

abbrev no_block : Block
no_block = record { along_x = span 0 0 0; along_y = span 0 0 0 }

pub length_blocks : (c : ℕ) (to : Sort) (t : Thing) → length (blocks_of c to t) ≡ length (areas t)
unfolding blocks_of
length_blocks c to t = length-map (areas t) (widened (distance c to (sort_of t)))

blocks_at : (c : ℕ) (to : Sort) (ts : List Thing) (i j : ℕ) → i < length ts → j < length (blocks_of c to (thing_at ts i))
    → get_or (blocks_to c to ts) (block_count (take i ts) + j) no_block ≡ get_or (blocks_of c to (thing_at ts i)) j no_block
unfolding blocks_to block_count
blocks_at c to [] i j h l = absurd (omega arith)
blocks_at c to (t ∷ ts) zero j h l = rw zero-add (get_or-append (blocks_of c to t) (blocks_to c to ts) no_block j l)
blocks_at c to (t ∷ ts) (suc i) j h l =
    let n = block_count (take i ts) in
    let e : length (areas t) + n + j ≡ length (blocks_of c to t) + (n + j) = omega (arith, length_blocks c to t) in
    rw e (get_or-append-add (blocks_of c to t) (blocks_to c to ts) (n + j) no_block ∙ blocks_at c to ts i j (omega arith) l)

-- ---- the arrays

-- widened by the same on both axes, as the arrays can say it
Even : Block → Type 0
Even b = b.along_x.c ≡ b.along_y.c

even_at : (bs : List Block) (k : ℕ) → All Even bs → Even (get_or bs k no_block)
unfolding All Even
even_at [] k a = refl
even_at (b ∷ bs) zero a = a.0
even_at (b ∷ bs) (suc k) a = even_at bs k a.1

even_blocks : (c : ℕ) (to : Sort) (ts : List Thing) → All Even (blocks_to c to ts)
unfolding blocks_to blocks_of All Even
even_blocks c to [] = tt
even_blocks c to (t ∷ ts) =
    let w = widened (distance c to (sort_of t)) in
    all_join Even (map w (areas t)) (blocks_to c to ts) (all_image Even w (areas t) (all_always _ (λ a. refl) (areas t))) (even_blocks c to ts)

block_at_lem : (ss : List ℕ) (fs : List Bool) (bs : List Block) (k : ℕ) → All Even bs → block_at (packed ss fs bs) k ≡ get_or bs k no_block
unfolding block_at packed Even
block_at_lem ss fs bs k a = λ i. record {
  along_x = record { lo = at (λ b. b.along_x.lo) i; hi = at (λ b. b.along_x.hi) i; c = at (λ b. b.along_x.c) i };
  along_y = record { lo = at (λ b. b.along_y.lo) i; hi = at (λ b. b.along_y.hi) i; c = (at (λ b. b.along_x.c) ∙ even_at bs k a) i };
}
  where
    at : (f : Block → ℕ) → get_or (filled (f no_block) most_blocks (map f bs)) k (f no_block) ≡ f (get_or bs k no_block)
    at f = images_at f no_block most_blocks bs k

pub first_at_lem : (c : ℕ) (to : Sort) (ts : List Thing) (i : ℕ) → i ≤ length ts → first_at (flat_of c to ts) i ≡ block_count (take i ts)
unfolding flat_of packed
first_at_lem c to ts i h = filled_at 0 (suc most_blocks) (starts 0 ts) i ∙ starts_at 0 ts i h ∙ zero-add (block_count (take i ts))

pub items_are : (c : ℕ) (to : Sort) (ts : List Thing) → (flat_of c to ts).items ≡ length ts
unfolding flat_of packed
items_are c to ts = length-map ts is_wire

pub ends_at : (c : ℕ) (to : Sort) (ts : List Thing) → first_at (flat_of c to ts) (flat_of c to ts).items ≡ block_count ts
ends_at c to ts = rw items_are (first_at_lem c to ts (length ts) (omega arith) ∙ ap block_count (take-length ts))

block_of : (c : ℕ) (to : Sort) (ts : List Thing) (k : ℕ) → block_at (flat_of c to ts) k ≡ get_or (blocks_to c to ts) k no_block
unfolding flat_of
block_of c to ts k = block_at_lem (starts 0 ts) (map is_wire ts) (blocks_to c to ts) k (even_blocks c to ts)

-- ---- what is held

-- the arrays are determined by the things
pub one_held : {b q : Blocks} {c : ℕ} {to : Sort} {ts : List Thing} → Held b c to ts → Held q c to ts → b ≡ q
one_held h k = h.same ∙ sym k.same

module _ {b : Blocks} {c : ℕ} {to : Sort} {ts : List Thing} (held : Held b c to ts) where
  -- code 14 counts these
  pub count_held : first_at b b.items ≡ block_count ts
  count_held = rw held.same (ends_at c to ts)

  pub held_fits : Fits b
  held_fits = record {
    items_few = rw (held.same, items_are) held.items_few;
    ends_few = λ i h.
        let l : i ≤ length ts = rw (held.same, items_are) at h in
        rw (held.same, first_at_lem c to ts i l) (omega (arith, count_take ts i, held.blocks_few));
  }

  pub flat_held : flat b ≡ blocks_to c to ts
  flat_held =
      ap (λ n. blocks_from b 0 n) (count_held ∙ sym (count_blocks c to ts))
      ∙ listed_is (block_at b) no_block 0 (blocks_to c to ts) (λ j h. rw (held.same, zero-add) (block_of c to ts j))

  pub held_wire : (i : ℕ) → get_or b.wires i false ≡ is_wire (thing_at ts i)
  unfolding flat_of packed
  held_wire i = rw held.same (images_at is_wire no_thing most_blocks ts i)

  pub held_blocks : (i : ℕ) → i < length ts → blocks_in b i ≡ blocks_of c to (thing_at ts i)
  held_blocks i h =
      let n = block_count (take i ts) in
      let u = blocks_of c to (thing_at ts i) in
      let start : first_at b i ≡ n = rw held.same (first_at_lem c to ts i (omega arith)) in
      let end : first_at b (i + 1) ≡ block_count (take (suc i) ts) = rw (held.same, add-one) (first_at_lem c to ts (suc i) h) in
      let many : first_at b (i + 1) - first_at b i ≡ length u = omega (arith, count_next ts i h, length_blocks c to (thing_at ts i)) in
      ap₂ (λ k m. blocks_from b k m) start many
      ∙ listed_is (block_at b) no_block n u (λ j l. rw held.same (block_of c to ts (n + j) ∙ blocks_at c to ts i j h l))
