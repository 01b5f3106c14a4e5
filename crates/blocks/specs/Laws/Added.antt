-- The stretches of an item are its places, so that with them the arrays hold one thing more.
-- Assumes nothing.
use Rattle.std.specs.Prelude.{ℕ, zero, suc, ◌+◌, ◌≤◌, ◌<◌, ◌≡◌, refl, false, List, [], ◌∷◌, ◌++◌, map, length, get_or}
use Rattle.std.proofs.Common.{arith, add-zero, zero-add, add_assoc, le_of_lt, add-one, sym, ap₂, subst₂, ◌∙◌, append-nil, append_assoc}
use Rattle.std.proofs.Math.Nat.{min-eq_left, max-eq_right}
use Rattle.std.proofs.Math.Path.{ap}
use Rattle.std.proofs.Math.Bool.{true}
use Rattle.std.proofs.lemmas.List.{map-append, length-map}
use Rattle.paper.specs.declared.Item.{Item}
use Rattle.paper.specs.declared.Rect.{Rect}
use Rattle.paper.specs.declared.Size.{Size}
use Rattle.paper.specs.Limits.{most_corners}
use Rattle.paper.specs.Grid.{Node, Area, widened}
use Rattle.paper.specs.Wire.{between, runs}
use Rattle.paper.specs.Layout.{Thing, keep_out, wire, Sort, wires, sort_of, rectangle, areas, distance, blocks_of, blocks_to, block_count}
use Rattle.paper.specs.Layout.{RectFits, ThingFits}
use Rattle.paper.specs.Padding.{item_of}
use Rattle.paper.specs.Laws.Back.{length_runs}
use Rattle.paper.specs.Laws.Apart.{count_blocks}
use Rattle.blocks.specs.declared.Blocks.{Blocks}
use Rattle.blocks.specs.Flat.{packed, starts, is_wire, flat_of}
use Rattle.blocks.specs.Growing.{corner_at, stretch_at, stretched, Carries, Grows, Adds}
use Rattle.paper.specs.Laws.Filled.{images_at}
use Rattle.blocks.specs.Laws.Lists.{listed_is}
use Rattle.blocks.specs.Laws.Held.{length_starts, ends_at}

-- ---- a thing more

starts_more : (k : ℕ) (ts : List Thing) (t : Thing) → starts k (ts ++ t ∷ []) ≡ starts k ts ++ (k + block_count ts + length (areas t)) ∷ []
unfolding starts block_count
starts_more k [] t = rw add-zero
starts_more k (u ∷ ts) t =
    ap (λ l. k ∷ l) (starts_more (k + length (areas u)) ts t ∙ rw (add_assoc k (length (areas u)) (block_count ts)))

blocks_more : (c : ℕ) (to : Sort) (ts : List Thing) (t : Thing) → blocks_to c to (ts ++ t ∷ []) ≡ blocks_to c to ts ++ blocks_of c to t
unfolding blocks_to
blocks_more c to [] t = append-nil (blocks_of c to t)
blocks_more c to (u ∷ ts) t = ap (λ l. blocks_of c to u ++ l) (blocks_more c to ts t) ∙ rw append_assoc

flat_more : (c : ℕ) (to : Sort) (ts : List Thing) (t : Thing)
    → let bs = blocks_to c to ts in
    packed (starts 0 ts ++ (length bs + length (areas t)) ∷ []) (map is_wire ts ++ is_wire t ∷ []) (bs ++ blocks_of c to t) ≡ flat_of c to (ts ++ t ∷ [])
unfolding flat_of
flat_more c to ts t = rw (starts_more 0 ts t, zero-add, blocks_more c to ts t, map-append, count_blocks c to ts)

flat_carries : (c : ℕ) (to : Sort) (ts : List Thing) → Carries (flat_of c to ts) (starts 0 ts) (map is_wire ts) (blocks_to c to ts)
unfolding flat_of
flat_carries c to ts = record {
  same = refl;
  one_more = length_starts 0 ts ∙ ap suc (sym (length-map ts is_wire));
  ends = ends_at c to ts ∙ sym (count_blocks c to ts);
}

-- ---- the stretches of an item

origin : Node
origin = record { x = 0; y = 0 }

pub nowhere : Area
nowhere = between origin origin

corner_at_lem : (i : ℕ) (ps : List Node) (k : ℕ) → corner_at (item_of (wire i ps)) k ≡ get_or ps k origin
unfolding item_of origin
corner_at_lem i ps k = λ j. record { x = images_at (λ p. p.x) origin most_corners ps k j; y = images_at (λ p. p.y) origin most_corners ps k j }

run_at : (ps : List Node) (k : ℕ) → k < length (runs ps) → between (get_or ps k origin) (get_or ps (suc k) origin) ≡ get_or (runs ps) k nowhere
unfolding runs
run_at [] k h = absurd (omega arith)
run_at (p ∷ []) k h = absurd (omega arith)
run_at (p ∷ q ∷ ps) zero h = refl
run_at (p ∷ q ∷ ps) (suc k) h = run_at (q ∷ ps) k (omega arith)

-- a keep-out's two corners are its low and its high one
rect_stretch : (i : ℕ) (r : Rect) (s : Size) → RectFits s r → stretch_at (item_of (keep_out i r)) 0 ≡ rectangle r
unfolding item_of
rect_stretch i r s f = λ j. record {
  low = record { x = min-eq_left (le_of_lt f.0) j; y = min-eq_left (le_of_lt f.2) j };
  high = record { x = max-eq_right (le_of_lt f.0) j; y = max-eq_right (le_of_lt f.2) j };
}

pub area_at : (s : Size) (t : Thing) → ThingFits s t → (k : ℕ) → k < length (areas t) → stretch_at (item_of t) k ≡ get_or (areas t) k nowhere
unfolding ThingFits areas
area_at s (keep_out i r) f zero h = rect_stretch i r s f.1
area_at s (keep_out i r) f (suc k) h = absurd (omega arith)
area_at s (wire i ps) f k h = ap₂ between (corner_at_lem i ps k) (corner_at_lem i ps (k + 1)) ∙ rw add-one (run_at ps k h)

stretched_all : (s : Size) (c : ℕ) (to : Sort) (t : Thing) → ThingFits s t
    → stretched (item_of t) (length (areas t)) (distance c to (sort_of t)) ≡ blocks_of c to t
unfolding blocks_of
stretched_all s c to t f =
    ap (map (widened (distance c to (sort_of t)))) (listed_is (stretch_at (item_of t)) nowhere 0 (areas t) (λ k h. rw zero-add (area_at s t f k h)))

-- ---- an item more

-- all of the thing's stretches, and its flag
added : (b : Blocks) (c : ℕ) (r : Blocks) (s : Size) (ts : List Thing) (t : Thing) → ThingFits s t → b ≡ flat_of c wires ts
    → Grows b (item_of t) (length (areas t)) (distance c wires (sort_of t)) (is_wire t) r → r ≡ flat_of c wires (ts ++ t ∷ [])
unfolding Grows
added b c r s ts t f e g =
    g (starts 0 ts) (map is_wire ts) (blocks_to c wires ts) (rw e (flat_carries c wires ts))
    ∙ rw (stretched_all s c wires t f) (flat_more c wires ts t)

pub runs_are : (i : ℕ) (ps : List Node) → (item_of (wire i ps)).runs ≡ length (runs ps)
unfolding item_of runs
runs_are i [] = refl
runs_are i (p ∷ ps) = omega (arith, length_runs p ps)

module _ (b : Blocks) (m : Item) (c : ℕ) (r : Blocks) where
  pub adds_keep_out : m.runs ≡ 0 → Grows b m 1 0 false r → Adds b m c r
  unfolding Adds ThingFits areas
  adds_keep_out z g s ts (keep_out i q) f e h = added b c r s ts (keep_out i q) f h (rw e at g)
  adds_keep_out z g s ts (wire i ps) f e h = absurd (omega (arith, ap (λ m. m.runs) e, runs_are i ps, f.1.some))

  pub adds_wire : 1 ≤ m.runs → Grows b m m.runs c true r → Adds b m c r
  unfolding Adds areas
  adds_wire n g s ts (keep_out i q) f e h = absurd (unfold item_of in omega (arith, ap (λ m. m.runs) e))
  adds_wire n g s ts (wire i ps) f e h =
      added b c r s ts (wire i ps) f h (subst₂ (λ m n. Grows b m n c true r) e (ap (λ m. m.runs) e ∙ runs_are i ps) g)
