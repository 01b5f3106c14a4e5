-- The steps of filling the arrays: a block more, and an item more.
-- Assumes nothing.
use Rattle.std.specs.Prelude.{ℕ, suc, ◌+◌, ◌<◌, ◌≡◌, Bool, set}
use Rattle.std.proofs.Common.{arith, zero-add, add-one, ◌∙◌}
use Rattle.std.proofs.Math.Path.{refl, sym, ap}
use Rattle.std.proofs.Math.Bool.{false}
use mathlib.Core.List.{List, [], ◌∷◌, ◌++◌, map, map-append, append_assoc, append-nil}
use Rattle.std.proofs.Math.ListN.{length, length-append}
use Rattle.std.proofs.lemmas.List.{length-map}
use Rattle.paper.specs.Padding.{filled}
use Rattle.paper.specs.declared.Item.{Item}
use Rattle.paper.specs.Limits.{most_blocks}
use Rattle.paper.specs.Grid.{Block, widened}
use Rattle.blocks.specs.declared.Blocks.{Blocks}
use Rattle.blocks.specs.declared.Place.{Place}
use Rattle.blocks.specs.Flat.{place_area, first_at, listed, packed}
use Rattle.blocks.specs.Growing.{with_block, with_end, stretch_at, stretched, Carries, Grows}
use Rattle.paper.specs.Laws.Filled.{filled_more, images_more}
use Rattle.blocks.specs.Laws.Lists.{length_listed, listed_more}

-- ---- the lists that are held, with one more

module _ (ss : List ℕ) (fs : List Bool) (bs : List Block) (k : ℕ) where
  packed_block : (p : Place) (c : ℕ) → length bs ≡ k → k < most_blocks
      → with_block (packed ss fs bs) k p c ≡ packed ss fs (bs ++ widened c (place_area p) ∷ [])
  unfolding packed
  packed_block p c e h = λ i. record {
    items = length fs;
    first = (packed ss fs bs).first;
    wires = (packed ss fs bs).wires;
    x0 = more (λ b. b.along_x.lo) i;
    y0 = more (λ b. b.along_y.lo) i;
    x1 = more (λ b. b.along_x.hi) i;
    y1 = more (λ b. b.along_y.hi) i;
    c = more (λ b. b.along_x.c) i;
  }
    where
      b : Block
      b = widened c (place_area p)

      more : (f : Block → ℕ) → set (filled 0 most_blocks (map f bs)) k (f b) ≡ filled 0 most_blocks (map f (bs ++ b ∷ []))
      more f = images_more f 0 most_blocks bs b k e h

  packed_end : (wire : Bool) → length ss ≡ suc (length fs) → length fs < most_blocks
      → with_end (packed ss fs bs) k wire ≡ packed (ss ++ k ∷ []) (fs ++ wire ∷ []) bs
  unfolding packed
  packed_end wire e h =
      let p = packed ss fs bs in
      λ i. record {
        items = sym (length-append fs (wire ∷ [])) i;
        first = filled_more 0 (suc most_blocks) ss k (length fs + 1) (e ∙ sym (add-one (length fs))) (omega arith) i;
        wires = filled_more false most_blocks fs wire (length fs) refl h i;
        x0 = p.x0;
        y0 = p.y0;
        x1 = p.x1;
        y1 = p.y1;
        c = p.c;
      }

-- ---- the loop over an item's stretches

-- the first k stand after what b has
unfoldable pub Filling : Blocks → Item → ℕ → ℕ → Blocks → Type 0
Filling b m c k out = (ss : List ℕ) (fs : List Bool) (bs : List Block) → Carries b ss fs bs → out ≡ packed ss fs (bs ++ stretched m k c)

stretched_more : (m : Item) (k c : ℕ) → stretched m (k + 1) c ≡ stretched m k c ++ widened c (stretch_at m k) ∷ []
stretched_more m k c = ap (λ n. stretched m n c) (add-one k) ∙ rw (listed_more (stretch_at m) 0 k, map-append, zero-add)

length_stretched : (m : Item) (k c : ℕ) → length (stretched m k c) ≡ k
length_stretched m k c = length-map (listed (stretch_at m) 0 k) (widened c) ∙ length_listed (stretch_at m) 0 k

carried_items : {b : Blocks} {ss : List ℕ} {fs : List Bool} {bs : List Block} → Carries b ss fs bs → b.items ≡ length fs
unfolding packed
carried_items h = ap (λ b. b.items) h.same

module _ (b : Blocks) (m : Item) (c : ℕ) where
  pub filling_none : Filling b m c 0 b
  unfolding Filling listed
  filling_none ss fs bs h = h.same ∙ rw append-nil

  pub filling_more : (k : ℕ) (out : Blocks) (p : Place) (r : Blocks) → Filling b m c k out → first_at b b.items + k < most_blocks
      → place_area p ≡ stretch_at m k → r ≡ with_block out (first_at b b.items + k) p c → Filling b m c (k + 1) r
  unfolding Filling
  filling_more k out p r f h e q ss fs bs l =
      let n : length (bs ++ stretched m k c) ≡ first_at b b.items + k
      = omega (arith, length-append bs (stretched m k c), length_stretched m k c, l.ends) in
      q
      ∙ rw (f ss fs bs l) (packed_block ss fs (bs ++ stretched m k c) _ p c n h)
      ∙ ap (λ a. packed ss fs (bs ++ stretched m k c ++ widened c a ∷ [])) e
      ∙ rw (append_assoc, stretched_more)

  pub filling_end : (k n : ℕ) (wire : Bool) (out r : Blocks) → Filling b m c k out → k ≡ n → b.items < most_blocks
      → r ≡ with_end out (first_at b b.items + n) wire → Grows b m n c wire r
  unfolding Filling Grows
  filling_end k n wire out r f e h q ss fs bs l =
      q ∙ rw (f ss fs bs l, l.ends, e) (packed_end ss fs (bs ++ stretched m n c) (length bs + n) wire l.one_more (rw (carried_items l) at h))
