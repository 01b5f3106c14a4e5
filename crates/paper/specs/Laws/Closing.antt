-- Which keep-out closes a seam over a laid wire, and when every wire is off the seams: by the rectangles of two keep-outs.
-- Assumes nothing.
use Prim.Native.Nat.{ℕ, zero, suc, ◌<◌}
use native.Mathlib.Omega.{arith}
use Rattle.std.specs.Prelude.{◌≡◌, ◌⊎◌, length, take}
use Rattle.std.proofs.Math.Logic.{inl, inr, ⊎_elim}
use mathlib.Core.List.{List, [], ◌∷◌}
use Rattle.paper.specs.declared.Rect.{Rect}
use Rattle.paper.specs.declared.Size.{Size}
use Rattle.paper.specs.Grid.{Area, Meets, Block, widened, Hits, Any, All, Blocked}
use Rattle.paper.specs.Layout.{Thing, keep_out, wire, wires, sort_of, rectangle, areas, ThingFits}
use Rattle.paper.specs.Laws.Lists.{any_left, any_right, any_split}
use Rattle.paper.specs.Laws.Standing.{thing_at}
use Rattle.paper.specs.Laws.Joins.{join_of, joins_with, joins}
use Rattle.paper.specs.Laws.Seams.{solid}

abbrev pub box : Rect → Block
box r = widened 0 (rectangle r)

-- the rectangle of k and one of the blocks goes across the area
unfoldable pub Barring : Block → List Block → Area → Type 0
Barring k bs r = Any (λ b. Blocked (join_of b k) r) bs

-- it goes across one of these wires
unfoldable pub Crossed : Block → List Block → List Thing → Type 0
Crossed k bs us = Any (λ u. (sort_of u ≡ wires) × Any (Barring k bs) (areas u)) us

pub hits_flip : (a b : Area) → Hits (widened 0 a) b → Hits (widened 0 b) a
unfolding Hits Meets
hits_flip a b h = omega arith

-- what follows from whichever member it is
pub all_any : {A : Type 0} {G : Type 0} (P Q : A → Type 0) → ((x : A) → P x → Q x → G) → (xs : List A) → All P xs → Any Q xs → G
unfolding Any All
all_any P Q f [] a h = absurd h
all_any P Q f (x ∷ xs) a (inl h) = f x a.0 h
all_any P Q f (x ∷ xs) a (inr h) = all_any P Q f xs a.1 h

-- ---- items that stand together

-- u, a keep-out, and one of the blocks
unfoldable pub Bars : Thing → List Block → Area → Type 0
Bars (keep_out i q) bs r = Barring (box q) bs r
Bars (wire i ps) bs r = ⊥

-- k and u, a keep-out
unfoldable One : Block → Thing → Area → Type 0
One k (keep_out i q) r = Blocked (join_of k (box q)) r
One k (wire i ps) r = ⊥

module _ (r : Area) where
  bars_here : (b : Block) (u : Thing) (bs : List Block) → One b u r → Bars u (b ∷ bs) r
  unfolding Bars Barring One Any
  bars_here b (keep_out i q) bs h = inl h
  bars_here b (wire i ps) bs h = h

  bars_more : (b : Block) (u : Thing) (bs : List Block) → Bars u bs r → Bars u (b ∷ bs) r
  unfolding Bars Barring Any
  bars_more b (keep_out i q) bs h = inr h
  bars_more b (wire i ps) bs h = h

  bars_cons : (b : Block) (u : Thing) (bs : List Block) → Bars u (b ∷ bs) r → One b u r ⊎ Bars u bs r
  unfolding Bars Barring One Any
  bars_cons b (keep_out i q) bs h = h
  bars_cons b (wire i ps) bs h = absurd h

  bars_none : (u : Thing) → ¬ (Bars u [] r)
  unfolding Bars Barring Any
  bars_none (keep_out i q) h = h
  bars_none (wire i ps) h = h

  with_at : (k : Block) (ts : List Thing) → Blocked (joins_with k (solid ts)) r → (i : ℕ) × (i < length ts) × One k (thing_at ts i) r
  unfolding Blocked joins_with solid One Any
  with_at k [] h = absurd h
  with_at k (keep_out i q ∷ ts) h =
      ⊎_elim (λ w. (0, omega arith, w)) (λ w. let u = with_at k ts w in (suc u.0, omega (arith, u.1), u.2))
      (any_split _ (join_of k (box q)) (joins_with k (solid ts)) h)
  with_at k (wire i ps ∷ ts) h = let u = with_at k ts h in (suc u.0, omega (arith, u.1), u.2)

  at_with : (k : Block) (ts : List Thing) (i : ℕ) → i < length ts → One k (thing_at ts i) r → Blocked (joins_with k (solid ts)) r
  unfolding Blocked joins_with solid One
  at_with k [] i l h = absurd (omega arith)
  at_with k (keep_out j q ∷ ts) zero l h = any_left _ (join_of k (box q)) (joins_with k (solid ts)) h
  at_with k (keep_out j q ∷ ts) (suc i) l h = any_right _ (join_of k (box q)) (joins_with k (solid ts)) (at_with k ts i (omega arith) h)
  at_with k (wire j ps ∷ ts) zero l h = absurd h
  at_with k (wire j ps ∷ ts) (suc i) l h = at_with k ts i (omega arith) h

  -- a rectangle of two is one of some keep-out and one before it
  pub joins_at : (ts : List Thing) → Blocked (joins (solid ts)) r → (i : ℕ) × (i < length ts) × Bars (thing_at ts i) (solid (take i ts)) r
  unfolding Blocked joins solid Any
  joins_at [] h = absurd h
  joins_at (keep_out j q ∷ ts) h =
      ⊎_elim
      (λ w. let u = with_at (box q) ts w in (suc u.0, omega (arith, u.1), bars_here (box q) (thing_at ts u.0) (solid (take u.0 ts)) u.2))
      (λ w. let u = joins_at ts w in (suc u.0, omega (arith, u.1), bars_more (box q) (thing_at ts u.0) (solid (take u.0 ts)) u.2))
      (any_split _ (joins_with (box q) (solid ts)) (joins (solid ts)) h)
  joins_at (wire j ps ∷ ts) h = let u = joins_at ts h in (suc u.0, omega (arith, u.1), u.2)

  pub at_joins : (ts : List Thing) (i : ℕ) → i < length ts → Bars (thing_at ts i) (solid (take i ts)) r → Blocked (joins (solid ts)) r
  unfolding Blocked joins solid
  at_joins [] i l h = absurd (omega arith)
  at_joins (t ∷ ts) zero l h = absurd (bars_none t h)
  at_joins (keep_out j q ∷ ts) (suc i) l h =
      ⊎_elim
      (λ w. any_left _ (joins_with (box q) (solid ts)) (joins (solid ts)) (at_with (box q) ts i (omega arith) w))
      (λ w. any_right _ (joins_with (box q) (solid ts)) (joins (solid ts)) (at_joins ts i (omega arith) w))
      (bars_cons (box q) (thing_at ts i) (solid (take i ts)) h)
  at_joins (wire j ps ∷ ts) (suc i) l h = at_joins ts i (omega arith) h

-- ---- wires go through no keep-out

module _ (z : Size) (ts : List Thing) (f : All (ThingFits z) ts) where
  -- a rectangle of the keep-out at i and one before it goes across a wire
  abbrev pub Hampers : ℕ → Type 0
  Hampers i = Any (λ u. (sort_of u ≡ wires) × Any (Bars (thing_at ts i) (solid (take i ts))) (areas u)) ts
