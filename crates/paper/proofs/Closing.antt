-- Which keep-out closes a seam over a laid wire, and when every wire is off the seams: by the rectangles of two keep-outs.
-- The definitions and lemmas under it stand in specs/Laws/Closing.
use Prim.Native.Nat.{ℕ, ◌<◌}
use native.Mathlib.Omega.{arith}
use Rattle.std.specs.Prelude.{◌≡◌, refl, ◌↔◌, ◌⊎◌, length, take}
use Rattle.std.proofs.Common.{sym, ap, subst}
use Rattle.std.proofs.Math.Logic.{inl, inr, ⊎_elim}
use mathlib.Core.List.{List, [], ◌∷◌, ◌++◌}
use Rattle.paper.specs.declared.Rect.{Rect}
use Rattle.paper.specs.declared.Size.{Size}
use Rattle.paper.specs.Grid.{Node, Area, Block, widened, Hits, Any, All, Pairs, Blocked}
use Rattle.paper.specs.Layout.{Thing, keep_out, wire, keep_outs, wires, sort_of, rectangle, areas, blocks_of, Meet, Apart, ThingFits, Seamed, Seamless, Has}
use Rattle.paper.specs.Laws.Lists.{all_imp, all_both, any_imp, any_image, any_left, any_right, any_split}
use Rattle.paper.proofs.Apart.{apart_turn}
use Rattle.paper.specs.Laws.Standing.{thing_at}
use Rattle.paper.specs.Laws.Joining.{join_flip}
use Rattle.paper.specs.Laws.Joins.{join_of, joins_with, joins, joined}
use Rattle.paper.specs.Laws.Seams.{solid}
use Rattle.paper.proofs.Seams.{barred_in, barred_out}
use Rattle.paper.specs.Laws.Closing.{Barring, Bars, Crossed, Hampers, all_any, at_joins, box, hits_flip, joins_at}

module _ (k : Block) (r : Area) where
  with_barring : (bs : List Block) → Blocked (joins_with k bs) r → Barring k bs r
  unfolding Barring Blocked joins_with Any
  with_barring [] h = h
  with_barring (b ∷ bs) h =
      ⊎_elim (λ i. inl (join_flip _ _ (λ q p. p) k b i)) (λ i. inr (with_barring bs i)) (any_split _ (join_of k b) (joins_with k bs) h)

  barring_with : (bs : List Block) → Barring k bs r → Blocked (joins_with k bs) r
  unfolding Barring Blocked joins_with Any
  barring_with [] h = h
  barring_with (b ∷ bs) (inl h) = any_left _ (join_of k b) (joins_with k bs) (join_flip _ _ (λ q p. p) b k h)
  barring_with (b ∷ bs) (inr h) = any_right _ (join_of k b) (joins_with k bs) (barring_with bs h)

any_or : {A : Type 0} (P Q R : A → Type 0) → ((x : A) → P x → Q x ⊎ R x) → (xs : List A) → Any P xs → Any Q xs ⊎ Any R xs
unfolding Any
any_or P Q R f [] h = absurd h
any_or P Q R f (x ∷ xs) (inl h) = ⊎_elim (λ q. inl (inl q)) (λ q. inr (inl q)) (f x h)
any_or P Q R f (x ∷ xs) (inr h) = ⊎_elim (λ q. inl (inr q)) (λ q. inr (inr q)) (any_or P Q R f xs h)

any_with : {A : Type 0} (P Q R : A → Type 0) → ((x : A) → P x → Q x → R x) → (xs : List A) → All P xs → Any Q xs → Any R xs
unfolding Any All
any_with P Q R f [] a h = h
any_with P Q R f (x ∷ xs) a (inl h) = inl (f x a.0 h)
any_with P Q R f (x ∷ xs) a (inr h) = inr (any_with P Q R f xs a.1 h)

-- ---- code 8

module _ (z : Size) (ts : List Thing) (f : All (ThingFits z) ts) (i : ℕ) (r : Rect) (g : ThingFits z (keep_out i r)) where
  abbrev more : List Thing
  more = keep_out i r ∷ ts

  more_fit : All (ThingFits z) more
  unfolding All
  more_fit = (g, f)

  -- what is blocked with it among the keep-outs: by itself, by its rectangles, or without it
  with_it : (a : Area) → Blocked (joined (solid more)) a → Hits (box r) a ⊎ (Barring (box r) (solid ts) a ⊎ Blocked (joined (solid ts)) a)
  unfolding Blocked solid joins Any
  with_it a (inl h) = inl h
  with_it a (inr h) =
      ⊎_elim (λ k. inr (inr (any_left _ (solid ts) (joins (solid ts)) k)))
      (λ k. ⊎_elim (λ w. inr (inl (with_barring (box r) a (solid ts) w))) (λ w. inr (inr (any_right _ (solid ts) (joins (solid ts)) w)))
      (any_split _ (joins_with (box r) (solid ts)) (joins (solid ts)) k))
      (any_split _ (solid ts) (joins_with (box r) (solid ts) ++ joins (solid ts)) h)

  by_it : (a : Area) → Barring (box r) (solid ts) a → Blocked (joined (solid more)) a
  unfolding Blocked solid joins Any
  by_it a h =
      inr (any_right _ (solid ts) (joins_with (box r) (solid ts) ++ joins (solid ts))
      (any_left _ (joins_with (box r) (solid ts)) (joins (solid ts)) (barring_with (box r) a (solid ts) h)))

  -- its inside meets the wire
  abbrev Entered : ℕ → Thing → Type 0
  Entered c u = (sort_of u ≡ wires) × Blocked (blocks_of c keep_outs u) (rectangle r)

  entered : (c : ℕ) (u : Thing) → Any (Hits (box r)) (areas u) → Blocked (blocks_of c keep_outs u) (rectangle r)
  unfolding Blocked blocks_of
  entered c (keep_out j q) h = any_image (λ b. Hits b (rectangle r)) (widened 0) _ (any_imp _ _ (λ a k. hits_flip (rectangle r) a k) _ h)
  entered c (wire j ps) h = any_image (λ b. Hits b (rectangle r)) (widened 0) _ (any_imp _ _ (λ a k. hits_flip (rectangle r) a k) _ h)

  closes_one : (c : ℕ) (u : Thing) → ThingFits z u × (¬ (Seamed ts u)) → Seamed more u
      → Entered c u ⊎ ((sort_of u ≡ wires) × Any (Barring (box r) (solid ts)) (areas u))
  closes_one c u (g, n) s =
      let b = barred_in z more more_fit u s in
      ⊎_elim (λ h. inl (b.0, entered c u h))
      (λ h. ⊎_elim (λ k. inr (b.0, k)) (λ k. absurd (n (barred_out z ts f u g (b.0, k)))) (any_or _ _ _ (λ a k. k) (areas u) h))
      (any_or _ _ _ with_it (areas u) b.1)

  -- where all wires are off the seams, one goes along a seam with it just if a rectangle goes across one; or it enters one
  pub closes_iff : (c : ℕ) → Seamless ts
      → (Any (Entered c) ts ⊎ Crossed (box r) (solid ts) ts) ↔ (Any (Entered c) ts ⊎ Any (Seamed more) ts)
  unfolding Crossed
  closes_iff c n = (
    ⊎_elim inl (λ h. inr (any_with _ _ _ (λ u g k. barred_out z more more_fit u g (k.0, any_imp _ _ by_it (areas u) k.1)) ts f h)),
    ⊎_elim inl (λ h. any_or (λ u. (ThingFits z u × (¬ (Seamed ts u))) × Seamed more u) _ _ (λ u k. closes_one c u k.0 k.1) ts
        (any_with _ _ _ (λ u g k. (g, k)) ts (all_both _ _ ts f n) h)),
  )

-- ---- wires go through no keep-out

abbrev Clear : ℕ → Thing → Thing → Type 0
Clear c u t = (sort_of t ≡ sort_of u) ⊎ Apart c t u

each_clear : (c : ℕ) (ts : List Thing) → Pairs (Apart c) ts → All (λ u. All (Clear c u) ts) ts
unfolding Pairs All
each_clear c [] p = tt
each_clear c (x ∷ xs) p = (
  (inl refl, all_imp _ _ (λ t a. inr (apart_turn c x t a)) xs p.0),
  all_imp _ _ (λ u h. (inr h.0, h.1)) xs (all_both _ _ xs p.0 (each_clear c xs p.1)),
)

nowhere : (rs : List Area) → ¬ (Any (Blocked []) rs)
unfolding Any Blocked
nowhere [] k = k
nowhere (r ∷ rs) (inl k) = k
nowhere (r ∷ rs) (inr k) = nowhere rs k

through : (c i j : ℕ) (ps : List Node) (q : Rect) → Any (Hits (box q)) (areas (wire i ps)) → Meet c (keep_out j q) (wire i ps)
unfolding Meet blocks_of areas Blocked Any
through c i j ps q k = any_imp _ _ (λ r m. inl m) (areas (wire i ps)) k

first_or : (b : Block) (bs : List Block) (r : Area) → Blocked (b ∷ bs) r → Hits b r ⊎ Blocked bs r
unfolding Blocked Any
first_or b bs r k = k

differ : ¬ (keep_outs ≡ wires)
differ e = let z : ◌≡◌ {A = ℕ} 0 1 = ap (λ s. elim s [ keep_outs ↦ 0 | wires ↦ 1 ]) e in omega arith

off_solid : (c i : ℕ) (ps : List Node) (ts : List Thing) → All (Clear c (wire i ps)) ts → ¬ (Any (Blocked (solid ts)) (areas (wire i ps)))
unfolding All solid
off_solid c i ps [] a h = nowhere (areas (wire i ps)) h
off_solid c i ps (keep_out j q ∷ ts) a h =
    ⊎_elim (λ k. ⊎_elim differ (λ n. n (through c i j ps q k)) a.0) (off_solid c i ps ts a.1)
    (any_or _ _ _ (first_or (box q) (solid ts)) (areas (wire i ps)) h)
off_solid c i ps (wire j qs ∷ ts) a h = off_solid c i ps ts a.1 h

all_has : (P : Thing → Type 0) (ts : List Thing) → ((u : Thing) → Has ts u → P u) → All P ts
unfolding All Any
all_has P [] f = tt
all_has P (t ∷ ts) f = (f t (inl refl), all_has P ts (λ u h. f u (inr h)))

module _ (z : Size) (ts : List Thing) (f : All (ThingFits z) ts) where
  somewhere : (rs : List Area) → Any (Blocked (joins (solid ts))) rs → (i : ℕ) × (i < length ts) × Any (Bars (thing_at ts i) (solid (take i ts))) rs
  unfolding Any
  somewhere [] h = absurd h
  somewhere (r ∷ rs) (inl h) = let u = joins_at r ts h in (u.0, u.1, inl u.2)
  somewhere (r ∷ rs) (inr h) = let u = somewhere rs h in (u.0, u.1, inr u.2)

  off_all : (c : ℕ) (u : Thing) → All (Clear c u) ts → sort_of u ≡ wires → ¬ (Any (Blocked (solid ts)) (areas u))
  off_all c (keep_out i r) a e = absurd (differ e)
  off_all c (wire i ps) a e = off_solid c i ps ts a

  apart_joined : (r : Area) → Blocked (joined (solid ts)) r → Blocked (solid ts) r ⊎ Blocked (joins (solid ts)) r
  unfolding Blocked
  apart_joined r h = any_split _ (solid ts) (joins (solid ts)) h

  joined_more : (r : Area) → Blocked (joins (solid ts)) r → Blocked (joined (solid ts)) r
  unfolding Blocked
  joined_more r h = any_right _ (solid ts) (joins (solid ts)) h

  -- where the items are apart, every wire is off the seams just if no such rectangle goes across one
  pub seamless_in : (c : ℕ) → Pairs (Apart c) ts → ((i : ℕ) → i < length ts → ¬ (Hampers z ts f i)) → Seamless ts
  seamless_in c p n = all_has _ ts (λ u m s.
      let b = barred_in z ts f u s in
      let a : All (Clear c u) ts = all_any _ _ (λ v k e. subst (λ v. All (Clear c v) ts) e k) ts (each_clear c ts p) m in
      ⊎_elim (off_all c u a b.0)
      (λ k. let w = somewhere (areas u) k in n w.0 w.1 (any_imp _ _ (λ v e. subst (λ v. (sort_of v ≡ wires) × Any (Bars (thing_at ts w.0) (solid (take w.0 ts))) (areas v)) (sym e) (b.0, w.2)) ts m))
      (any_or _ _ _ apart_joined (areas u) b.1))

  pub seamless_out : Seamless ts → (i : ℕ) → i < length ts → ¬ (Hampers z ts f i)
  seamless_out n i l h =
      all_any (λ u. ThingFits z u × (¬ (Seamed ts u))) _
      (λ u g k. g.1 (barred_out z ts f u g.0 (k.0, any_imp _ _ (λ r b. joined_more r (at_joins r ts i l b)) (areas u) k.1))) ts
      (all_both _ _ ts f n) h
