-- A run that no block meets keeps its distance point for point, whatever part of a unit the points are counted in.
-- Assumes nothing.
use Rattle.std.specs.Prelude.{ℕ, ◌+◌, ◌*◌, ◌≤◌, ◌<◌, ◌≡◌, ◌⊎◌}
use Rattle.std.proofs.Math.Nat.{lt_of_mul-lt-mul_left}
use Rattle.std.proofs.Common.{mul-add, arith, inl, inr, ⊎_elim}
use Rattle.std.proofs.Math.Decide.{dec_le}
use mathlib.Core.List.{List, [], ◌∷◌}
use Rattle.paper.specs.Grid.{Node, Area, Meets, widened, Hits, Any, All, Blocked}
use Rattle.paper.specs.Wire.{runs}
use Rattle.paper.specs.Layout.{Thing, keep_out, wire, wires, rectangle, areas, blocks_of, blocks_to}
use Rattle.paper.specs.Copper.{On, In, FarOn, Far, OnWire, Shuns}
use Rattle.paper.specs.Laws.Lists.{any_imp, any_elim, any_image, all_any}
use Rattle.paper.specs.Laws.Apart.{blocked_left, blocked_right}

-- ---- one axis

-- far on the axis, or else nearer than d from either side
far_or_near : (d a b : ℕ) → FarOn d a b ⊎ ((b < a + d) × (a < b + d))
far_or_near d a b =
    elim (dec_le (a + d) b) [ yes h ↦ inl (inl h) | no h ↦ elim (dec_le (b + d) a) [ yes k ↦ inl (inr k) | no k ↦ inr (omega arith, omega arith) ] ]

-- what holds of k-ths holds of units
below : (k c m n a b : ℕ) → k * m ≤ a → a < b + k * c → b ≤ k * n → m < n + c
below k c m n a b h i j =
    let e : k * (n + c) ≡ k * n + k * c = mul-add k n c in
    let less : k * m < k * (n + c) = omega arith in
    lt_of_mul-lt-mul_left k less

inside : (k m n a : ℕ) → k * m < a → a ≤ k * n → m < n + 0
inside k m n a h j =
    let less : k * m < k * n = omega arith in
    let units : m < n = lt_of_mul-lt-mul_left k less in
    omega arith

inside_up : (k m n a : ℕ) → k * m ≤ a → a < k * n → m < n + 0
inside_up k m n a h j =
    let less : k * m < k * n = omega arith in
    let units : m < n = lt_of_mul-lt-mul_left k less in
    omega arith

-- ---- both axes

-- a point of b inside the area a
hit_inside : (k : ℕ) (a b : Area) (p : Node) → On k p b → In k p a → Hits (widened 0 a) b
unfolding Hits Meets
hit_inside k a b p o i = (
  (inside k _ _ p.x i.0.0 o.0.1, inside_up k _ _ p.x o.0.0 i.0.1),
  (inside k _ _ p.y i.1.0 o.1.1, inside_up k _ _ p.y o.1.0 i.1.1),
)

-- a point of b and a point of a that are not far from each other, on one axis
hit_axis : (k c u v lo hi lo' hi' : ℕ) → ¬ (FarOn (k * c) u v) → (k * lo ≤ u) × (u ≤ k * hi) → (k * lo' ≤ v) × (v ≤ k * hi')
    → (lo' < hi + c) × (lo < hi' + c)
hit_axis k c u v lo hi lo' hi' f i j =
    ⊎_elim (λ g. absurd (f g)) (λ g. (below k c lo' hi v u j.0 g.0 i.1, below k c lo hi' u v i.0 g.1 j.1))
    (far_or_near (k * c) u v)

hit_near : (k c : ℕ) (a b : Area) (p q : Node) → On k p b → On k q a → ¬ (Far k c p q) → Hits (widened c a) b
unfolding Hits Meets
hit_near k c a b p q o i n = (
  hit_axis k c p.x q.x b.low.x b.high.x a.low.x a.high.x (λ f. n (inl f)) o.0 i.0,
  hit_axis k c p.y q.y b.low.y b.high.y a.low.y a.high.y (λ f. n (inr f)) o.1 i.1,
)

far_decided : (k c : ℕ) (p q : Node) → ¬ (¬ (Far k c p q)) → Far k c p q
far_decided k c p q n =
    ⊎_elim inl (λ x. ⊎_elim inr (λ y. absurd (n (λ f. ⊎_elim (off x) (off y) f))) (far_or_near (k * c) p.y q.y)) (far_or_near (k * c) p.x q.x)
  where
    off : {a b : ℕ} → (b < a + k * c) × (a < b + k * c) → ¬ (FarOn (k * c) a b)
    off h (inl f) = omega arith
    off h (inr f) = omega arith

-- ---- a run that is not blocked

module _ (k c : ℕ) (p : Node) (b : Area) (on : On k p b) where
  clear_thing : (t : Thing) → ¬ (Blocked (blocks_of c wires t) b) → Shuns k c p t
  unfolding Shuns Blocked blocks_of areas Any
  clear_thing (keep_out i r) n = λ h. n (inl (hit_inside k (rectangle r) b p on h))
  clear_thing (wire i qs) n = λ q h. far_decided k c p q (λ f.
      n (any_image (λ m. Hits m b) (widened c) (runs qs) (any_imp (On k q) (λ a. Hits (widened c a) b) (λ a o. hit_near k c a b p q on o f) (runs qs) h)))

  pub clear_things : (ts : List Thing) → ¬ (Blocked (blocks_to c wires ts) b) → All (Shuns k c p) ts
  unfolding All blocks_to
  clear_things [] n = tt
  clear_things (t ∷ ts) n = (
    clear_thing t (λ h. n (blocked_left (blocks_of c wires t) (blocks_to c wires ts) b h)),
    clear_things ts (λ h. n (blocked_right (blocks_of c wires t) (blocks_to c wires ts) b h)),
  )

-- every point of a wire whose runs are not blocked
pub clear_points : (k c : ℕ) (p : Node) (ps : List Node) (ts : List Thing) → All (λ r. ¬ (Blocked (blocks_to c wires ts) r)) (runs ps)
    → OnWire k p ps → All (Shuns k c p) ts
clear_points k c p ps ts a o =
    any_elim (λ r. (¬ (Blocked (blocks_to c wires ts) r)) × On k p r) (λ r h. clear_things k c p r h.1 ts h.0) (runs ps)
    (all_any (λ r. ¬ (Blocked (blocks_to c wires ts) r)) (On k p) (runs ps) a o)
