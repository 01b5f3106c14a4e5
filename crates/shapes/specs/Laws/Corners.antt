-- The corners and runs of an item, place by place.
-- Assumes nothing.
use Prim.Native.Nat.{ℕ, zero, suc, ◌+◌, ◌≤◌, ◌<◌}
use native.Mathlib.Omega.{arith}
use Rattle.std.proofs.Math.Nat.{add-zero}
use Rattle.std.proofs.Common.{zero-add, add-one, sym, subst, ◌∙◌, length-take-le, get_or-take}
use Rattle.std.specs.Prelude.{◌≡◌, refl, Bool, true, false, not, nat_eq, List, [], ◌∷◌, length, get_or, take}
use Rattle.std.proofs.Math.Path.{ap}
use Rattle.paper.specs.declared.Item.{Item}
use Rattle.paper.specs.Limits.{most_corners, most_runs}
use Rattle.paper.specs.Grid.{Node, Area, All}
use Rattle.paper.specs.Wire.{between, runs}
use Rattle.paper.specs.Layout.{Along, across, last_of, EndsDiffer}
use Rattle.paper.specs.Laws.Back.{nodes, length_nodes}
use Rattle.paper.specs.Laws.Says.{Says, says_as, says_ne}
use Rattle.blocks.specs.Flat.{listed}
use Rattle.blocks.specs.Growing.{corner_at, stretch_at}
use Rattle.blocks.specs.Laws.Lists.{listed_is}
use Rattle.shapes.specs.Corners.{axis_for, corners_of}

-- ---- a list that a function of the place gives

module _ {A : Type 0} (P : A → Type 0) (f : ℕ → A) where
  each_listed : (i n : ℕ) → ((k : ℕ) → k < n → P (f (i + k))) → All P (listed f i n)
  unfolding listed All
  each_listed i zero h = tt
  each_listed i (suc n) h = (
    rw add-zero at (h 0 (omega arith)),
    each_listed (suc i) n
        (λ k l. let e : i + suc k ≡ suc i + k = omega arith in rw e at (h (suc k) (omega arith))),
  )

  listed_each : (i n : ℕ) → All P (listed f i n) → (k : ℕ) → k < n → P (f (i + k))
  unfolding listed All
  listed_each i zero a k l = absurd (omega arith)
  listed_each i (suc n) a zero l = rw add-zero a.0
  listed_each i (suc n) a (suc k) l = let e : i + suc k ≡ suc i + k = omega arith in rw e (listed_each (suc i) n a.1 k (omega arith))

pub runs_listed : (f : ℕ → Node) (k n : ℕ) → runs (listed f k (suc n)) ≡ listed (λ j. between (f j) (f (suc j))) k n
unfolding runs listed
runs_listed f k zero = refl
runs_listed f k (suc n) = ap (λ l. between (f k) (f (suc k)) ∷ l) (runs_listed f (suc k) n)

pub last_listed : (f : ℕ → Node) (k n : ℕ) → last_of (f k) (listed f (suc k) n) ≡ f (k + n)
unfolding last_of listed
last_listed f k zero = ap f (sym (add-zero k))
last_listed f k (suc n) = let e : suc k + n ≡ k + suc n = omega arith in last_listed f (suc k) n ∙ ap f e

-- ---- the item's corners

node_at : (us vs : List ℕ) (d : Node) (j : ℕ) → j < length us → j < length vs
    → get_or (nodes us vs) j d ≡ record { x = get_or us j 0; y = get_or vs j 0 }
unfolding nodes
node_at [] vs d j h l = absurd (omega arith)
node_at (u ∷ us) [] d j h l = absurd (omega arith)
node_at (u ∷ us) (v ∷ vs) d zero h l = refl
node_at (u ∷ us) (v ∷ vs) d (suc j) h l = node_at us vs d j (omega arith) (omega arith)

origin : Node
origin = record { x = 0; y = 0 }

module _ (m : Item) (lx : length m.xs ≡ most_corners) (ly : length m.ys ≡ most_corners) where
  pub corners_listed : (n : ℕ) → n ≤ most_corners → corners_of m n ≡ listed (corner_at m) 0 n
  corners_listed n h =
      let a : length (take n m.xs) ≡ n = length-take-le n m.xs (omega arith) in
      let b : length (take n m.ys) ≡ n = length-take-le n m.ys (omega arith) in
      let l : length (corners_of m n) ≡ n = length_nodes (take n m.xs) (take n m.ys) (a ∙ sym b) ∙ a in
      sym (listed_is (corner_at m) origin 0 (corners_of m n) (at_each n h a b l)) ∙ ap (listed (corner_at m) 0) l
    where
      at_each : (n : ℕ) → n ≤ most_corners → length (take n m.xs) ≡ n → length (take n m.ys) ≡ n → length (corners_of m n) ≡ n
          → (j : ℕ) → j < length (corners_of m n) → corner_at m (0 + j) ≡ get_or (corners_of m n) j origin
      at_each n h a b l j k =
          ap (corner_at m) (zero-add j)
          ∙ sym (node_at (take n m.xs) (take n m.ys) origin j (omega arith) (omega arith)
          ∙ (λ i. record { x = get_or-take n m.xs j 0 (omega arith) i; y = get_or-take n m.ys j 0 (omega arith) i }))

  pub corners_one : (n : ℕ) → n ≤ most_runs → corners_of m (n + 1) ≡ listed (corner_at m) 0 (suc n)
  corners_one n h = corners_listed (n + 1) (omega arith) ∙ ap (listed (corner_at m) 0) (add-one n)

  -- ---- each corner

  module _ (P : Node → Type 0) (n : ℕ) (few : n ≤ most_corners) where
    pub corners_all : (k : ℕ) → n ≤ k → ((j : ℕ) → j < k → P (corner_at m j)) → All P (corners_of m n)
    corners_all k h each =
        subst (All P) (sym (corners_listed n few)) (each_listed P (corner_at m) 0 n (λ j l. rw zero-add (each j (omega arith))))

    pub corners_at : All P (corners_of m n) → (k : ℕ) → k < n → P (corner_at m k)
    corners_at a k h = rw zero-add at (listed_each P (corner_at m) 0 n (subst (All P) (corners_listed n few) a) k h)

  -- ---- the ends

  module _ (n : ℕ) (few : n ≤ most_runs) where
    ends_are : EndsDiffer (corners_of m (n + 1)) ≡ (¬ (corner_at m 0 ≡ corner_at m n))
    unfolding EndsDiffer
    ends_are =
        ap EndsDiffer (corners_one n few)
        ∙ (unfold listed in ap (λ p. ¬ (corner_at m 0 ≡ p)) (last_listed (corner_at m) 0 n ∙ ap (corner_at m) (zero-add n)))

    -- on the one axis, or else on the other
    pub ends_x : ¬ (get_or m.xs 0 0 ≡ get_or m.xs n 0) → Says (not (nat_eq (get_or m.xs 0 0) (get_or m.xs n 0))) (EndsDiffer (corners_of m (n + 1)))
    ends_x d = rw ends_are (says_as (λ x e. x (ap (λ p. p.x) e)) (λ e. d) (says_ne _ _))

    pub ends_y : get_or m.xs 0 0 ≡ get_or m.xs n 0 → Says (not (nat_eq (get_or m.ys 0 0) (get_or m.ys n 0))) (EndsDiffer (corners_of m (n + 1)))
    ends_y x = rw ends_are (says_as (λ y e. y (ap (λ p. p.y) e)) (λ d e. d (λ i. record { x = x i; y = e i })) (says_ne _ _))

    -- ---- the runs

    pub runs_are : runs (corners_of m (n + 1)) ≡ listed (stretch_at m) 0 n
    runs_are =
        ap runs (corners_one n few) ∙ runs_listed (corner_at m) 0 n
        ∙ (λ i. listed (λ j. between (corner_at m j) (corner_at m (sym (add-one j) i))) 0 n)

pub along_flat : (b : Bool) (a : Area) (r : Bool) → b ≡ true → Says r ((a.low.y ≡ a.high.y) × (a.low.x < a.high.x)) → Says r (Along (axis_for b) a)
unfolding Along
along_flat b a r e s = subst (λ b. Says r (Along (axis_for b) a)) (sym e) s

pub along_up : (b : Bool) (a : Area) (r : Bool) → b ≡ false → Says r ((a.low.x ≡ a.high.x) × (a.low.y < a.high.y)) → Says r (Along (axis_for b) a)
unfolding Along
along_up b a r e s = subst (λ b. Says r (Along (axis_for b) a)) (sym e) s

pub other_axis : (b : Bool) → across (axis_for b) ≡ axis_for (not b)
other_axis true = refl
other_axis false = refl
