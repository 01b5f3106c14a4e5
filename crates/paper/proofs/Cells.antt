-- With the rectangles of two among the blocks, what cells say of unit edges is what blocks say.
-- The definitions and lemmas under it stand in specs/Laws/Cells.
use Rattle.std.specs.Prelude.{ℕ, suc, ◌≤◌, ◌<◌, ◌⊎◌}
use native.Mathlib.Omega.{arith}
use Rattle.std.proofs.Math.Decide.{dec_lt, dec_le}
use Rattle.std.proofs.Math.Logic.{inl, inr, ⊎_elim}
use mathlib.Core.List.{List, [], ◌∷◌}
use Rattle.paper.specs.Grid.{Node, step, Axis, level, upright, Span, Meets, Block, Hits, Any, All, Blocked, edge}
use Rattle.paper.specs.Layout.{beside}
use Rattle.paper.specs.Laws.Lists.{any_imp, any_left, any_right, any_split}
use Rattle.paper.specs.Laws.Joins.{AnyPair, one_or_pair, Touch, Share, hull, common, Joins, joins, joins_in, joins_out, joined, sideways, upwards}
use Rattle.paper.specs.Laws.Cells.{CoversOn, Filled, Within, cells, far, near}

-- ---- cells and rectangles

-- both in one block: it goes through
one_block : (a : Axis) (p : Node) (b : Block) → Within (near a p) b × Within (far a p) b → Hits b (edge a p)
unfolding Within Hits Meets step
one_block level p b h = omega arith
one_block upright p b h = omega arith

le_or_lt : (m n : ℕ) → (m ≤ n) ⊎ (n < m)
le_or_lt m n = elim (dec_le m n) [ yes h ↦ inl h | no h ↦ inr (omega arith) ]

-- in two: it goes through one of them, or between them, whichever comes first
abbrev Between : Axis → Node → Block → Block → Type 0
Between a p b d = Joins b d (λ k. Hits k (edge a p)) × Joins d b (λ k. Hits k (edge a p))

two_blocks : (a : Axis) (p : Node) (b d : Block) → Within (near a p) b → Within (far a p) d
    → Hits b (edge a p) ⊎ Hits d (edge a p) ⊎ Between a p b d
unfolding Within Hits Meets step Touch Share
two_blocks level p b d h k =
    ⊎_elim
    (λ u. ⊎_elim
    (λ v. inr (inr (upwards (omega arith) (omega arith) (omega arith), upwards (omega arith) (omega arith) (omega arith))))
    (λ v. inr (inl (omega arith)))
    (le_or_lt p.y d.along_y.lo))
    (λ u. inl (omega arith))
    (le_or_lt b.along_y.hi p.y)
two_blocks upright p b d h k =
    ⊎_elim
    (λ u. ⊎_elim
    (λ v. inr (inr (sideways (omega arith) (omega arith) (omega arith), sideways (omega arith) (omega arith) (omega arith))))
    (λ v. inr (inl (omega arith)))
    (le_or_lt p.x d.along_x.lo))
    (λ u. inl (omega arith))
    (le_or_lt b.along_x.hi p.x)

-- ---- one axis

module _ (s t : Span) where
  -- a unit of the hull is a unit of one of them
  hull_unit : (u : ℕ) → Touch s t → Meets (hull s t) u (suc u) → Meets s u (suc u) ⊎ Meets t u (suc u)
  unfolding Touch Meets
  hull_unit u h m =
      elim (dec_lt u s.hi) [
        | yes k ↦ elim (dec_le s.lo u) [ yes i ↦ inl (omega arith) | no i ↦ inr (omega arith) ]
        | no k ↦ inr (omega arith)
      ]

  -- a point of the hull lies in one of them, or where they touch
  hull_point : (v : ℕ) → Touch s t → Meets (hull s t) v v
      → Meets s v v ⊎ Meets t v v ⊎ (CoversOn s v × CoversOn t (suc v)) ⊎ (CoversOn t v × CoversOn s (suc v))
  unfolding Touch Meets
  hull_point v h m =
      elim (dec_lt s.lo v) [
        | yes i ↦ elim (dec_lt v s.hi) [
          | yes k ↦ inl (omega arith)
          | no k ↦ elim (dec_lt t.lo v) [ yes j ↦ inr (inl (omega arith)) | no j ↦ inr (inr (inl (omega arith))) ]
        ]
        | no i ↦ elim (dec_lt v t.hi) [
          | yes k ↦ inr (inl (omega arith))
          | no k ↦ inr (inr (inr (omega arith)))
        ]
      ]

  common_both : (a b : ℕ) → Share s t → Meets (common s t) a b → Meets s a b × Meets t a b
  unfolding Share Meets
  common_both a b h m = (omega arith, omega arith)

  common_unit : (u : ℕ) → Share s t → Meets (common s t) u (suc u) → CoversOn s (suc u) × CoversOn t (suc u)
  unfolding Share Meets
  common_unit u h m = (omega arith, omega arith)

-- ---- both axes

-- what goes through the rectangle of two goes through one of them, or between
abbrev Sides : Axis → Node → Block → Block → Type 0
Sides a p b d = (Within (near a p) b × Within (far a p) d) ⊎ (Within (near a p) d × Within (far a p) b)

between_two : (a : Axis) (p : Node) (b d : Block) → Joins b d (λ k. Hits k (edge a p)) → Hits b (edge a p) ⊎ Hits d (edge a p) ⊎ Sides a p b d
unfolding Within Hits step
between_two level p b d (sideways t s h) =
    let y = common_both b.along_y d.along_y p.y p.y s h.1 in
    ⊎_elim (λ x. inl (x, y.0)) (λ x. inr (inl (x, y.1))) (hull_unit b.along_x d.along_x p.x t h.0)
between_two level p b d (upwards s t h) =
    let x = common_both b.along_x d.along_x p.x (suc p.x) s h.0 in
    let u = common_unit b.along_x d.along_x p.x s h.0 in
    ⊎_elim (λ y. inl (x.0, y)) (⊎_elim (λ y. inr (inl (x.1, y)))
    (⊎_elim (λ y. inr (inr (inl ((u.0, y.0), (u.1, y.1))))) (λ y. inr (inr (inr ((u.1, y.0), (u.0, y.1)))))))
    (hull_point b.along_y d.along_y p.y t h.1)
between_two upright p b d (upwards s t h) =
    let x = common_both b.along_x d.along_x p.x p.x s h.0 in
    ⊎_elim (λ y. inl (x.0, y)) (λ y. inr (inl (x.1, y))) (hull_unit b.along_y d.along_y p.y t h.1)
between_two upright p b d (sideways t s h) =
    let y = common_both b.along_y d.along_y p.y (suc p.y) s h.1 in
    let u = common_unit b.along_y d.along_y p.y s h.1 in
    ⊎_elim (λ x. inl (x, y.0)) (⊎_elim (λ x. inr (inl (x, y.1)))
    (⊎_elim (λ x. inr (inr (inl ((x.0, u.0), (x.1, u.1))))) (λ x. inr (inr (inr ((x.0, u.1), (x.1, u.0)))))))
    (hull_point b.along_x d.along_x p.x t h.0)

-- ---- a list of blocks

module _ {A : Type 0} (R : A → A → Type 0) (P : A → Type 0) (Q : A → A → Type 0) (f : (x y : A) → R x y → P x ⊎ P y ⊎ Q x y) where
  split_one : (x : A) (xs : List A) → Any (R x) xs → P x ⊎ Any P xs ⊎ Any (Q x) xs
  unfolding Any
  split_one x [] h = absurd h
  split_one x (y ∷ ys) (inl r) = ⊎_elim inl (⊎_elim (λ p. inr (inl (inl p))) (λ q. inr (inr (inl q)))) (f x y r)
  split_one x (y ∷ ys) (inr h) = ⊎_elim inl (⊎_elim (λ p. inr (inl (inr p))) (λ q. inr (inr (inr q)))) (split_one x ys h)

  pair_split : (xs : List A) → AnyPair R xs → Any P xs ⊎ AnyPair Q xs
  unfolding Any AnyPair
  pair_split [] h = absurd h
  pair_split (x ∷ xs) (inl h) = ⊎_elim (λ p. inl (inl p)) (⊎_elim (λ p. inl (inr p)) (λ q. inr (inl q))) (split_one x xs h)
  pair_split (x ∷ xs) (inr h) = ⊎_elim (λ p. inl (inr p)) (λ q. inr (inr q)) (pair_split xs h)

pair_both : {A : Type 0} (P Q : A → Type 0) (xs : List A) → AnyPair (λ x y. (P x × Q y) ⊎ (P y × Q x)) xs → Any P xs × Any Q xs
unfolding Any AnyPair
pair_both P Q [] h = absurd h
pair_both {A} P Q (x ∷ xs) (inl h) = (
  ⊎_elim (λ p. inl p) (λ p. inr p) (first xs h),
  ⊎_elim (λ q. inl q) (λ q. inr q) (second xs h),
)
  where
    first : (ys : List A) → Any (λ y. (P x × Q y) ⊎ (P y × Q x)) ys → P x ⊎ Any P ys
    first [] k = absurd k
    first (y ∷ ys) (inl (inl k)) = inl k.0
    first (y ∷ ys) (inl (inr k)) = inr (inl k.0)
    first (y ∷ ys) (inr k) = ⊎_elim inl (λ i. inr (inr i)) (first ys k)

    second : (ys : List A) → Any (λ y. (P x × Q y) ⊎ (P y × Q x)) ys → Q x ⊎ Any Q ys
    second [] k = absurd k
    second (y ∷ ys) (inl (inl k)) = inr (inl k.1)
    second (y ∷ ys) (inl (inr k)) = inl k.1
    second (y ∷ ys) (inr k) = ⊎_elim inl (λ i. inr (inr i)) (second ys k)
pair_both P Q (x ∷ xs) (inr h) = let r = pair_both P Q xs h in (inr r.0, inr r.1)

module _ (bs : List Block) (a : Axis) (p : Node) where
  meeting : (x y : Block) → (Within (near a p) x × Within (far a p) y) ⊎ (Within (far a p) x × Within (near a p) y)
      → Hits x (edge a p) ⊎ Hits y (edge a p) ⊎ Joins x y (λ k. Hits k (edge a p))
  meeting x y (inl w) = ⊎_elim inl (⊎_elim (λ h. inr (inl h)) (λ j. inr (inr j.0))) (two_blocks a p x y w.0 w.1)
  meeting x y (inr w) = ⊎_elim (λ h. inr (inl h)) (⊎_elim inl (λ j. inr (inr j.1))) (two_blocks a p y x w.1 w.0)

  -- between two cells that are filled, an edge is blocked by the blocks and their rectangles,
  pub edge_in : All (Filled bs) (beside a p) → Blocked (joined bs) (edge a p)
  unfolding Blocked
  edge_in h =
      let c = (cells (Filled bs) a p).0 h in
      ⊎_elim
      (λ k. any_left _ bs (joins bs) (any_imp _ _ (λ b w. one_block a p b w) bs k))
      (λ k. ⊎_elim (λ i. any_left _ bs (joins bs) i) (λ i. any_right _ bs (joins bs) (joins_in _ bs i)) (pair_split _ _ _ meeting bs k))
      (one_or_pair (Within (near a p)) (Within (far a p)) bs c.0 c.1)

  -- and what these block is blocked by a block, or lies between two such cells
  pub edge_out : Blocked (joined bs) (edge a p) → Blocked bs (edge a p) ⊎ All (Filled bs) (beside a p)
  unfolding Blocked
  edge_out h =
      ⊎_elim inl
      (λ k. ⊎_elim inl (λ i. inr ((cells (Filled bs) a p).1 (pair_both (Within (near a p)) (Within (far a p)) bs i)))
      (pair_split _ _ _ (λ x y j. between_two a p x y j) bs (joins_out _ bs k)))
      (any_split _ bs (joins bs) h)
