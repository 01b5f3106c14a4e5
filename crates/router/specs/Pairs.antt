-- The rectangles of two blocks of a list that is told by places: which two, and that tracks run along their sides.
-- Assumes nothing.
use Prim.Native.Nat.{ℕ, zero, suc, ◌+◌, ◌≤◌, ◌<◌}
use Rattle.std.proofs.Common.{eq-or-lt_of_le, sym, subst}
use Rattle.std.proofs.Math.Decide.{dec_le}
use native.Mathlib.Omega.{arith}
use Rattle.std.specs.Prelude.{◌≡◌, List}
use Rattle.std.proofs.Math.Logic.{⊎_elim, by_cases}
use Rattle.paper.specs.Grid.{Axis, level, upright, Grid, Span, Block, Any, All}
use Rattle.paper.specs.Laws.Lists.{all_join, any_left, any_right, any_split}
use Rattle.paper.specs.Laws.Joins.{Touch, Share, hull, common, beam, post, join_of, join_all, joins_with, joins, joins_all, joined}
use Rattle.blocks.specs.Flat.{listed}
use Rattle.walks.specs.Tracks as lines
use Rattle.walks.specs.Rule.{Tracked, BlockTracked}
use Rattle.walks.specs.Axes.{side}

-- ---- by their places

module _ (P : Block → Type 0) (f : ℕ → Block) where
  with_out : (x : Block) (s n : ℕ) → Any P (joins_with x (listed f s n)) → (k : ℕ) × (s ≤ k) × (k < s + n) × Any P (join_of x (f k))
  unfolding Any listed joins_with
  with_out x s zero h = absurd h
  with_out x s (suc n) h =
      ⊎_elim (λ p. (s, omega arith, omega arith, p))
      (λ p. let r = with_out x (suc s) n p in (r.0, omega (arith, r.1), omega (arith, r.2), r.3))
      (any_split P (join_of x (f s)) (joins_with x (listed f (suc s) n)) h)

  with_in : (x : Block) (s n k : ℕ) → s ≤ k → k < s + n → Any P (join_of x (f k)) → Any P (joins_with x (listed f s n))
  unfolding listed joins_with
  with_in x s zero k h q p = absurd (omega arith)
  with_in x s (suc n) k h q p =
      ⊎_elim (λ e. any_left P (join_of x (f s)) (joins_with x (listed f (suc s) n)) (subst (λ j. Any P (join_of x (f j))) (sym e) p))
      (λ r. any_right P (join_of x (f s)) (joins_with x (listed f (suc s) n)) (with_in x (suc s) n k r (omega arith) p))
      (eq-or-lt_of_le h)

  -- the one before, and the other
  pub pair_out : (s n : ℕ) → Any P (joins (listed f s n)) → (k : ℕ) × (l : ℕ) × (s ≤ l) × (l < k) × (k < s + n) × Any P (join_of (f l) (f k))
  unfolding Any listed joins
  pair_out s zero h = absurd h
  pair_out s (suc n) h =
      ⊎_elim
      (λ p. let r = with_out (f s) (suc s) n p in (r.0, s, omega arith, omega (arith, r.1), omega (arith, r.2), r.3))
      (λ p. let r = pair_out (suc s) n p in (r.0, r.1, omega (arith, r.2), r.3, omega (arith, r.4), r.5))
      (any_split P (joins_with (f s) (listed f (suc s) n)) (joins (listed f (suc s) n)) h)

  pub pair_in : (s n k l : ℕ) → s ≤ l → l < k → k < s + n → Any P (join_of (f l) (f k)) → Any P (joins (listed f s n))
  unfolding listed joins
  pair_in s zero k l h i q p = absurd (omega arith)
  pair_in s (suc n) k l h i q p =
      ⊎_elim
      (λ e. any_left P (joins_with (f s) (listed f (suc s) n)) (joins (listed f (suc s) n))
      (with_in (f s) (suc s) n k (omega arith) (omega arith) (subst (λ j. Any P (join_of (f j) (f k))) (sym e) p)))
      (λ r. any_right P (joins_with (f s) (listed f (suc s) n)) (joins (listed f (suc s) n)) (pair_in (suc s) n k l r i (omega arith) p))
      (eq-or-lt_of_le h)

-- ---- their sides are sides of the two

module _ (U : lines.Tracks) (end : ℕ) (s t : Span) (p : Tracked U end s) (q : Tracked U end t) (a : s.c ≡ 0) (b : t.c ≡ 0) where
  hull_tracked : Tracked U end (hull s t)
  hull_tracked = record {
    low = λ x e h. by_cases (dec_le s.lo t.lo) (λ k. p.low x (omega arith) h) (λ k. q.low x (omega arith) h);
    high = λ h. by_cases (dec_le t.hi s.hi)
        (λ k. let r = p.high (omega arith) in (r.0, r.1, omega (arith, r.2))) (λ k. let r = q.high (omega arith) in (r.0, r.1, omega (arith, r.2)));
  }

  common_tracked : Tracked U end (common s t)
  common_tracked = record {
    low = λ x e h. by_cases (dec_le s.lo t.lo) (λ k. q.low x (omega arith) h) (λ k. p.low x (omega arith) h);
    high = λ h. by_cases (dec_le t.hi s.hi)
        (λ k. let r = q.high (omega arith) in (r.0, r.1, omega (arith, r.2))) (λ k. let r = p.high (omega arith) in (r.0, r.1, omega (arith, r.2)));
  }

module _ (T : Axis → lines.Tracks) (G : Grid) where
  join_tracked : (a b : Block) → BlockTracked T G a → BlockTracked T G b → All (BlockTracked T G) (join_of a b)
  unfolding Touch Share
  join_tracked a b p q = join_all (BlockTracked T G) a b (λ t s. beside t s) (λ s t. above s t)
    where
      beside : Touch a.along_x b.along_x → Share a.along_y b.along_y → BlockTracked T G (beam a b)
      beside t s level = hull_tracked (T level) (side level G) a.along_x b.along_x (p level) (q level) t.0.0 t.0.1
      beside t s upright = common_tracked (T upright) (side upright G) a.along_y b.along_y (p upright) (q upright) s.0.0 s.0.1

      above : Share a.along_x b.along_x → Touch a.along_y b.along_y → BlockTracked T G (post a b)
      above s t level = common_tracked (T level) (side level G) a.along_x b.along_x (p level) (q level) s.0.0 s.0.1
      above s t upright = hull_tracked (T upright) (side upright G) a.along_y b.along_y (p upright) (q upright) t.0.0 t.0.1

  pub joined_tracked : (bs : List Block) → All (BlockTracked T G) bs → All (BlockTracked T G) (joined bs)
  joined_tracked bs h = all_join (BlockTracked T G) bs (joins bs) h (joins_all (BlockTracked T G) (BlockTracked T G) join_tracked bs h)
