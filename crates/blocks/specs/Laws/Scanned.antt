-- The steps of the scan: from block to block of an item, and from item to item.
-- Assumes nothing.
use Prim.Native.Nat.{ℕ, suc, ◌+◌, ◌-◌, ◌≤◌, ◌<◌}
use native.Mathlib.Omega.{arith}
use Rattle.std.proofs.Common.{lt_of_lt_of_le, add-one, ◌∙◌, inl, inr}
use Rattle.std.specs.Prelude.{◌≡◌, Bool, true, false, ◌↔◌, ◌∷◌, get_or, Some, None}
use Rattle.std.proofs.Math.Path.{sym, subst}
use Rattle.std.proofs.Math.Logic.{⊎_elim}
use Rattle.std.proofs.Math.Dec.{T}
use Rattle.paper.specs.Grid.{Any, Hits, Blocked}
use Rattle.blocks.specs.declared.Blocks.{Blocks}
use Rattle.blocks.specs.declared.Place.{Place}
use Rattle.blocks.specs.declared.Look.{Look}
use Rattle.blocks.specs.Flat.{place_area, block_at, listed, blocks_from, blocks_in, looked, Stops, FirstIs}

-- ---- the blocks of item i, which end at `end`

-- what blocks the place among them stands at k or after it
unfoldable pub Ahead : Blocks → Place → ℕ → ℕ → ℕ → Type 0
Ahead b p i end k = Blocked (blocks_in b i) (place_area p) ↔ Blocked (blocks_from b k (end - k)) (place_area p)

module _ (b : Blocks) (p : Place) (i end k : ℕ) where
  -- the block at k, or one after it
  ahead_cons : k < end → blocks_from b k (end - k) ≡ block_at b k ∷ blocks_from b (k + 1) (end - (k + 1))
  unfolding listed
  ahead_cons h = let e : end - k ≡ suc (end - (k + 1)) = omega arith in rw (e, add-one)

  pub ahead_next : Ahead b p i end k → k < end → ¬ (Hits (block_at b k) (place_area p)) → Ahead b p i end (k + 1)
  unfolding Ahead Blocked Any
  ahead_next a h miss = (
    λ q. ⊎_elim (λ x. absurd (miss x)) (λ x. x) (rw (ahead_cons h) at (a.0 q)),
    λ q. a.1 (rw (ahead_cons h) (inr q)),
  )

  pub ahead_hit : Ahead b p i end k → k < end → Hits (block_at b k) (place_area p) → Blocked (blocks_in b i) (place_area p)
  unfolding Ahead Blocked Any
  ahead_hit a h hit = a.1 (rw (ahead_cons h) (inl hit))

  pub ahead_none : Ahead b p i end k → end ≤ k → ¬ (Blocked (blocks_in b i) (place_area p))
  unfolding Ahead Blocked Any listed
  ahead_none a h q = let e : end - k ≡ 0 = omega arith in rw e at (a.0 q)

-- ---- the items

module _ (b : Blocks) (look : Look) (p : Place) (i : ℕ) where
  pub not_looked : (r : Bool) → r ≡ looked look (get_or b.wires i false) → r ≡ false → ¬ (Stops b look p i)
  unfolding Stops
  not_looked r e f s = subst T (sym s.1 ∙ sym e ∙ f) tt

  pub not_blocked : ¬ (Blocked (blocks_in b i) (place_area p)) → ¬ (Stops b look p i)
  unfolding Stops
  not_blocked n s = n s.2

  pub first_here : (r : Bool) → i < b.items → r ≡ looked look (get_or b.wires i false) → r ≡ true → Blocked (blocks_in b i) (place_area p)
      → ((j : ℕ) → j < i → ¬ (Stops b look p j)) → FirstIs b look p (Some i)
  unfolding Stops FirstIs
  first_here r h e t q before = ((h, sym e ∙ t, q), before)

  pub none_left : b.items ≤ i → ((j : ℕ) → j < i → ¬ (Stops b look p j)) → FirstIs b look p None
  unfolding Stops FirstIs
  none_left h before = λ j s. before j (lt_of_lt_of_le s.0 h) s
