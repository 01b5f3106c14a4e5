-- One axis: the tracks beside a number, and what a unit step changes of them.
-- Assumes nothing.
use Rattle.std.specs.Prelude.{ℕ, zero, suc, ◌+◌, ◌≤◌, ◌<◌, ◌≡◌, refl, ◌⊎◌}
use Rattle.std.proofs.Common.{eq-or-lt_of_le, arith, sym, ap, subst, inl, inr, ⊎_elim}
use Rattle.walks.specs.Axes.{Sense, up, down, Further, lower}
use Rattle.walks.specs.Tracks.{Tracks, Rising, InSlab, Within, none_between, one_track}

-- Track i stands beside u, g away: u is on it, or it is one of the two that u stands between.
pub data Beside (U : Tracks) (u : ℕ) : ℕ → ℕ → Type 0 where
  own : {i : ℕ} → i ≤ U.last → U.track i ≡ u → Beside U u i 0
  left : {i g : ℕ} → i < U.last → U.track i < u → u < U.track (suc i) → U.track i + g ≡ u → Beside U u i g
  right : {i g : ℕ} → i < U.last → U.track i < u → u < U.track (suc i) → u + g ≡ U.track (suc i) → Beside U u (suc i) g

pub beside_last : {U : Tracks} {u i g : ℕ} → Beside U u i g → i ≤ U.last
beside_last (own p e) = p
beside_last (left p q r e) = omega arith
beside_last (right p q r e) = p

-- u is on the track, or strictly inside the slab that the track bounds
pub beside_cases : {U : Tracks} {u i g : ℕ} → Beside U u i g → (U.track i ≡ u) ⊎ Within U (U.track i) u
beside_cases (own p e) = inl e
beside_cases (left {i = z} p q r e) = inr (record { z = z; some = p; from = omega arith; to = omega arith; above = q; below = r })
beside_cases (right {i = z} p q r e) = inr (record { z = z; some = p; from = omega arith; to = omega arith; above = q; below = r })

-- Track i stands g away from u', a step further than u. To u it stands beside too, nearer or at most a step further; or it is the next track
-- after the one that u is on, and the step goes into the slab between them.
pub data Seen (U : Tracks) (s : Sense) (u u' i g : ℕ) : Type 0 where
  still : {h : ℕ} → Beside U u i h → h ≤ suc g → 0 < g + h → Seen U s u u' i g
  ahead : {z : ℕ} → Beside U u z 0 → Further s 1 z i → InSlab U (lower s z i) (lower s u u')
      → Further s (suc g) (U.track z) (U.track i) → Seen U s u u' i g

module _ {U : Tracks} {side : ℕ} (r : Rising U side) where
  -- beside a track no other track stands
  pub alone : (i j g : ℕ) → i ≤ U.last → Beside U (U.track i) j g → (j ≡ i) × (g ≡ 0)
  alone i j g p (own q e) = (one_track r j i q p e, refl)
  alone i j g p (left q h k e) = absurd (none_between r j i q p h k)
  alone i j g p (right {i = z} q h k e) = absurd (none_between r z i q p h k)

  seen_up : (u i g : ℕ) → Beside U (suc u) i g → Seen U up u (suc u) i g
  seen_up u zero g (own p e) = absurd (omega (arith, r.start))
  seen_up u (suc i) g (own p e) =
      ⊎_elim
      (λ k. ahead {z = i} (own (omega arith) k) (omega arith) (omega arith) (omega arith))
      (λ k. still {h = 1} (right p k (omega arith) (omega arith)) (omega arith) (omega arith))
      (eq-or-lt_of_le {n = U.track i} {m = u} (omega (arith, r.inc i p)))
  seen_up u i zero (left p q t e) = absurd (omega arith)
  seen_up u i (suc g) (left p q t e) =
      ⊎_elim
      (λ k. still (own (omega arith) k) (omega arith) (omega arith))
      (λ k. still {h = g} (left p k (omega arith) (omega arith)) (omega arith) (omega arith))
      (eq-or-lt_of_le {n = U.track i} {m = u} (omega arith))
  seen_up u i g (right {i = z} p q t e) =
      ⊎_elim
      (λ k. ahead {z = z} (own (omega arith) k) (omega arith) (omega arith) (omega arith))
      (λ k. still {h = suc g} (right p k (omega arith) (omega arith)) (omega arith) (omega arith))
      (eq-or-lt_of_le {n = U.track z} {m = u} (omega arith))

  seen_down : (u i g : ℕ) → u < side → Beside U u i g → Seen U down (suc u) u i g
  seen_down u i g b (own p e) =
      let p' : i < U.last = ⊎_elim (λ q. absurd (omega (arith, ap U.track q, r.end))) (λ q. q) (eq-or-lt_of_le p) in
      ⊎_elim
      (λ k. ahead {z = suc i} (own p' (sym k)) (omega arith) (omega arith) (omega arith))
      (λ k. still {h = 1} (left p' (omega arith) k (omega arith)) (omega arith) (omega arith))
      (eq-or-lt_of_le {n = suc u} {m = U.track (suc i)} (omega (arith, r.inc i p')))
  seen_down u i g b (left p q t e) =
      ⊎_elim
      (λ k. ahead {z = suc i} (own p (sym k)) (omega arith) (omega arith) (omega arith))
      (λ k. still {h = suc g} (left p (omega arith) k (omega arith)) (omega arith) (omega arith))
      (eq-or-lt_of_le t)
  seen_down u i zero b (right p q t e) = absurd (omega arith)
  seen_down u i (suc g) b (right p q t e) =
      ⊎_elim
      (λ k. still (own p (sym k)) (omega arith) (omega arith))
      (λ k. still {h = g} (right p (omega arith) k (omega arith)) (omega arith) (omega arith))
      (eq-or-lt_of_le t)

  pub seen : (s : Sense) (u u' i g : ℕ) → Further s 1 u u' → lower s u u' < side → Beside U u' i g → Seen U s u u' i g
  seen up u u' i g h b k = let e : suc u ≡ u' = omega arith in subst (λ x. Beside U x i g → Seen U up u x i g) e (seen_up u i g) k
  seen down u u' i g h b k = let e : suc u' ≡ u = omega arith in rw (← e) (seen_down u' i g b k)
