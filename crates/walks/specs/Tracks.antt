-- One axis: its tracks, in rising order, cut it into slabs.
-- Assumes nothing.
use Rattle.std.specs.Prelude.{ℕ, zero, suc, ◌≤◌, ◌<◌, ◌≡◌}
use Rattle.std.proofs.Common.{eq-or-lt_of_le, le_of_suc-le-suc, arith, ap, ⊎_elim}
use Rattle.std.proofs.Math.Decide.{dec_le, dec_lt}
use Rattle.std.proofs.Math.Logic.{by_cases}

-- track 0 to track last
pub record Tracks : Type 0 where
  pub last : ℕ
  pub track : ℕ → ℕ

-- they rise from 0 to the far side of the board
pub record Rising (U : Tracks) (side : ℕ) : Type 0 where
  pub inc : (i : ℕ) → i < U.last → U.track i < U.track (suc i)
  pub start : U.track 0 ≡ 0
  pub end : U.track U.last ≡ side

-- Slab z lies between the tracks z and z + 1. The unit edge from u to u + 1 is in it.
pub record InSlab (U : Tracks) (z u : ℕ) : Type 0 where
  pub some : z < U.last
  pub from : U.track z ≤ u
  pub below : u < U.track (suc z)

-- v is strictly inside a slab, and u is in it too or on one of its tracks
pub record Within (U : Tracks) (u v : ℕ) : Type 0 where
  pub z : ℕ
  pub some : z < U.last
  pub from : U.track z ≤ u
  pub to : u ≤ U.track (suc z)
  pub above : U.track z < v
  pub below : v < U.track (suc z)

module _ {U : Tracks} {side : ℕ} (r : Rising U side) where
  rising : (i j : ℕ) → i < j → j ≤ U.last → U.track i < U.track j
  rising i zero h p = absurd (omega arith)
  rising i (suc j) h p =
      ⊎_elim
      (λ e. rw e (r.inc j p))
      (λ (q : i < j). omega (arith, rising i j q (omega arith), r.inc j p))
      (eq-or-lt_of_le (le_of_suc-le-suc h))

  weakly : (i j : ℕ) → i ≤ j → j ≤ U.last → U.track i ≤ U.track j
  weakly i j h p = ⊎_elim (λ e. omega (arith, ap U.track e)) (λ q. omega (arith, rising i j q p)) (eq-or-lt_of_le h)

  pub on_board : (i : ℕ) → i ≤ U.last → U.track i ≤ side
  on_board i p = omega (arith, weakly i U.last p (omega arith), r.end)

  -- no track stands between neighbours
  pub none_between : (i j : ℕ) → i < U.last → j ≤ U.last → U.track i < U.track j → U.track j < U.track (suc i) → ⊥
  none_between i j p q h k =
      by_cases (dec_le j i) (λ l. omega (arith, weakly j i l (omega arith))) (λ l. omega (arith, weakly (suc i) j (omega arith) q))

  -- and no two stand at one place
  pub one_track : (i j : ℕ) → i ≤ U.last → j ≤ U.last → U.track i ≡ U.track j → i ≡ j
  one_track i j p q e =
      by_cases (dec_lt i j) (λ l. absurd (omega (arith, rising i j l q))) λ l.
      by_cases (dec_lt j i) (λ k. absurd (omega (arith, rising j i k p))) (λ k. omega arith)
