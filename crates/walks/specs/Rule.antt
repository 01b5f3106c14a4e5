-- Today's rule, that what is blocked is not open, obeys the two slab laws where no block begins or ends strictly between neighbouring tracks.
-- Assumes nothing.
use Rattle.std.specs.Prelude.{ℕ, suc, ◌+◌, ◌-◌, ◌≤◌, ◌<◌, ◌≡◌}
use Rattle.std.proofs.Math.Decide.{dec_le}
use Rattle.std.proofs.Common.{arith}
use Rattle.std.proofs.Math.Logic.{by_cases}
use Rattle.paper.specs.Grid.{Axis, level, upright, Grid, Area, Span, Block}
use Rattle.walks.specs.Axes.{place, side}
use Rattle.walks.specs.Tracks.{Tracks, Rising, on_board, none_between}

-- ---- one axis

-- the span has no side strictly between two neighbouring tracks
pub record Cut (U : Tracks) (s : Span) : Type 0 where
  pub low : (i : ℕ) → i < U.last → U.track i + s.c < s.lo → U.track (suc i) + s.c ≤ s.lo
  pub high : (i : ℕ) → i < U.last → U.track i < s.hi + s.c → U.track (suc i) ≤ s.hi + s.c

abbrev pub IsTrack : Tracks → ℕ → Type 0
IsTrack U x = (j : ℕ) × (j ≤ U.last) × (U.track j ≡ x)

-- each side of the span that lies on the board is a track
pub record Tracked (U : Tracks) (end : ℕ) (s : Span) : Type 0 where
  pub low : (x : ℕ) → x + s.c ≡ s.lo → x ≤ end → IsTrack U x
  pub high : s.hi + s.c ≤ end → IsTrack U (s.hi + s.c)

pub cut : {U : Tracks} {end : ℕ} {s : Span} → Rising U end → Tracked U end s → Cut U s
cut {U} {end} {s} r t = record {
  low = λ i p h.
      by_cases (dec_le (U.track (suc i) + s.c) s.lo) (λ q. q) λ q.
      let x = t.low (s.lo - s.c) (omega arith) (omega (arith, on_board r (suc i) p)) in
      absurd (none_between r i x.0 p x.1 (omega (arith, x.2)) (omega (arith, x.2)));
  high = λ i p h.
      by_cases (dec_le (U.track (suc i)) (s.hi + s.c)) (λ q. q) λ q.
      let x = t.high (omega (arith, on_board r (suc i) p)) in
      absurd (none_between r i x.0 p x.1 (omega (arith, x.2)) (omega (arith, x.2)));
}

-- ---- both axes

abbrev pub span : Axis → Block → Span
span level b = b.along_x
span upright b = b.along_y

-- each side of the block on the board is a track; none is strictly between tracks
abbrev pub BlockTracked : (Axis → Tracks) → Grid → Block → Type 0
BlockTracked T G b = (a : Axis) → Tracked (T a) (side a G) (span a b)

abbrev pub BlockCut : (Axis → Tracks) → Block → Type 0
BlockCut T b = (a : Axis) → Cut (T a) (span a b)

-- the area from u to u' along the axis and from v to v' across it
abbrev pub area : Axis → (u u' v v' : ℕ) → Area
area a u u' v v' = record { low = place a u v; high = place a u' v' }
