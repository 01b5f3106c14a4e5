-- One axis: which tracks, and which slabs between tracks, an open interval meets.
-- Assumes nothing.
use Rattle.std.specs.Prelude.{ℕ, ◌+◌, ◌≤◌, ◌<◌, List, ◌↔◌, get_or}
use Rattle.paper.specs.Grid.{Span, Meets}
use Rattle.tracks.specs.declared.Tracks.{Tracks}
use Rattle.edges.specs.declared.Range.{Range}

pub record Rising (at : List ℕ) (count : ℕ) : Type 0 where
  pub rise : (i j : ℕ) → i < j → j < count → get_or at i 0 < get_or at j 0

-- the tracks of one axis rise, and are not too many
pub record Ascending (t : Tracks) : Type 0 where
  pub few : t.count ≤ 96
  pub rise : Rising t.at t.count

-- r is the first track from `from` on that does not lie below v, or `count` where there is none
pub record Below (at : List ℕ) (count v from r : ℕ) : Type 0 where
  pub past : from ≤ r
  pub few : r ≤ count
  pub under : (i : ℕ) → i < r → from ≤ i → get_or at i 0 < v
  pub here : r < count → v ≤ get_or at r 0

abbrev pub span : ℕ → ℕ → ℕ → Span
span lo hi c = record { lo = lo; hi = hi; c = c }

-- i is in the range just if the interval meets the track i (reach 0), or the first unit edge of the slab from i on (reach 1)
pub record Meeting (at : List ℕ) (count lo hi c reach : ℕ) (r : Range) : Type 0 where
  pub starts : r.from ≤ count
  pub ends : r.to ≤ count
  pub those : (i : ℕ) → i < count → ((r.from ≤ i) × (i < r.to)) ↔ Meets (span lo hi c) (get_or at i 0) (get_or at i 0 + reach)
