-- What the functions of this crate say: counts of words, and the sheet line by line, by what stands in the index.
-- Assumes nothing.
use Rattle.std.specs.Prelude.{ℕ, ◌+◌, ◌-◌, ◌^◌, ◌≤◌, ◌<◌, ◌≡◌, cond, ◌⊎◌, List, length, get_or, eqb}
use Rattle.std.specs.Int.Count.{ones, count_trailing_zeros}
use Rattle.tracks.specs.declared.Tracks.{Tracks}
use Rattle.tracks.specs.Tracks.{track}
use Rattle.index.specs.declared.Edges.{Edges}
use Rattle.index.specs.declared.Index.{Index}
use Rattle.index.specs.declared.Crowding.{Crowding}
use Rattle.index.specs.Bits.{no_edges, most_lines}

-- ---- counts of two words

abbrev pub full : ℕ
full = 2 ^ 64 - 1

unfoldable pub open_in : Edges → ℕ
open_in e = ones e.low + ones e.high

unfoldable pub stretch_in : Edges → ℕ
stretch_in e = cond (eqb (count_trailing_zeros 64 (full - e.low)) 64) (64 + count_trailing_zeros 64 (full - e.high)) (count_trailing_zeros 64 (full - e.low))

-- ---- lines

-- line j shows the place of a track and the counts of its edges
pub record Shows (r : Crowding) (j v : ℕ) (e : Edges) : Type 0 where
  pub at_is : get_or r.at j 0 ≡ v
  pub free_is : get_or r.free j 0 ≡ open_in e
  pub stretch_is : get_or r.stretch j 0 ≡ stretch_in e

-- line j is the same
pub record Same (b r : Crowding) (j : ℕ) : Type 0 where
  pub at_is : get_or r.at j 0 ≡ get_or b.at j 0
  pub free_is : get_or r.free j 0 ≡ get_or b.free j 0
  pub stretch_is : get_or r.stretch j 0 ≡ get_or b.stretch j 0

pub record Long (r : Crowding) : Type 0 where
  pub at_long : length r.at ≡ most_lines
  pub free_long : length r.free ≡ most_lines
  pub stretch_long : length r.stretch ≡ most_lines

-- the first n of the tracks t have lines, from the line `from` on; else the sheet is as it was
pub record Put (b : Crowding) (from : ℕ) (t : Tracks) (es : List Edges) (n : ℕ) (r : Crowding) : Type 0 where
  pub code_is : r.code ≡ b.code
  pub upright_is : r.upright ≡ b.upright
  pub level_is : r.level ≡ b.level
  pub long : Long r
  pub each : (k : ℕ) → k < n → Shows r (from + k) (track t k) (get_or es k no_edges)
  pub others : (j : ℕ) → (j < from) ⊎ (from + n ≤ j) → Same b r j

-- the whole sheet of an index
pub record Counted (i : Index) (r : Crowding) : Type 0 where
  pub code_is : r.code ≡ 0
  pub upright_is : r.upright ≡ i.x.count
  pub level_is : r.level ≡ i.y.count
  pub long : Long r
  pub uprights : (k : ℕ) → k < i.x.count → Shows r k (track i.x k) (get_or i.upright k no_edges)
  pub levels : (k : ℕ) → k < i.y.count → Shows r (i.x.count + k) (track i.y k) (get_or i.level k no_edges)
  pub rest : (j : ℕ) → i.x.count + i.y.count ≤ j → (get_or r.at j 0 ≡ 0) × (get_or r.free j 0 ≡ 0) × (get_or r.stretch j 0 ≡ 0)
