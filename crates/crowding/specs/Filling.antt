-- What the functions of this crate say of each other: marks as bits.
-- Assumes nothing.
use Rattle.std.specs.Prelude.{ℕ, ◌≤◌, ◌<◌, ◌≡◌, Bool, true, false, List, [], length, get_or, eqb}
use Rattle.blocks.specs.declared.Blocks.{Blocks}
use Rattle.blocks.specs.Flat.{listed, first_at, Fits}
use Rattle.edges.specs.Marks.{cell}
use Rattle.tracks.specs.Tracks.{spans, most_tracks, AreTracks}
use Rattle.paper.specs.declared.Size.{Size}
use Rattle.tracks.specs.declared.Tracks.{Tracks}
use Rattle.index.specs.declared.Edges.{Edges}
use Rattle.index.specs.Bits.{words_of, no_edges}

-- where the mark of edge t of track k stands, of an upright track or of a level one
abbrev pub cell_of : Bool → ℕ → ℕ → ℕ
cell_of true k t = cell k t
cell_of false k t = cell t k

-- there is no mark
unfoldable pub is_clear : Bool → List ℕ → ℕ → ℕ → Bool
is_clear u d k t = eqb (get_or d (cell_of u k t) 0) 0

-- the bits of n edges of track k
abbrev pub bits_of : Bool → List ℕ → ℕ → ℕ → List Bool
bits_of u d k n = listed (is_clear u d k) 0 n

-- each of the first tracks has its words, the others none
pub record Filled (u : Bool) (d : List ℕ) (count n : ℕ) (es : List Edges) : Type 0 where
  pub room : length es ≡ most_tracks
  pub each : (k : ℕ) → k < count → get_or es k no_edges ≡ words_of (bits_of u d k n)
  pub rest : (k : ℕ) → count ≤ k → get_or es k no_edges ≡ no_edges

-- the tracks of both axes of a board with these blocks, with no further coordinate
pub record OnTracks (s : Size) (b : Blocks) (x y : Tracks) : Type 0 where
  pub wide : 1 ≤ s.w
  pub high : 1 ≤ s.h
  pub fits : Fits b
  pub on_x : AreTracks (spans (first_at b b.items) b.x0 b.x1 b.c) s.w [] x
  pub on_y : AreTracks (spans (first_at b b.items) b.y0 b.y1 b.c) s.h [] y
