-- The edges of one track as bits, set where the edge is open: how many are, and how many from the low end on.
-- Assumes nothing.
use Rattle.std.specs.Prelude.{ℕ, ◌+◌, ◌*◌, Bool, true, false, List, [], ◌∷◌, take, drop, replicate}
use Rattle.tracks.specs.declared.Tracks.{Tracks}
use Rattle.tracks.specs.Tracks.{most_tracks}
use Rattle.index.specs.declared.Edges.{Edges}
use Rattle.index.specs.declared.Index.{Index}

-- ---- in a row, the low end first

abbrev pub digit : Bool → ℕ
digit true = 1
digit false = 0

-- as a number, the first lowest; how many are set; how many from the first on
unfoldable pub number : List Bool → ℕ
number [] = 0
number (b ∷ bs) = digit b + 2 * number bs

unfoldable pub opened : List Bool → ℕ
opened [] = 0
opened (b ∷ bs) = digit b + opened bs

unfoldable pub unbroken : List Bool → ℕ
unbroken [] = 0
unbroken (true ∷ bs) = 1 + unbroken bs
unbroken (false ∷ bs) = 0

-- two words: the first 64 bits in the low one
abbrev pub words_of : List Bool → Edges
words_of bs = record { low = number (take 64 bs); high = number (drop 64 bs) }

abbrev pub no_edges : Edges
no_edges = record { low = 0; high = 0 }

-- ---- before bounds

abbrev pub no_tracks : Tracks
no_tracks = record { at = replicate most_tracks 0; count = 0 }

abbrev pub no_index : Index
no_index = record { x = no_tracks; y = no_tracks; upright = replicate most_tracks no_edges; level = replicate most_tracks no_edges }

-- the sheet has a line for each track of either axis
abbrev pub most_lines : ℕ
most_lines = 2 * most_tracks
