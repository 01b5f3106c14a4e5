-- Document 02, order 5: the index that is kept beside a board, and the crowding sheet.
-- Assumes nothing.
use Rattle.std.specs.Prelude.{ℕ, ◌+◌, ◌≤◌, ◌<◌, ◌≡◌, Bool, true, false, ◌⊎◌, ◌↔◌, List, [], map, length, get_or}
use Rattle.paper.specs.Grid.{Axis, level, upright, Grid, Edge, Block}
use Rattle.paper.specs.Layout.{wires, blocks_to, grid_of, Layout}
use Rattle.paper.specs.Answer.{BeforeBounds}
use Rattle.walks.specs.Axes.{place}
use Rattle.tracks.specs.declared.Tracks.{Tracks}
use Rattle.tracks.specs.Tracks.{track, most_tracks, AreTracks}
use Rattle.index.specs.declared.Edges.{Edges}
use Rattle.index.specs.Bits.{opened, unbroken, words_of, no_edges, no_index, most_lines}
use Rattle.index.specs.declared.Index.{Index}
use Rattle.index.specs.declared.Crowding.{Crowding}

-- ---- one track

-- every unit edge from u to u' along the axis, at v across it, is open
unfoldable pub OpenWay : Grid → Axis → ℕ → ℕ → ℕ → Type 0
OpenWay G a u u' v = (k : ℕ) → u ≤ k → k < u' → Edge G a (place a k v)

-- one bit for each edge between neighbours of the tracks t, set if the whole edge is open
pub record Lane (G : Grid) (a : Axis) (t : Tracks) (v : ℕ) (bs : List Bool) : Type 0 where
  pub long : length bs + 1 ≡ t.count
  pub each : (k : ℕ) → k < length bs → (get_or bs k false ≡ true) ↔ OpenWay G a (track t k) (track t (k + 1)) v

-- ---- all tracks

-- of each of the tracks u its bits, from track to track of t; zeros after them
pub record Lanes (G : Grid) (a : Axis) (t u : Tracks) (es : List Edges) : Type 0 where
  pub room : length es ≡ most_tracks
  pub each : (k : ℕ) → k < u.count → (bs : List Bool) × Lane G a t (track u k) bs × (get_or es k no_edges ≡ words_of bs)
  pub rest : (k : ℕ) → u.count ≤ k → get_or es k no_edges ≡ no_edges

-- the tracks of the blocks alone, with no further coordinate, and their edges
pub record BuiltOn (G : Grid) (bs : List Block) (i : Index) : Type 0 where
  pub on_x : AreTracks (map (λ b. b.along_x) bs) G.wide [] i.x
  pub on_y : AreTracks (map (λ b. b.along_y) bs) G.high [] i.y
  pub upright_are : Lanes G upright i.y i.x i.upright
  pub level_are : Lanes G level i.x i.y i.level

abbrev pub grid : Layout → Grid
grid l = grid_of l.size l.items

-- of what the layout's items are to a wire
abbrev pub Built : Layout → Index → Type 0
Built l i = BuiltOn (grid l) (blocks_to l.size.clearance wires l.items) i

-- the index of the layout's items
unfoldable pub IndexOf : Layout → Index → Type 0
IndexOf l i = (BeforeBounds l × (i ≡ no_index)) ⊎ ((¬ (BeforeBounds l)) × Built l i)

-- ---- the sheet

-- line k of the sheet is of the track at v, with edges from track to track of t
pub record Line (G : Grid) (a : Axis) (t : Tracks) (v : ℕ) (r : Crowding) (k : ℕ) : Type 0 where
  pub at_is : get_or r.at k 0 ≡ v
  pub bits : List Bool
  pub lane : Lane G a t v bits
  pub free_is : get_or r.free k 0 ≡ opened bits
  pub stretch_is : get_or r.stretch k 0 ≡ unbroken bits

-- a line for each upright track, then one for each level track, zeros after them
pub record Lines (l : Layout) (i : Index) (r : Crowding) : Type 0 where
  pub code_is : r.code ≡ 0
  pub upright_is : r.upright ≡ i.x.count
  pub level_is : r.level ≡ i.y.count
  pub uprights : (k : ℕ) → k < i.x.count → Line (grid l) upright i.y (track i.x k) r k
  pub levels : (k : ℕ) → k < i.y.count → Line (grid l) level i.x (track i.y k) r (i.x.count + k)
  pub rest : (k : ℕ) → i.x.count + i.y.count ≤ k → (get_or r.at k 0 ≡ 0) × (get_or r.free k 0 ≡ 0) × (get_or r.stretch k 0 ≡ 0)
  pub room : (length r.at ≡ most_lines) × (length r.free ≡ most_lines) × (length r.stretch ≡ most_lines)
