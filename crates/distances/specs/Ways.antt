-- What a table of distances is: no word of how it was found.
-- Assumes nothing.
use Rattle.std.specs.Prelude.{ℕ, ◌+◌, ◌-◌, ◌*◌, ◌≤◌, ◌<◌, min, ◌≡◌, List, ◌⊎◌, length, get_or}
use Rattle.tracks.specs.declared.Map as held
use Rattle.distances.specs.Lower.{none}

-- the place of the crossing of track i and track j
abbrev pub cell : ℕ → ℕ → ℕ
cell i j = i + j * 96

-- the tracks of both axes, how many, and the marks: which level and which upright ways are shut, told by their low crossing
pub record Map : Type 0 where
  pub xs : List ℕ
  pub nx : ℕ
  pub ys : List ℕ
  pub ny : ℕ
  pub flat : List ℕ
  pub tall : List ℕ

abbrev pub map : List ℕ → ℕ → List ℕ → ℕ → List ℕ → List ℕ → Map
map xs nx ys ny flat tall = record { xs = xs; nx = nx; ys = ys; ny = ny; flat = flat; tall = tall }

-- as the struct holds it
abbrev pub map_of : held.Map → Map
map_of m = map m.x.at m.x.count m.y.at m.y.count m.flat m.tall

-- an open way of that width from the crossing (i, j) to its neighbour (i', j')
pub data Way (m : Map) : ℕ → ℕ → ℕ → ℕ → ℕ → Type 0 where
  east : {i j : ℕ} → i + 1 < m.nx → j < m.ny → get_or m.flat (cell i j) 0 ≡ 0 → Way m i j (i + 1) j (get_or m.xs (i + 1) 0 - get_or m.xs i 0)
  west : {i j : ℕ} → i + 1 < m.nx → j < m.ny → get_or m.flat (cell i j) 0 ≡ 0 → Way m (i + 1) j i j (get_or m.xs (i + 1) 0 - get_or m.xs i 0)
  north : {i j : ℕ} → i < m.nx → j + 1 < m.ny → get_or m.tall (cell i j) 0 ≡ 0 → Way m i j i (j + 1) (get_or m.ys (j + 1) 0 - get_or m.ys j 0)
  south : {i j : ℕ} → i < m.nx → j + 1 < m.ny → get_or m.tall (cell i j) 0 ≡ 0 → Way m i (j + 1) i j (get_or m.ys (j + 1) 0 - get_or m.ys j 0)

-- one more than the number at the place s, or none: what lies as far as that is not asked for
abbrev pub far_of : List ℕ → ℕ → ℕ
far_of d s = min (get_or d s 0 + 1) none

-- the distances to the crossing (a, b), for the sake of the crossing at the place s
pub record Distances (m : Map) (a b s : ℕ) (d : List ℕ) : Type 0 where
  pub long : length d ≡ 9216
  -- t, at the crossing (a, b), has 0
  pub target : get_or d (cell a b) 0 ≡ 0
  -- the ends of an open way differ by at most its width; what is not reached has no open way to what is, unless it was cut off
  pub near : (i j i' j' w : ℕ) → Way m i j i' j' w → get_or d (cell i' j') 0 < far_of d s → (get_or d (cell i j) 0 < none) × (get_or d (cell i j) 0 ≤ get_or d (cell i' j') 0 + w)
  -- each other crossing that is no further than s has an open way to one that is nearer by exactly the way
  pub nearer : (i j : ℕ) → i < m.nx → j < m.ny → get_or d (cell i j) 0 < far_of d s → ¬ ((i ≡ a) × (j ≡ b))
      → (i' : ℕ) × (j' : ℕ) × (w : ℕ) × Way m i j i' j' w × (get_or d (cell i' j') 0 + w ≡ get_or d (cell i j) 0)
  -- one number stands for all that is further, or not reached
  pub cut : (i j : ℕ) → i < m.nx → j < m.ny → get_or d (cell i j) 0 ≤ far_of d s
  pub top : (c : ℕ) → get_or d c 0 ≤ none
  -- none stands in the places that are no crossings
  pub rest : (i j : ℕ) → i < 96 → j < 96 → (m.nx ≤ i) ⊎ (m.ny ≤ j) → get_or d (cell i j) 0 ≡ none
