-- Both axes and both directions, until nothing changes.
-- Assumes nothing.
use Rattle.std.specs.Prelude.{ℕ, ◌<◌, ◌≡◌, Bool, true, false, List}
use Rattle.distances.specs.declared.Lines.{Lines}
use Rattle.distances.specs.Lower.{Table, total, Chain}
use Rattle.distances.specs.Sweep.{Across, Still}

-- an axis: which ways across its slabs are shut, its tracks, its lines
pub record Side : Type 0 where
  pub shut : List ℕ
  pub at : List ℕ
  pub lines : Lines

abbrev pub side : List ℕ → List ℕ → Lines → Side
side shut at l = record { shut = shut; at = at; lines = l }

-- a change across a slab of the axis, forth or back
pub record Moved (s : Side) (d e : List ℕ) : Type 0 where
  pub back : Bool
  pub across : Across s.shut s.at s.lines back d e

-- no number can be lowered across a slab of the axis
unfoldable pub Calm : Side → List ℕ → Type 0
Calm s d = (back : Bool) (i : ℕ) → i < s.lines.slabs → Still s.shut s.at s.lines back d i

pub record Went (s : Side) (d e : List ℕ) (changed : Bool) : Type 0 where
  pub table : Table e
  pub chain : Chain (Moved s) d e
  pub kept : changed ≡ false → (e ≡ d) × Calm s e
  pub fell : changed ≡ true → total e < total d

pub data Either (x y : Side) (d e : List ℕ) : Type 0 where
  on_x : Moved x d e → Either x y d e
  on_y : Moved y d e → Either x y d e

pub record Passed (x y : Side) (d e : List ℕ) (changed : Bool) : Type 0 where
  pub table : Table e
  pub chain : Chain (Either x y) d e
  pub kept : changed ≡ false → (e ≡ d) × Calm x e × Calm y e
  pub fell : changed ≡ true → total e < total d

pub record Settles (x y : Side) (d e : List ℕ) : Type 0 where
  pub table : Table e
  pub chain : Chain (Either x y) d e
  pub calm_x : Calm x e
  pub calm_y : Calm y e
