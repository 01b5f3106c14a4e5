-- A table of numbers, lowered one number at a time.
-- Assumes nothing.
use Rattle.std.specs.Prelude.{ℕ, ◌+◌, ◌*◌, ◌≤◌, ◌<◌, ◌≡◌, Bool, true, false, cond, List, [], ◌∷◌, length, get_or, set, eqb}

-- what stands where the search has not come
abbrev pub none : ℕ
none = 1000000000

abbrev pub cost_of : ℕ → ℕ → ℕ
cost_of shut width = cond (eqb shut 0) width none

-- 96 × 96 numbers, none of them larger
pub record Table (d : List ℕ) : Type 0 where
  pub long : length d ≡ 9216
  pub each : (i : ℕ) → get_or d i 0 ≤ none

-- the places of a line lie in the table
pub record Inside (from step count : ℕ) : Type 0 where
  pub place : (k : ℕ) → k < count → from + k * step < 9216

-- the sum of a table: what every change lowers
unfoldable pub total : List ℕ → ℕ
total [] = 0
total (x ∷ xs) = x + total xs

-- from one table to another by changes, one after another
pub data Chain (R : List ℕ → List ℕ → Type 0) (d : List ℕ) : List ℕ → Type 0 where
  same : Chain R d d
  more : {e f : List ℕ} → Chain R d e → R e f → Chain R d f

module _ (shut : List ℕ) (from to edge step count width : ℕ) where
  -- one number of the line at `to` becomes what it is by way of the line at `from`, which is less
  pub record Change (d e : List ℕ) : Type 0 where
    pub k : ℕ
    pub on : k < count
    pub free : get_or shut (edge + k * step) 0 ≡ 0
    pub less : get_or d (from + k * step) 0 + width < get_or d (to + k * step) 0
    pub now : e ≡ set d (to + k * step) (get_or d (from + k * step) 0 + width)

  -- no number of the line can be lowered so
  unfoldable pub Done : List ℕ → ℕ → Type 0
  Done d n = (k : ℕ) → k < n → get_or shut (edge + k * step) 0 ≡ 0 → get_or d (to + k * step) 0 ≤ get_or d (from + k * step) 0 + width

pub record Lowered (d e shut : List ℕ) (from to edge step count width : ℕ) (changed : Bool) : Type 0 where
  pub table : Table e
  pub chain : Chain (Change shut from to edge step count width) d e
  pub kept : changed ≡ false → (e ≡ d) × Done shut from to edge step count width e count
  pub fell : changed ≡ true → total e < total d
