-- The lines of one axis, lowered slab by slab.
-- Assumes nothing.
use Rattle.std.specs.Prelude.{ℕ, ◌+◌, ◌-◌, ◌*◌, ◌≤◌, ◌<◌, ◌≡◌, Bool, true, false, cond, List, get_or}
use Rattle.distances.specs.declared.Lines.{Lines}
use Rattle.distances.specs.Lower.{Table, Inside, total, Chain, Change, Done, Lowered}

abbrev pub width_of : List ℕ → ℕ → ℕ
width_of at i = get_or at (i + 1) 0 - get_or at i 0

-- the tracks rise, to 30,000 at the most
pub record Widths (at : List ℕ) (slabs : ℕ) : Type 0 where
  pub rise : (i : ℕ) → i < slabs → get_or at i 0 < get_or at (i + 1) 0
  pub top : (i : ℕ) → i ≤ slabs → get_or at i 0 ≤ 30000

pub record LinesFit (l : Lines) : Type 0 where
  pub slabs_few : l.slabs < 96
  pub along_few : l.along ≤ 96
  pub step_few : l.step ≤ 96
  pub count_few : l.count ≤ 96
  pub lines : (i : ℕ) → i ≤ l.slabs → Inside (i * l.along) l.step l.count

-- the slab that comes kth on the way, and the places where its two lines begin
abbrev pub slab_at : Lines → Bool → ℕ → ℕ
slab_at l back k = cond back (l.slabs - 1 - k) k

abbrev pub low_at : Lines → ℕ → ℕ
low_at l i = i * l.along

abbrev pub from : Lines → Bool → ℕ → ℕ
from l back i = cond back (low_at l i + l.along) (low_at l i)

abbrev pub to : Lines → Bool → ℕ → ℕ
to l back i = cond back (low_at l i) (low_at l i + l.along)

abbrev pub Slabbed : List ℕ → List ℕ → List ℕ → List ℕ → Lines → Bool → ℕ → Bool → Type 0
Slabbed d e shut at l back k changed =
    let i = slab_at l back k in
    Lowered d e shut (from l back i) (to l back i) (low_at l i) l.step l.count (width_of at i) changed

module _ (shut at : List ℕ) (l : Lines) (back : Bool) where
  -- a change across some slab
  pub record Across (d e : List ℕ) : Type 0 where
    pub i : ℕ
    pub slab : i < l.slabs
    pub change : Change shut (from l back i) (to l back i) (low_at l i) l.step l.count (width_of at i) d e

  -- no number can be lowered across the slab
  unfoldable pub Still : List ℕ → ℕ → Type 0
  Still d i = Done shut (from l back i) (to l back i) (low_at l i) l.step l.count (width_of at i) d l.count

pub record Swept (d e shut at : List ℕ) (l : Lines) (back : Bool) (changed : Bool) : Type 0 where
  pub table : Table e
  pub chain : Chain (Across shut at l back) d e
  pub kept : changed ≡ false → (e ≡ d) × ((i : ℕ) → i < l.slabs → Still shut at l back e i)
  pub fell : changed ≡ true → total e < total d
