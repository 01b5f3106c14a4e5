-- An axis as its struct holds it, and the slab that comes kth on the way.
-- Assumes nothing.
use Rattle.std.specs.Prelude.{ℕ, ◌<◌, ◌≡◌, Bool, List}
use Rattle.distances.specs.declared.Lines.{Lines}
use Rattle.distances.specs.declared.axis.Axis as held
use Rattle.distances.specs.declared.axis.Slab.{Slab}
use Rattle.distances.specs.Lower.{Change, Lowered}
use Rattle.distances.specs.Sweep.{width_of, slab_at, low_at, from, to, Slabbed, Across}
use Rattle.distances.specs.Settle.{Side, side}

abbrev pub side_of : held.Axis → Side
side_of a = side a.shut.now a.at.now a.lines

-- s is the slab that comes kth
pub record IsSlab (at : List ℕ) (l : Lines) (back : Bool) (k : ℕ) (s : Slab) : Type 0 where
  pub from_is : s.from ≡ from l back (slab_at l back k)
  pub to_is : s.to ≡ to l back (slab_at l back k)
  pub edge_is : s.edge ≡ low_at l (slab_at l back k)
  pub step_is : s.step ≡ l.step
  pub count_is : s.count ≡ l.count
  pub width_is : s.width ≡ width_of at (slab_at l back k)

-- what is lowered across it is lowered across the slab that comes kth
pub slabbed : (d e shut at : List ℕ) (l : Lines) (back : Bool) (k : ℕ) (s : Slab) (changed : Bool) → IsSlab at l back k s
    → Lowered d e shut s.from s.to s.edge s.step s.count s.width changed → Slabbed d e shut at l back k changed
slabbed d e shut at l back k s changed i h = rw (i.from_is, i.to_is, i.edge_is, i.step_is, i.count_is, i.width_is) at h

-- and so is each number
pub across : (d e shut at : List ℕ) (l : Lines) (back : Bool) (k : ℕ) (s : Slab) → IsSlab at l back k s → slab_at l back k < l.slabs
    → Change shut s.from s.to s.edge s.step s.count s.width d e → Across shut at l back d e
across d e shut at l back k s i h c = record {
  i = slab_at l back k;
  slab = h;
  change = rw (i.from_is, i.to_is, i.edge_is, i.step_is, i.count_is, i.width_is) at c;
}
