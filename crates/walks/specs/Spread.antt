-- From the crossings to the whole grid: a potential on the crossings, of steps and of turns, gives one on every node.
-- Assumes nothing.
use Prim.Native.Nat.{ℕ, ◌+◌, ◌-◌, ◌≤◌}
use Rattle.paper.specs.Grid.{Node, Dir, step, Axis, Grid, Free}
use Rattle.paper.specs.Laws.Steps.{axis_of}
use Rattle.walks.specs.Tracks.{Tracks}
use Rattle.walks.specs.Crossings.{Crossing, crossings, far}
use Rattle.walks.specs.Turns.{Came, fresh, by, fee}

-- L a c q k: from the crossing q, come along the axis a, it is at least k steps with c for turns
pub record OnCrossings (τ : ℕ) (G : Grid) (T : Axis → Tracks) (L : Axis → ℕ → Node → ℕ → Type 0) : Type 0 where
  pub along : (d : Dir) (q : Node) → Free (crossings T G) q d → (c k l : ℕ) → l + far T d q ≤ k → L (axis_of d) c q k → L (axis_of d) c (step d q) l
  pub turning : (a b : Axis) (c c' : ℕ) (q : Node) (k : ℕ) → Crossing T q → c' ≤ c - fee τ a b → L a c q k → L b c' q k

-- of the axes: the one that a wire has come along, or both where it begins
unfoldable pub On : Came → (Axis → Type 0) → Type 0
On fresh P = (a : Axis) → P a
On (by a) P = P a

pub on_map : (m : Came) (P Q : Axis → Type 0) → ((a : Axis) → P a → Q a) → On m P → On m Q
unfolding On
on_map fresh P Q f h = λ a. f a (h a)
on_map (by a) P Q f h = f a h
