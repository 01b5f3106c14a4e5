-- A run from a crossing to the next, step by step: if at its start every earlier direction costs more, it does so at each of its nodes.
-- Assumes nothing.
use Prim.Native.Nat.{ℕ, zero, suc, ◌+◌, ◌<◌}
use Rattle.std.proofs.Common.{arith}
use Rattle.std.specs.Prelude.{◌≡◌, refl, List, ◌++◌, replicate}
use Rattle.paper.specs.Grid.{Node, Dir, step, Axis, Grid, Free}
use Rattle.paper.specs.Laws.Steps.{axis_of}
use Rattle.walks.specs.Tracks.{Tracks}
use Rattle.walks.specs.Turns.{Came, by, fee_none, bend, bends}
use Rattle.walks.specs.Aside.{Inner}

-- ---- a run costs no turn but the one onto it

pub bends_on : (τ : ℕ) (d : Dir) (k : ℕ) (rest : List Dir) → bends τ (by (axis_of d)) (replicate k d ++ rest) ≡ bends τ (by (axis_of d)) rest
unfolding bends
bends_on τ d zero rest = refl
bends_on τ d (suc k) rest = omega (arith, bends_on τ d k rest, fee_none τ (axis_of d))

pub bends_run : (τ : ℕ) (m : Came) (d : Dir) (k : ℕ) (rest : List Dir) → 0 < k
    → bends τ m (replicate k d ++ rest) ≡ bend τ m (axis_of d) + bends τ (by (axis_of d)) rest
unfolding bends
bends_run τ m d zero rest h = absurd (omega arith)
bends_run τ m d (suc k) rest h = omega (arith, bends_on τ d k rest)

-- ---- a way as a lane

-- so many free steps in the direction lead from p to q, and each but the last ends strictly inside a slab
pub data Lane (G : Grid) (T : Axis → Tracks) (d : Dir) (q : Node) : ℕ → Node → Type 0 where
  last : {p : Node} → Free G p d → step d p ≡ q → Lane G T d q 1 p
  more : {p : Node} {k : ℕ} → Free G p d → Inner T d p → Lane G T d q k (step d p) → Lane G T d q (suc k) p
