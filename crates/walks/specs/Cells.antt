-- The cell of a node, between the tracks beside it, and the crossings that are its corners; and what a unit step changes of them.
-- Assumes nothing.
use Rattle.std.specs.Prelude.{ℕ, suc, ◌+◌, ◌≤◌, ◌<◌, ◌≡◌, refl}
use Rattle.std.proofs.Common.{arith}
use Rattle.paper.specs.Grid.{Node, Dir, step, Axis, level, upright, Grid, Free}
use Rattle.paper.specs.Layout.{across}
use Rattle.walks.specs.Axes.{coord, same_node}
use Rattle.walks.specs.Tracks.{Tracks}
use Rattle.walks.specs.Beside.{Beside, own, beside_last, alone}
use Rattle.walks.specs.Crossings.{Crossing, spot, crossings, far, Sliced}

-- ---- corners

-- the crossing q is a corner of p's cell, g away: m along the axis and n across it
pub record Corner (T : Axis → Tracks) (a : Axis) (p q : Node) (g : ℕ) : Type 0 where
  pub m : ℕ
  pub n : ℕ
  pub on : Beside (T a) (coord a p) (coord a q) m
  pub by : Beside (T (across a)) (coord (across a) p) (coord (across a) q) n
  pub sum : m + n ≡ g

pub corner_crossing : {T : Axis → Tracks} {p q : Node} {g : ℕ} → Corner T level p q g → Crossing T q
corner_crossing c = (beside_last c.on, beside_last c.by)

-- a crossing is a corner of its own cell, and the only one
pub corner_own : (T : Axis → Tracks) (q : Node) → Crossing T q → Corner T level (spot T q) q 0
corner_own T q i = record { m = 0; n = 0; on = own i.0 refl; by = own i.1 refl; sum = refl }

pub corner_only : {G : Grid} {T : Axis → Tracks} → Sliced G T → (q r : Node) (g : ℕ) → Crossing T q → Corner T level (spot T q) r g
    → (r ≡ q) × (g ≡ 0)
corner_only sliced q r g i c =
    let x = alone (sliced.rising level) q.x r.x c.m i.0 c.on in
    let y = alone (sliced.rising upright) q.y r.y c.n i.1 c.by in
    (same_node level r q x.0 y.0, omega (arith, c.sum))

-- ---- a unit step

-- Where a corner q, g away after a step in the direction d from p, comes from: it was a corner before the step too, nearer or at most a step
-- further; or an open way in that direction leads to it from one that was.
pub data From (G : Grid) (T : Axis → Tracks) (d : Dir) (p q : Node) (g : ℕ) : Type 0 where
  corner : {h : ℕ} → Corner T level p q h → h ≤ suc g → 0 < g + h → From G T d p q g
  way : {r : Node} {h : ℕ} → Corner T level p r h → Free (crossings T G) r d → step d r ≡ q → h + far T d r ≡ suc g → From G T d p q g
