-- A direction is an axis and a sense, up or down. So what holds on both axes, or in all four directions, is said once.
-- Assumes nothing.
use Rattle.std.specs.Prelude.{ℕ, suc, pred, ◌+◌, ◌≤◌, ◌<◌, ◌≡◌, refl}
use Rattle.std.proofs.Common.{arith}
use Rattle.paper.specs.Grid.{Node, Dir, E, N, W, S, step, Axis, level, upright, Grid, Edge, Free}
use Rattle.paper.specs.Layout.{across}
use Rattle.paper.specs.Laws.Steps.{axis_of, back, west, south}

-- ---- axes

abbrev pub at : ℕ → ℕ → Node
at x y = record { x = x; y = y }

abbrev pub coord : Axis → Node → ℕ
coord level p = p.x
coord upright p = p.y

-- the node at u along the axis and v across it
abbrev pub place : Axis → ℕ → ℕ → Node
place level u v = at u v
place upright u v = at v u

-- how far the board reaches
abbrev pub side : Axis → Grid → ℕ
side level G = G.wide
side upright G = G.high

pub across_twice : (a : Axis) → across (across a) ≡ a
across_twice level = refl
across_twice upright = refl

pub place_of : (a : Axis) (p : Node) → place a (coord a p) (coord (across a) p) ≡ p
place_of level p = refl
place_of upright p = refl

pub coord_place : (a : Axis) (u v : ℕ) → (coord a (place a u v) ≡ u) × (coord (across a) (place a u v) ≡ v)
coord_place level u v = (refl, refl)
coord_place upright u v = (refl, refl)

pub same_node : (a : Axis) (p q : Node) → coord a p ≡ coord a q → coord (across a) p ≡ coord (across a) q → p ≡ q
same_node level p q h k = λ i. at (h i) (k i)
same_node upright p q h k = λ i. at (k i) (h i)

-- ---- senses

pub data Sense : Type 0 where
  up down : Sense

abbrev pub sense_of : Dir → Sense
sense_of E = up
sense_of N = up
sense_of W = down
sense_of S = down

abbrev pub next : Sense → ℕ → ℕ
next up u = suc u
next down u = pred u

-- v stands n further than u in the sense
abbrev pub Further : Sense → ℕ → ℕ → ℕ → Type 0
Further up n u v = u + n ≡ v
Further down n u v = v + n ≡ u

-- the lower of u and v, where v stands further in the sense
abbrev pub lower : Sense → ℕ → ℕ → ℕ
lower up u v = u
lower down u v = v

-- ---- a unit step

-- it moves along its axis and not across,
pub moves : (d : Dir) (p : Node) → coord (axis_of d) (step d p) ≡ next (sense_of d) (coord (axis_of d) p)
unfolding step
moves E p = refl
moves N p = refl
moves W p = refl
moves S p = refl

pub keeps : (d : Dir) (p : Node) → coord (across (axis_of d)) (step d p) ≡ coord (across (axis_of d)) p
unfolding step
keeps E p = refl
keeps N p = refl
keeps W p = refl
keeps S p = refl

-- so it leads to the node that is one further
pub lands : (d : Dir) (u u' v : ℕ) → Further (sense_of d) 1 u u' → step d (place (axis_of d) u v) ≡ place (axis_of d) u' v
unfolding step
lands E u u' v h = let e : suc u ≡ u' = omega arith in λ i. at (e i) v
lands N u u' v h = let e : suc u ≡ u' = omega arith in λ i. at v (e i)
lands W u u' v h = let e : pred u ≡ u' = omega arith in λ i. at (e i) v
lands S u u' v h = let e : pred u ≡ u' = omega arith in λ i. at v (e i)

pub there_and_back : (d : Dir) (p : Node) → Further (sense_of d) 1 (coord (axis_of d) p) (coord (axis_of d) (step d p)) → step (back d) (step d p) ≡ p
unfolding step
there_and_back E p h = let e : pred (suc p.x) ≡ p.x = omega arith in λ i. at (e i) p.y
there_and_back N p h = let e : pred (suc p.y) ≡ p.y = omega arith in λ i. at p.x (e i)
there_and_back W p h = let e : suc (pred p.x) ≡ p.x = omega arith in λ i. at (e i) p.y
there_and_back S p h = let e : suc (pred p.y) ≡ p.y = omega arith in λ i. at p.x (e i)

-- the unit edge of the board from u to u + 1 along the axis, at v across it
abbrev pub EdgeAt : Grid → Axis → ℕ → ℕ → Type 0
EdgeAt G a u v = (u < side a G) × (v ≤ side (across a) G) × G.Open a (place a u v)

-- a free step from u to u' along the axis, at v across it
pub record Hop (G : Grid) (a : Axis) (s : Sense) (u u' v : ℕ) : Type 0 where
  pub one : Further s 1 u u'
  pub edge : EdgeAt G a (lower s u u') v

-- what is free in a direction is such a step, and the other way round
pub hop : (G : Grid) (d : Dir) (p : Node) → Free G p d
    → Hop G (axis_of d) (sense_of d) (coord (axis_of d) p) (coord (axis_of d) (step d p)) (coord (across (axis_of d)) p)
unfolding Free Edge step
hop G E p f = record { one = omega arith; edge = f }
hop G N p f = record { one = omega arith; edge = (f.1, f.0, f.2) }
hop G W p f = record { one = omega (arith, west p f.0); edge = f.1 }
hop G S p f = record { one = omega (arith, south p f.0); edge = (f.1.1, f.1.0, f.1.2) }

pub free : (G : Grid) (d : Dir) (u u' v : ℕ) → Hop G (axis_of d) (sense_of d) u u' v → Free G (place (axis_of d) u v) d
unfolding Free Edge step
free G E u u' v h = h.edge
free G N u u' v h = (h.edge.1, h.edge.0, h.edge.2)
free G W u u' v h = let e : pred u ≡ u' = omega arith in (omega arith, rw e h.edge)
free G S u u' v h = let e : pred u ≡ u' = omega arith in (omega arith, rw e (h.edge.1, h.edge.0, h.edge.2))
