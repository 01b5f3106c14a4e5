-- The corners of an answered wire are those of a wire that may lie: runs along the axes, each across the one before, on the board,
-- and blocked nowhere.
-- Assumes nothing.
use Rattle.std.specs.Prelude.{◌+◌, ◌≤◌, ◌<◌, ◌≡◌, refl, Bool, true, false, ◌⊎◌, length, eqb}
use native.Mathlib.Omega.{arith}
use Rattle.std.proofs.Common.{ap, inl, inr}
use Rattle.std.proofs.Math.Logic.{⊎_elim}
use mathlib.Core.List.{List, ◌∷◌}
use Rattle.paper.specs.Grid.{Node, Dir, E, N, W, S, rank, step, Axis, level, upright, Grid, Free, Area, Span, Block, All, Blocked}
use Rattle.paper.specs.Wire.{turns, runs}
use Rattle.paper.specs.Layout.{Turning, last_of}
use Rattle.paper.specs.Laws.Steps.{back, onward, west, south, Inside}

-- ---- a run of two parts is blocked where one of its parts is

-- the interval has a point
unfoldable pub HasPoint : Span → Type 0
HasPoint s = s.lo < s.hi + s.c + s.c

unfoldable pub OpenBox : Block → Type 0
OpenBox b = HasPoint b.along_x × HasPoint b.along_y

-- ---- straight on

-- the run from q to p goes in the direction
unfoldable pub Straight : Dir → Node → Node → Type 0
Straight E q p = (q.y ≡ p.y) × (q.x < p.x)
Straight N q p = (q.x ≡ p.x) × (q.y < p.y)
Straight W q p = (q.y ≡ p.y) × (p.x < q.x)
Straight S q p = (q.x ≡ p.x) × (p.y < q.y)

pub straight_first : (G : Grid) (d : Dir) (p : Node) → Free G p d → Straight d p (step d p)
unfolding Straight Free step
straight_first G E p f = omega arith
straight_first G N p f = omega arith
straight_first G W p f = omega (arith, west p f.0)
straight_first G S p f = omega (arith, south p f.0)

-- ---- the corners of a word

-- straight on there is no corner, at a turn there is one
pub turns_on : (d e : Dir) (p : Node) (v : List Dir) → eqb (rank d) (rank e) ≡ true → turns d p (e ∷ v) ≡ turns e (step e p) v
unfolding turns
turns_on d e p v h = ap (λ (b : Bool). elim b as (λ _. List Node) [ true ↦ turns e (step e p) v | false ↦ p ∷ turns e (step e p) v ]) h

pub turns_at : (d e : Dir) (p : Node) (v : List Dir) → eqb (rank d) (rank e) ≡ false → turns d p (e ∷ v) ≡ p ∷ turns e (step e p) v
unfolding turns
turns_at d e p v h = ap (λ (b : Bool). elim b as (λ _. List Node) [ true ↦ turns e (step e p) v | false ↦ p ∷ turns e (step e p) v ]) h

-- of a walk that goes on from q to t, the corners after q: whichever way it turns, or turns back
pub record Passed (G : Grid) (bs : List Block) (t q : Node) (ps : List Node) : Type 0 where
  pub clear : All (λ r. ¬ (Blocked bs r)) (runs (q ∷ ps))
  pub inside : All (Inside G) ps
  pub last : last_of q ps ≡ t
  pub some : 1 ≤ length ps

-- straight on, or not
pub on_or_not : (d e : Dir) → ((d ≡ e) × (eqb (rank d) (rank e) ≡ true)) ⊎ (eqb (rank d) (rank e) ≡ false)
on_or_not d e = ⊎_elim (λ k. inl k) (λ k. inr (⊎_elim (λ m. m.1) (λ m. rw m (turned_back d)) k)) (onward d e)
  where
    turned_back : (d : Dir) → eqb (rank d) (rank (back d)) ≡ false
    turned_back E = refl
    turned_back N = refl
    turned_back W = refl
    turned_back S = refl

-- ---- a shortest wire

pub either : (a : Axis) (rs : List Area) → Turning a rs → Turning level rs ⊎ Turning upright rs
either level rs h = inl h
either upright rs h = inr h
