-- A wire told by its corners is walked: the word of unit steps that has just these corners, and how long it is.
-- Assumes nothing.
use Prim.Native.Nat.{ℕ, suc, ◌+◌, ◌≤◌}
use native.Mathlib.Omega.{arith}
use Rattle.std.specs.Prelude.{◌≡◌, length}
use Rattle.std.proofs.Math.Path.{refl, subst}
use Rattle.std.proofs.Math.Logic.{⊎_elim}
use mathlib.Core.List.{List, [], ◌∷◌}
use Rattle.paper.specs.Grid.{Node, Dir, E, N, W, S, step, Axis, Grid, Free, Area, Meets, Block, Hits, All, Blocked, node, grid_with}
use Rattle.paper.specs.Wire.{Legal, turns, corners, between, runs, manhattan, gap}
use Rattle.paper.specs.Layout.{last_of}
use Rattle.paper.specs.Drawn.{long_of}
use Rattle.paper.specs.Laws.Lists.{any_imp}
use Rattle.paper.specs.Laws.Steps.{axis_of, west, south}
use Rattle.paper.specs.Laws.Traced.{Straight, straight_first, on_or_not, turns_on, turns_at}

-- ---- a part of a place that is not blocked is not blocked

unfoldable pub Within : Area → Area → Type 0
Within r a = ((a.low.x ≤ r.low.x) × (r.high.x ≤ a.high.x)) × ((a.low.y ≤ r.low.y) × (r.high.y ≤ a.high.y))

hits_within : (b : Block) (r a : Area) → Within r a → Hits b r → Hits b a
unfolding Within Hits Meets
hits_within b r a w h = omega (arith, w, h)

pub clear_within : (bs : List Block) (r a : Area) → Within r a → ¬ (Blocked bs a) → ¬ (Blocked bs r)
unfolding Blocked
clear_within bs r a w n h = n (any_imp (λ b. Hits b r) (λ b. Hits b a) (λ b k. hits_within b r a w k) bs h)

-- ---- a straight run that is not blocked is walked

module _ (w h : ℕ) (bs : List Block) where
  abbrev G : Grid
  G = grid_with w h bs

  -- ---- the word of a wire with these corners

  pub record Word (a : Axis) (p : Node) (ps : List Node) : Type 0 where
    pub first : Dir
    pub rest : List Dir
    pub axis : axis_of first ≡ a
    pub legal : Legal G p (last_of p ps) (first ∷ rest)
    pub corners_are : corners p (first ∷ rest) ≡ p ∷ ps
    pub long : length (first ∷ rest) ≡ long_of (p ∷ ps)

-- ---- its ends are not blocked

pub clear_ends : (bs : List Block) (p q : Node) (ps : List Node) → All (λ r. ¬ (Blocked bs r)) (runs (p ∷ q ∷ ps))
    → (¬ (Blocked bs (node p))) × (¬ (Blocked bs (node (last_of q ps))))
unfolding All runs last_of Within
clear_ends bs p q [] c = (clear_within bs (node p) (between p q) (omega arith) c.0, clear_within bs (node q) (between p q) (omega arith) c.0)
clear_ends bs p q (r ∷ ps) c = (clear_within bs (node p) (between p q) (omega arith) c.0, (clear_ends bs q r ps c.1).1)

-- ---- and back: the corners of a walk are as far apart as it is long

module _ (G : Grid) where
  farther : (d : Dir) (q p : Node) → Straight d q p → Free G p d → (manhattan q (step d p) ≡ suc (manhattan q p)) × Straight d q (step d p)
  unfolding Straight manhattan gap step Free
  farther E q p s f = omega arith
  farther N q p s f = omega arith
  farther W q p s f = omega (arith, west p f.0)
  farther S q p s f = omega (arith, south p f.0)

  one_step : (d : Dir) (p : Node) → Free G p d → manhattan p (step d p) ≡ 1
  unfolding manhattan gap step Free
  one_step E p f = omega arith
  one_step N p f = omega arith
  one_step W p f = omega (arith, west p f.0)
  one_step S p f = omega (arith, south p f.0)

  long_turns : (t : Node) (d : Dir) (q p : Node) (v : List Dir) → Straight d q p → Legal G p t v → long_of (q ∷ turns d p v) ≡ manhattan q p + length v
  unfolding Legal long_of
  long_turns t d q p [] s l = unfold turns in omega arith
  long_turns t d q p (e ∷ v) s l =
      ⊎_elim
      (λ k. let f = farther e q p (subst (λ c. Straight c q p) k.0 s) l.0 in
      rw (turns_on d e p v k.1) (omega (arith, long_turns t e q (step e p) v f.1 l.1, f.0)))
      (λ k. rw (turns_at d e p v k) (omega (arith, long_turns t e p (step e p) v (straight_first G e p l.0) l.1, one_step e p l.0)))
      (on_or_not d e)

  pub long_corners : (s t : Node) (v : List Dir) → Legal G s t v → long_of (corners s v) ≡ length v
  unfolding Legal long_of corners
  long_corners s t [] l = refl
  long_corners s t (d ∷ v) l = omega (arith, long_turns t d s (step d s) v (straight_first G d s l.0) l.1, one_step d s l.0)

  pub last_turns : (t : Node) (d : Dir) (q p : Node) (v : List Dir) → Legal G p t v → last_of q (turns d p v) ≡ t
  unfolding Legal last_of
  last_turns t d q p [] l = unfold turns in l
  last_turns t d q p (e ∷ v) l =
      ⊎_elim (λ k. rw (turns_on d e p v k.1) (last_turns t e q (step e p) v l.1)) (λ k. rw (turns_at d e p v k) (last_turns t e p (step e p) v l.1))
      (on_or_not d e)
