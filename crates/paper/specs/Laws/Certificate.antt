-- A table of distances that passes a test, node by node, shows a wire to be the answered one, or that there is none.
-- Assumes nothing.
use Rattle.std.specs.Prelude.{ℕ, suc, ◌≤◌, ◌<◌, ◌≡◌, Bool, ◌&&◌, ◌||◌, ◌⊎◌, length, get_or, leb, ltb}
use Rattle.std.proofs.Math.Bool.{true, not}
use mathlib.Core.List.{List, [], ◌∷◌}
use Rattle.std.proofs.Math.Dec.{eqb}
use Rattle.paper.specs.Grid.{Node, Dir, E, N, W, S, rank, step, Grid, Free, Block, grid_with}
use Rattle.paper.specs.Laws.Says.{Says, says_as, says_and₄, belowb}
use Rattle.paper.specs.Laws.Tests.{freeb, legalb}

-- ---- the table

-- for each x, and then for each y, one more than the distance to t; 0 where t is not reached
abbrev pub Table : Type 0
Table = List (List ℕ)

unfoldable pub look : Table → Node → ℕ
look tab p = get_or (get_or tab p.x []) p.y 0

-- by the table, p is at least k steps away from t
unfoldable pub Far : Table → Node → ℕ → Type 0
Far tab p k = (look tab p ≡ 0) ⊎ (k < look tab p)

unfoldable pub farb : Table → Node → ℕ → Bool
unfolding look
farb tab p k = eqb (look tab p) 0 || ltb k (look tab p)

-- what a step may lead to, from where the table has a: nearer by one at the most
unfoldable pub Near : ℕ → ℕ → Type 0
Near a b = (b ≡ 0) ⊎ ((1 ≤ a) × (a ≤ suc b))

unfoldable pub nearb : ℕ → ℕ → Bool
nearb a b = eqb b 0 || (leb 1 a && leb a (suc b))

-- each direction
unfoldable pub dirsb : (Dir → Bool) → Bool
dirsb f = f E && f N && f W && f S

pub says_dirs : {f : Dir → Bool} {P : Dir → Type 0} → ((d : Dir) → Says (f d) (P d)) → Says (dirsb f) ((d : Dir) → P d)
unfolding dirsb
says_dirs each =
    says_as (λ h. elim [ E ↦ h.0 | N ↦ h.1 | W ↦ h.2 | S ↦ h.3 ]) (λ f. (f E, f N, f W, f S)) (says_and₄ (each E) (each N) (each W) (each S))

module _ (w h : ℕ) (bs : List Block) where
  abbrev grid : Grid
  grid = grid_with w h bs

  -- ---- a table that may be believed

  -- t has the distance 0, and no free step comes nearer by more than one
  pub record Certificate (tab : Table) (t : Node) : Type 0 where
    pub start : look tab t ≡ 1
    pub along : (x : ℕ) → x < suc w → (y : ℕ) → y < suc h → (d : Dir) → Free grid (record { x = x; y = y }) d
        → Near (look tab (record { x = x; y = y })) (look tab (step d (record { x = x; y = y })))

  unfoldable pub stepb : Table → Node → Dir → Bool
  unfolding freeb nearb look
  stepb tab p d = not (freeb w h bs p d) || nearb (look tab p) (look tab (step d p))

  unfoldable pub certificateb : Table → Node → Bool
  unfolding look belowb dirsb stepb
  certificateb tab t = eqb (look tab t) 1 && belowb (suc w) (λ x. belowb (suc h) (λ y. dirsb (stepb tab (record { x = x; y = y }))))

  -- ---- what it shows

  unfoldable pub greedyb : Table → Node → List Dir → Bool
  unfolding dirsb freeb farb
  greedyb tab p [] = true
  greedyb tab p (a ∷ v) =
      dirsb (λ e. not (ltb (rank e) (rank a)) || (not (freeb w h bs p e) || farb tab (step e p) (suc (length v)))) && greedyb tab (step a p) v

  -- the table may be believed, and has not reached s, or v is greedy by it and as short as can be
  unfoldable pub routeb : Table → Node → Node → List Dir → Bool
  unfolding certificateb legalb farb greedyb
  routeb tab s t v = certificateb tab t && (eqb (look tab s) 0 || legalb w h bs s t v && farb tab s (length v) && greedyb tab s v)
