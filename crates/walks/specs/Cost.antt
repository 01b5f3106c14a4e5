-- A potential, of steps and turns, bounds the cost of every wire; and a wire before whose every step the earlier directions cost more is the
-- best.
-- Assumes nothing.
use Prim.Native.Nat.{ℕ, zero, suc, ◌+◌, ◌-◌, ◌≤◌, ◌<◌}
use native.Mathlib.Omega.{arith}
use Rattle.std.specs.Prelude.{◌≡◌, length}
use Rattle.std.proofs.Math.Path.{subst}
use mathlib.Core.List.{List, [], ◌∷◌}
use Rattle.paper.specs.Grid.{Node, Dir, rank, step, Grid, Free}
use Rattle.paper.specs.Wire.{Legal}
use Rattle.paper.specs.Laws.Steps.{axis_of}
use Rattle.walks.specs.Turns.{Came, by, bend, bends}

-- k steps with c for turns is at most k' steps with c' for turns
abbrev pub Upto : (k c k' c' : ℕ) → Type 0
Upto k c k' c' = (k ≤ k') × (k ≡ k' → c ≤ c')

module _ (τ : ℕ) (G : Grid) (t : Node) where
  -- every legal wire from p, where it has come so, costs at least so much
  abbrev pub AtLeast : Came → Node → ℕ → ℕ → Type 0
  AtLeast m p k c = (v : List Dir) → Legal G p t v → Upto k c (length v) (bends τ m v)

  -- each that begins by e costs more than that,
  abbrev pub Dearer : Came → Node → Dir → ℕ → ℕ → Type 0
  Dearer m p e k c = (v : List Dir) → Legal G p t (e ∷ v) → Upto k (suc c) (suc (length v)) (bend τ m (axis_of e) + bends τ (by (axis_of e)) v)

  -- and more than less
  pub dearer_than : (m : Came) (p : Node) (e : Dir) (k k' c c' : ℕ) → k' ≡ k → c' ≤ c → Dearer m p e k c → Dearer m p e k' c'
  dearer_than m p e k k' c c' h h' dear v l = let o = dear v l in (omega (arith, o.0), λ q. omega (arith, o.1 (omega arith)))

  -- ---- from below: Φ m c p k says that from p, come so, it is at least k steps with c for turns

  pub record Potential (Φ : Came → ℕ → Node → ℕ → Type 0) : Type 0 where
    pub target : (m : Came) (c k : ℕ) → Φ m c t k → (k ≡ 0) × (c ≡ 0)
    pub along : (m : Came) (c : ℕ) (p : Node) (k : ℕ) (d : Dir) → Free G p d → Φ m c p (suc k)
        → Φ (by (axis_of d)) (c - bend τ m (axis_of d)) (step d p) k

  pub bound : (Φ : Came → ℕ → Node → ℕ → Type 0) → Potential Φ → (m : Came) (c : ℕ) (p : Node) (k : ℕ) → Φ m c p k → AtLeast m p k c
  unfolding Legal bends
  bound Φ φ m c p k h [] l = omega (arith, φ.target m c k (subst (λ q. Φ m c q k) l h))
  bound Φ φ m c p zero h (e ∷ v) l = omega arith
  bound Φ φ m c p (suc k) h (e ∷ v) l =
      let r = bound Φ φ (by (axis_of e)) (c - bend τ m (axis_of e)) (step e p) k (φ.along m c p k e l.0 h) v l.1 in
      (omega (arith, r.0), λ q. omega (arith, r.1 (omega arith)))

  -- ---- from above: at each node of w an earlier direction costs more

  unfoldable pub Firm : Came → Node → List Dir → Type 0
  Firm m p [] = Unit {0}
  Firm m p (d ∷ w) =
      ((e : Dir) → rank e < rank d → Dearer m p e (suc (length w)) (bend τ m (axis_of d) + bends τ (by (axis_of d)) w))
      × Firm (by (axis_of d)) (step d p) w
