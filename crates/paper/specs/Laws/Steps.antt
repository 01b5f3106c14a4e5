-- Unit steps: where they lead, and that a shortest word never turns back.
-- Assumes nothing.
use Rattle.std.specs.Prelude.{suc, pred, ◌≤◌, ◌<◌, ◌≡◌, refl, true, false, ◌⊎◌, List, [], ◌∷◌, length, eqb}
use Rattle.std.proofs.Common.{arith, ap, subst, ◌∙◌, inl, inr}
use Rattle.paper.specs.Grid.{Node, Dir, E, N, W, S, rank, step, Axis, level, upright, Grid, Edge, Free}
use Rattle.paper.specs.Wire.{Legal}
use Rattle.paper.specs.Layout.{across}

abbrev pub axis_of : Dir → Axis
axis_of E = level
axis_of N = upright
axis_of W = level
axis_of S = upright

abbrev pub back : Dir → Dir
back E = W
back N = S
back W = E
back S = N

-- of two steps, one after the other: straight on, a turn, or back
pub onward : (d e : Dir)
    → ((d ≡ e) × (eqb (rank d) (rank e) ≡ true)) ⊎ ((axis_of e ≡ across (axis_of d)) × (eqb (rank d) (rank e) ≡ false)) ⊎ (e ≡ back d)
onward E E = inl (refl, refl)
onward E N = inr (inl (refl, refl))
onward E W = inr (inr refl)
onward E S = inr (inl (refl, refl))
onward N E = inr (inl (refl, refl))
onward N N = inl (refl, refl)
onward N W = inr (inl (refl, refl))
onward N S = inr (inr refl)
onward W E = inr (inr refl)
onward W N = inr (inl (refl, refl))
onward W W = inl (refl, refl)
onward W S = inr (inl (refl, refl))
onward S E = inr (inl (refl, refl))
onward S N = inr (inr refl)
onward S W = inr (inl (refl, refl))
onward S S = inl (refl, refl)

-- what `omega` does not read off a step
pub west : (p : Node) → 0 < p.x → suc (step W p).x ≡ p.x
unfolding step
west p h = let e : suc (pred p.x) ≡ p.x = omega arith in e

pub south : (p : Node) → 0 < p.y → suc (step S p).y ≡ p.y
unfolding step
south p h = let e : suc (pred p.y) ≡ p.y = omega arith in e

-- ---- a free step lies on the board

abbrev pub Inside : Grid → Node → Type 0
Inside G p = (p.x ≤ G.wide) × (p.y ≤ G.high)

pub free_inside : (G : Grid) (p : Node) (d : Dir) → Free G p d → Inside G p × Inside G (step d p)
unfolding Free Edge step
free_inside G p E f = omega arith
free_inside G p N f = omega arith
free_inside G p W f = omega (arith, west p f.0, f.1.0, f.1.1)
free_inside G p S f = omega (arith, south p f.0, f.1.0, f.1.1)

-- ---- a shortest word never turns back

abbrev pub Shortest : Grid → Node → Node → List Dir → Type 0
Shortest G s t w = (v : List Dir) → Legal G s t v → length w ≤ length v

-- legal and as short as any
abbrev pub Least : Grid → Node → Node → List Dir → Type 0
Least G s t w = Legal G s t w × Shortest G s t w

-- the word, after a step in the direction, never turns back
unfoldable pub Forward : Dir → List Dir → Type 0
Forward d [] = Unit {0}
Forward d (e ∷ w) = (¬ (e ≡ back d)) × Forward e w

there_and_back : (G : Grid) (p : Node) (d : Dir) → Free G p d → step (back d) (step d p) ≡ p
unfolding Free step
there_and_back G p E f = let e : pred (suc p.x) ≡ p.x = omega arith in λ i. record { x = e i; y = p.y }
there_and_back G p N f = let e : pred (suc p.y) ≡ p.y = omega arith in λ i. record { x = p.x; y = e i }
there_and_back G p W f = let e : suc (pred p.x) ≡ p.x = omega (arith, f.0) in λ i. record { x = e i; y = p.y }
there_and_back G p S f = let e : suc (pred p.y) ≡ p.y = omega (arith, f.0) in λ i. record { x = p.x; y = e i }

pub forward : (G : Grid) (s t : Node) (d : Dir) (w : List Dir) → Legal G s t (d ∷ w) → Shortest G s t (d ∷ w) → Forward d w
unfolding Legal Forward
forward G s t d [] l h = tt
forward G s t d (e ∷ w) l h = (
  λ b. let r : Legal G s t w
      = subst (λ p. Legal G p t w) (ap (λ k. step k (step d s)) b ∙ there_and_back G s d l.0) l.1.1 in
      omega (arith, h w r),
  forward G (step d s) t e w l.1 (λ v k. omega (arith, h (d ∷ v) (l.0, k))),
)
