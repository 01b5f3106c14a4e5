-- The length of a legal wire is |sx-tx| + |sy-ty|, and two for each step that goes away from t.
-- Assumes nothing.
use Rattle.std.specs.Prelude.{ℕ, suc, ◌+◌, ◌*◌, ◌≡◌, cond, ◌⊎◌, List, [], ◌∷◌, length}
use Rattle.std.proofs.Common.{arith, ap, subst, inl, inr, ⊎_elim, lt-ltb, le-ltb}
use Rattle.std.proofs.Math.Decide.{dec_le}
use Rattle.paper.specs.Grid.{Grid, Node, Dir, E, N, W, S, step, Free}
use Rattle.paper.specs.Wire.{Legal, gap, manhattan, detour}
use Rattle.paper.specs.Laws.Steps.{west, south}

-- one more, or one less
abbrev Beside : ℕ → ℕ → Type 0
Beside a b = (b ≡ suc a) ⊎ (a ≡ suc b)

gap_up : (a t : ℕ) → Beside (gap a t) (gap (suc a) t)
unfolding gap
gap_up a t = elim (dec_le t a) [ yes h ↦ inl (omega arith) | no h ↦ inr (omega arith) ]

-- b is a less one
gap_down : (a b t : ℕ) → suc b ≡ a → Beside (gap a t) (gap b t)
gap_down a b t e = ⊎_elim inr inl (subst (λ c. Beside (gap b t) (gap c t)) e (gap_up b t))

on_x : (a b c : ℕ) → Beside a b → Beside (a + c) (b + c)
on_x a b c h = ⊎_elim (λ e. inl (omega arith)) (λ e. inr (omega arith)) h

on_y : (a b c : ℕ) → Beside a b → Beside (c + a) (c + b)
on_y a b c h = ⊎_elim (λ e. inl (omega arith)) (λ e. inr (omega arith)) h

step_beside : (G : Grid) (p t : Node) (d : Dir) → Free G p d → Beside (manhattan p t) (manhattan (step d p) t)
unfolding manhattan step Free
step_beside G p t E f = on_x _ _ (gap p.y t.y) (gap_up p.x t.x)
step_beside G p t N f = on_y _ _ (gap p.x t.x) (gap_up p.y t.y)
step_beside G p t W f = on_x _ _ (gap p.y t.y) (gap_down p.x (step W p).x t.x (west p f.0))
step_beside G p t S f = on_y _ _ (gap p.x t.x) (gap_down p.y (step S p).y t.y (south p f.0))

at_t : (t : Node) → 0 ≡ manhattan t t + 2 * 0
unfolding manhattan gap
at_t t = omega arith

pub length_detour : (G : Grid) (s t : Node) (w : List Dir) → Legal G s t w → length w ≡ manhattan s t + 2 * detour t s w
unfolding Legal detour
length_detour G s t [] l = rw l (at_t t)
length_detour G s t (d ∷ w) l =
    let rest = length_detour G (step d s) t w l.1 in
    ⊎_elim
    (λ e. omega (arith, ap {B = ℕ} (λ b. cond b 1 0) (lt-ltb (manhattan s t) (manhattan (step d s) t) (omega arith))))
    (λ e. omega (arith, ap {B = ℕ} (λ b. cond b 1 0) (le-ltb (manhattan s t) (manhattan (step d s) t) (omega arith))))
    (step_beside G s t d l.0)
