-- The cells round a node, looked at one after another.
-- Assumes nothing.
use Rattle.std.specs.Prelude.{ℕ, ◌+◌, ◌≤◌, min, ◌≡◌, ◌⊎◌, Option, Some, None}
use native.Mathlib.Omega.{arith}
use Rattle.std.proofs.Math.Decide.{dec_lt, dec_le}
use Rattle.std.proofs.Math.Path.{refl, ap, subst}
use Rattle.std.proofs.Common.{sym}
use Rattle.std.proofs.Math.Logic.{inl, inr, ⊎_elim}
use Rattle.paper.specs.Grid.{Any, All}
use Rattle.blocks.specs.declared.Blocks.{Blocks}
use Rattle.blocks.specs.declared.Place.{Place}
use Rattle.blocks.specs.declared.Look.TheVariants.{KeepOuts}
use Rattle.blocks.specs.Flat.{Stops, FirstIs}
use Rattle.seams.specs.Seaming.{cell_at, HoldsOne, Sunk, RoundIs}

one_of : (a b : ℕ) → (min a b ≡ a) ⊎ (min a b ≡ b)
one_of a b = elim (dec_le a b) [ yes h ↦ inl (omega arith) | no h ↦ inr (omega arith) ]

-- where a scan found nothing
pub found_none : (b : Blocks) (q : Place) → FirstIs b KeepOuts q None → ¬ ((i : ℕ) × Stops b KeepOuts q i)
unfolding FirstIs
found_none b q f h = f h.0 h.1

module _ (b : Blocks) (x y : ℕ) where
  pub not_sunk : ¬ (Sunk b x y) → RoundIs b x y None
  unfolding RoundIs
  not_sunk n = n

  abbrev Stop : Place → ℕ → Type 0
  Stop q i = FirstIs b KeepOuts q (Some i)

  pub round_at : (i j k l n : ℕ) → 1 ≤ x → 1 ≤ y
      → Stop (cell_at x y) i → Stop (cell_at (x + 1) y) j → Stop (cell_at x (y + 1)) k → Stop (cell_at (x + 1) (y + 1)) l
      → n ≡ min (min i j) (min k l) → RoundIs b x y (Some n)
  unfolding RoundIs FirstIs Any All
  round_at i j k l n hx hy p q r s e = (
    (hx, hy, ((i, p.0), ((j, q.0), ((k, r.0), ((l, s.0), tt))))),
    subst (HoldsOne b x y) (sym e)
        (⊎_elim
        (λ m. subst (HoldsOne b x y) (sym m) (⊎_elim (λ z. inl (subst (Stops b KeepOuts _) (sym z) p.0)) (λ z. inr (inl (subst (Stops b KeepOuts _) (sym z) q.0))) (one_of i j)))
        (λ m. subst (HoldsOne b x y) (sym m) (⊎_elim (λ z. inr (inr (inl (subst (Stops b KeepOuts _) (sym z) r.0)))) (λ z. inr (inr (inr (inl (subst (Stops b KeepOuts _) (sym z) s.0))))) (one_of k l)))
        (one_of (min i j) (min k l))),
    λ m h. ⊎_elim (p.1 m (omega arith)) (⊎_elim (q.1 m (omega arith)) (⊎_elim (r.1 m (omega arith)) (⊎_elim (s.1 m (omega arith)) (λ z. z)))),
  )

  -- one answer
  pub one_round : (r q : Option ℕ) → RoundIs b x y r → RoundIs b x y q → r ≡ q
  unfolding RoundIs
  one_round (Some i) (Some j) f g =
      elim (dec_lt i j) [
        | yes h ↦ absurd (g.2 i h f.1)
        | no h ↦ elim (dec_lt j i) [ yes k ↦ absurd (f.2 j k g.1) | no k ↦ (let e : i ≡ j = omega arith in ap Some e) ]
      ]
  one_round (Some i) None f g = absurd (g f.0)
  one_round None (Some j) f g = absurd (f g.0)
  one_round None None f g = refl
