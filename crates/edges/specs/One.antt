-- The contract of `edges` decides every mark.
-- Assumes nothing.
use Rattle.std.specs.Prelude.{ℕ, ◌+◌, ◌*◌, ◌/◌, ◌%◌, ◌<◌, ◌≡◌, List, get_or}
use Rattle.std.proofs.Common.{arith, div-add-mod', mod-lt, sym, ◌∙◌, inl, inr, ⊎_elim, ext_get_or}
use Rattle.std.proofs.Math.Decide.{dec_lt}
use Rattle.paper.specs.Grid.{Axis, Block}
use Rattle.edges.specs.Marks.{cell, Marked}

module _ (a : Axis) (xs : List ℕ) (nx : ℕ) (ys : List ℕ) (ny : ℕ) (b : ℕ → Block) (n : ℕ) (d e : List ℕ)
    (p : Marked a d xs nx ys ny b n) (q : Marked a e xs nx ys ny b n) where
  equal_at : (i j : ℕ) → i < 96 → j < 96 → get_or d (cell i j) 0 ≡ get_or e (cell i j) 0
  equal_at i j hi hj =
      elim (dec_lt i nx) [
        | no h ↦ p.rest i j hi hj (inl (omega arith)) ∙ sym (q.rest i j hi hj (inl (omega arith)))
        | yes h ↦ elim (dec_lt j ny) [
          | no k ↦ p.rest i j hi hj (inr (omega arith)) ∙ sym (q.rest i j hi hj (inr (omega arith)))
          | yes k ↦
              ⊎_elim
              (λ u. ⊎_elim (λ v. u.1 ∙ sym v.1) (λ v. absurd (v.0 u.0)) (q.each i j h k))
              (λ u. ⊎_elim (λ v. absurd (u.0 v.0)) (λ v. u.1 ∙ sym v.1) (q.each i j h k))
              (p.each i j h k)
        ]
      ]

  -- every place is that of a crossing
  equal : (c : ℕ) → c < 9216 → get_or d c 0 ≡ get_or e c 0
  equal c h =
      let s : c / 96 * 96 + c % 96 ≡ c = div-add-mod' c 96 in
      let r : c % 96 < 96 = mod-lt c (omega arith) in
      let k : cell (c % 96) (c / 96) ≡ c = omega arith in
      rw k at (equal_at (c % 96) (c / 96) r (omega arith))

  pub one_marked : d ≡ e
  one_marked = ext_get_or 0 d e (p.long ∙ sym q.long) (λ c h. equal c (omega (arith, p.long)))
