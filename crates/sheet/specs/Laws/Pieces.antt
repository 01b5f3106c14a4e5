-- The part of the file from one place to the next is a record.
-- Assumes nothing.
use Rattle.std.specs.Prelude.{ℕ, ◌+◌, ◌-◌, ◌≤◌, ◌<◌, min, ◌≡◌, refl, Bool, true, false, not, ◌⊎◌, List, length, take, drop, T, ltb}
use Rattle.std.proofs.Common.{arith, sym, ap, subst, ◌∙◌, inl, inr, ⊎_elim, length-take, length-drop, take_all, ltb→lt, nltb→le}
use Rattle.sheet.specs.Sheet.{piece_at}

pub below_or_not : (m n : ℕ) → (m < n) ⊎ (n ≤ m)
below_or_not m n = go (ltb m n) refl
  where
    go : (b : Bool) → ltb m n ≡ b → (m < n) ⊎ (n ≤ m)
    go true e = inl (ltb→lt m n (subst T (sym e) tt))
    go false e = inr (nltb→le m n (subst (λ b. T (not b)) (sym e) tt))

pub length_piece : (file : List ℕ) (at : ℕ) → length (piece_at file at) ≡ min 12 (length file - at)
length_piece file at = length-take 12 (drop at file) ∙ ap (min 12) (length-drop at file)

pub part_is_piece : (file : List ℕ) (at next : ℕ) → next ≡ at + min 12 (length file - at) → take (next - at) (drop at file) ≡ piece_at file at
part_is_piece file at next e =
    ⊎_elim
    (λ l. take_all (next - at) (drop at file) (omega (arith, length-drop at file)) ∙ sym (take_all 12 (drop at file) (omega (arith, length-drop at file))))
    (λ l. let k : next - at ≡ 12 = omega arith in ap (λ n. take n (drop at file)) k)
    (below_or_not (length file - at) 12)
