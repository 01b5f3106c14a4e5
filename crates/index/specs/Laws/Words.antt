-- Bits as a number: counting its ones, and the zeros below its complement.
-- Assumes nothing.
use Rattle.std.specs.Prelude.{ℕ, zero, suc, ◌+◌, ◌-◌, ◌*◌, ◌/◌, ◌%◌, ◌^◌, ◌≤◌, ◌<◌, ◌≡◌, refl, Bool, true, false, List, [], ◌∷◌, length, take, drop}
use Rattle.std.proofs.Common.{pow-suc, arith, ap, ap₂, ◌∙◌}
use Rattle.std.specs.Int.Count.{ones, ones_step, count_trailing_zeros, under}
use Rattle.index.specs.Bits.{number, opened, unbroken}

odd : (n : ℕ) → ((1 + 2 * n) % 2 ≡ 1) × ((1 + 2 * n) / 2 ≡ n)
odd n = (omega arith, omega arith)

even : (n : ℕ) → ((0 + 2 * n) % 2 ≡ 0) × ((0 + 2 * n) / 2 ≡ n)
even n = (omega arith, omega arith)

pub number_below : (bs : List Bool) → number bs < 2 ^ length bs
unfolding number
number_below [] = omega arith
number_below (true ∷ bs) = omega (arith, number_below bs, pow-suc 2 (length bs))
number_below (false ∷ bs) = omega (arith, number_below bs, pow-suc 2 (length bs))

ones_zero : ones 0 ≡ 0
unfolding ones
ones_zero = refl

pub ones_number : (bs : List Bool) → ones (number bs) ≡ opened bs
unfolding number opened
ones_number [] = ones_zero
ones_number (true ∷ bs) =
    ones_step (1 + 2 * number bs) ∙ ap₂ (λ x y. x + ones y) (odd (number bs)).0 (odd (number bs)).1 ∙ ap (λ n. 1 + n) (ones_number bs)
ones_number (false ∷ bs) =
    ones_step (0 + 2 * number bs) ∙ ap₂ (λ x y. x + ones y) (even (number bs)).0 (even (number bs)).1 ∙ ap (λ n. 0 + n) (ones_number bs)

step : (k n d m : ℕ) → n % 2 ≡ d → n / 2 ≡ m → count_trailing_zeros (suc k) n ≡ under d (count_trailing_zeros k m)
unfolding count_trailing_zeros
step k n d m e f = ap₂ (λ x y. under x (count_trailing_zeros k y)) e f

none : (n : ℕ) → count_trailing_zeros zero n ≡ 0
unfolding count_trailing_zeros
none n = refl

one_more : (n : ℕ) → suc n ≡ 1 + n
one_more n = omega arith

pub zeros_number : (k : ℕ) (bs : List Bool) → length bs ≤ k → number bs < 2 ^ k → count_trailing_zeros k (2 ^ k - 1 - number bs) ≡ unbroken bs
unfolding number unbroken
zeros_number zero [] h b = none _
zeros_number zero (c ∷ bs) h b = absurd (omega arith)
zeros_number (suc k) [] h b =
    let p = pow-suc 2 k in
    let q : 1 ≤ 2 ^ k = omega (arith, p) in
    step k _ 1 (2 ^ k - 1) (omega (arith, p)) (omega (arith, p))
zeros_number (suc k) (true ∷ bs) h b =
    let p = pow-suc 2 k in
    step k _ 0 (2 ^ k - 1 - number bs) (omega (arith, p)) (omega (arith, p))
    ∙ ap suc (zeros_number k bs (omega arith) (omega (arith, p))) ∙ one_more (unbroken bs)
zeros_number (suc k) (false ∷ bs) h b =
    let p = pow-suc 2 k in
    step k _ 1 (2 ^ k - 1 - number bs) (omega (arith, p)) (omega (arith, p))

-- ---- the first n bits and the others

pub opened_split : (n : ℕ) (bs : List Bool) → opened (take n bs) + opened (drop n bs) ≡ opened bs
unfolding opened
opened_split zero [] = omega arith
opened_split zero (b ∷ bs) = omega arith
opened_split (suc n) [] = omega arith
opened_split (suc n) (b ∷ bs) = omega (arith, opened_split n bs)

pub unbroken_le : (n : ℕ) (bs : List Bool) → unbroken (take n bs) ≤ n
unfolding unbroken
unbroken_le zero [] = omega arith
unbroken_le zero (b ∷ bs) = omega arith
unbroken_le (suc n) [] = omega arith
unbroken_le (suc n) (true ∷ bs) = omega (arith, unbroken_le n bs)
unbroken_le (suc n) (false ∷ bs) = omega arith

pub unbroken_full : (n : ℕ) (bs : List Bool) → unbroken (take n bs) ≡ n → unbroken bs ≡ n + unbroken (drop n bs)
unfolding unbroken
unbroken_full zero [] e = omega arith
unbroken_full zero (b ∷ bs) e = omega arith
unbroken_full (suc n) [] e = absurd (omega arith)
unbroken_full (suc n) (true ∷ bs) e = omega (arith, unbroken_full n bs (omega arith))
unbroken_full (suc n) (false ∷ bs) e = absurd (omega arith)

pub unbroken_short : (n : ℕ) (bs : List Bool) → ¬ (unbroken (take n bs) ≡ n) → unbroken bs ≡ unbroken (take n bs)
unfolding unbroken
unbroken_short zero [] e = absurd (e (omega arith))
unbroken_short zero (b ∷ bs) e = absurd (e (omega arith))
unbroken_short (suc n) [] e = omega arith
unbroken_short (suc n) (true ∷ bs) e = omega (arith, unbroken_short n bs (λ z. e (omega arith)))
unbroken_short (suc n) (false ∷ bs) e = omega arith
