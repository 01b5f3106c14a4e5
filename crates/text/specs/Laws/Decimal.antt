-- A number has one decimal spelling, and how long it is.
-- Assumes nothing.
use Rattle.std.specs.Prelude.{ℕ, zero, suc, ◌+◌, ◌-◌, ◌*◌, ◌/◌, ◌%◌, ◌≤◌, ◌<◌, ◌≡◌, refl, Bool, true, false, not, cond, List, [], ◌∷◌, ◌++◌, length, get_or, replicate, T, ltb}
use Rattle.std.proofs.Common.{eq-or-lt_of_le, arith, sym, ap₂, subst, ◌∙◌, ⊎_elim, length-append, ltb→lt, nltb→le}
use Rattle.std.proofs.lemmas.List.{length-replicate}
use Rattle.std.proofs.Math.ListN.{get_or-append}
use Rattle.paper.specs.Grid.{All}
use Rattle.paper.specs.Laws.Lists.{all_join}
use Rattle.text.specs.Text.{Digit, read_on, Decimal}

-- ---- reading

pub read_join : (n : ℕ) (ds es : List ℕ) → read_on n (ds ++ es) ≡ read_on (read_on n ds) es
unfolding read_on
read_join n [] es = refl
read_join n (d ∷ ds) es = read_join (10 * n + (d - 48)) ds es

at_least : (n : ℕ) (ds : List ℕ) → n ≤ read_on n ds
unfolding read_on
at_least n [] = omega arith
at_least n (d ∷ ds) = omega (arith, at_least (10 * n + (d - 48)) ds)

-- what was read before weighs more than as many digits after it
more : (m n : ℕ) (ds es : List ℕ) → m < n → length ds ≤ length es → All Digit ds → All Digit es → read_on m ds < read_on n es
unfolding read_on All
more m n [] es h l p q = omega (arith, at_least n es)
more m n (d ∷ ds) [] h l p q = absurd (omega arith)
more m n (d ∷ ds) (e ∷ es) h l p q =
    more (10 * m + (d - 48)) (10 * n + (e - 48)) ds es (omega (arith, p.0, q.0)) (omega arith) p.1 q.1

same : (m n : ℕ) (ds es : List ℕ) → length ds ≡ length es → All Digit ds → All Digit es → read_on m ds ≡ read_on n es → (m ≡ n) × (ds ≡ es)
unfolding read_on All
same m n [] [] l p q e = (e, refl)
same m n [] (y ∷ es) l p q e = absurd (omega arith)
same m n (d ∷ ds) [] l p q e = absurd (omega arith)
same m n (d ∷ ds) (y ∷ es) l p q e =
    let s = same (10 * m + (d - 48)) (10 * n + (y - 48)) ds es (omega arith) p.1 q.1 e in
    (omega (arith, s.0, p.0, q.0), ap₂ ◌∷◌ (omega (arith, s.0, p.0, q.0)) s.1)

-- ---- one spelling

-- a spelling is no longer than digits that read as much
no_longer : {n : ℕ} {ds : List ℕ} (es : List ℕ) → Decimal n ds → 1 ≤ length es → All Digit es → n ≤ read_on 0 es → length ds ≤ length es
unfolding read_on All
no_longer {n} {ds = []} es p l q h = omega arith
no_longer {n} {ds = d ∷ ds} es p l q h = let k : ¬ (length es < suc (length ds)) = go in omega arith
  where
    go : ¬ (length es < suc (length ds))
    go s =
        ⊎_elim (λ e. absurd (omega (arith, p.no_zero (sym e))))
        (λ g. absurd (omega (arith, p.value, more 0 (10 * 0 + (d - 48)) es ds (omega arith) (omega arith) q p.digits.1)))
        (eq-or-lt_of_le p.digits.0.0)

pub one_decimal : {n : ℕ} {ds es : List ℕ} → Decimal n ds → Decimal n es → ds ≡ es
one_decimal {n} {ds} {es} p q =
    let a : length ds ≤ length es = no_longer es p q.some q.digits (omega (arith, q.value)) in
    let b : length es ≤ length ds = no_longer ds q p.some p.digits (omega (arith, p.value)) in
    (same 0 0 ds es (omega arith) p.digits q.digits (p.value ∙ sym q.value)).1

-- ---- its length

all_nines : (k : ℕ) → All Digit (replicate k 57)
unfolding All
all_nines zero = tt
all_nines (suc k) = ((omega arith, omega arith), all_nines k)

-- a number that k nines reach has at most k digits
pub decimal_short : (k : ℕ) {n : ℕ} {ds : List ℕ} → 1 ≤ k → n ≤ read_on 0 (replicate k 57) → Decimal n ds → length ds ≤ k
decimal_short k {n} {ds} h l p =
    omega (arith, length-replicate {A = ℕ} k 57, no_longer (replicate k 57) p (omega (arith, length-replicate {A = ℕ} k 57)) (all_nines k) l)

-- ---- every number has one

pub decimal_one : (d : ℕ) → d < 10 → Decimal d ((48 + d) ∷ [])
unfolding read_on All
decimal_one d h = record { some = omega arith; digits = ((omega arith, omega arith), tt); value = omega arith; no_zero = λ e. refl }

first_kept : (ds es : List ℕ) → 1 ≤ length ds → get_or (ds ++ es) 0 0 ≡ get_or ds 0 0
first_kept ds es h = get_or-append ds es 0 0 h

-- a digit more
pub decimal_more : (m d : ℕ) (ds : List ℕ) → 1 ≤ m → d < 10 → Decimal m ds → Decimal (10 * m + d) (ds ++ (48 + d) ∷ [])
unfolding read_on All
decimal_more m d ds h l p = record {
  some = omega (arith, p.some, length-append ds ((48 + d) ∷ []));
  digits = all_join Digit ds ((48 + d) ∷ []) p.digits ((omega arith, omega arith), tt);
  value = read_join 0 ds ((48 + d) ∷ []) ∙ omega (arith, p.value);
  no_zero = λ e. absurd (not_first (sym (first_kept ds ((48 + d) ∷ []) p.some) ∙ e));
}
  where
    -- alone, the digit 0 would read 0
    alone : (es : List ℕ) → length es ≡ 1 → get_or es 0 0 ≡ 48 → read_on 0 es ≡ 0
    alone [] a b = absurd (omega arith)
    alone (x ∷ []) a b = omega arith
    alone (x ∷ y ∷ es) a b = absurd (omega arith)

    not_first : ¬ (get_or ds 0 0 ≡ 48)
    not_first e = omega (arith, p.value, alone ds (p.no_zero e) e)

-- the digits, with fuel for n of them
unfoldable pub digits_of : ℕ → ℕ → List ℕ
digits_of zero n = (48 + n) ∷ []
digits_of (suc k) n = cond (ltb n 10) ((48 + n) ∷ []) (digits_of k (n / 10) ++ (48 + n % 10) ∷ [])

pub digits_decimal : (k n : ℕ) → n ≤ k → Decimal n (digits_of k n)
unfolding digits_of
digits_decimal zero n h = decimal_one n (omega arith)
digits_decimal (suc k) n h = go (digits_decimal k (n / 10) (omega arith)) (ltb n 10) refl
  where
    go : Decimal (n / 10) (digits_of k (n / 10)) → (b : Bool) → ltb n 10 ≡ b
        → Decimal n (cond b ((48 + n) ∷ []) (digits_of k (n / 10) ++ (48 + n % 10) ∷ []))
    go d true e = decimal_one n (ltb→lt n 10 (subst T (sym e) tt))
    go d false e =
        let l : 10 ≤ n = nltb→le n 10 (subst (λ b. T (not b)) (sym e) tt) in
        let s : 10 * (n / 10) + n % 10 ≡ n = omega arith in
        subst (λ m. Decimal m (digits_of k (n / 10) ++ (48 + n % 10) ∷ [])) s
        (decimal_more (n / 10) (n % 10) (digits_of k (n / 10)) (omega arith) (omega arith) d)

pub some_decimal : (n : ℕ) → (ds : List ℕ) × Decimal n ds
some_decimal n = (digits_of n n, digits_decimal n n (omega arith))
