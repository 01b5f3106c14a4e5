-- Lists that a function of the place gives.
-- Assumes nothing.
use Rattle.std.specs.Prelude.{ℕ, zero, suc, ◌+◌, ◌<◌, ◌≡◌, refl, List, [], ◌∷◌, ◌++◌, length, get_or}
use Rattle.std.proofs.Common.{arith, add-zero, ap, ap₂}
use Rattle.blocks.specs.Flat.{listed}

pub length_listed : {A : Type 0} (f : ℕ → A) (k n : ℕ) → length (listed f k n) ≡ n
unfolding listed
length_listed f k zero = refl
length_listed f k (suc n) = ap suc (length_listed f (suc k) n)

pub listed_more : {A : Type 0} (f : ℕ → A) (k n : ℕ) → listed f k (suc n) ≡ listed f k n ++ f (k + n) ∷ []
unfolding listed
listed_more f k zero = rw add-zero
listed_more f k (suc n) = let e : k + suc n ≡ suc k + n = omega arith in rw e (ap (λ l. f k ∷ l) (listed_more f (suc k) n))

-- a list, by its members
pub listed_is : {A : Type 0} (f : ℕ → A) (d : A) (k : ℕ) (xs : List A) → ((j : ℕ) → j < length xs → f (k + j) ≡ get_or xs j d)
    → listed f k (length xs) ≡ xs
unfolding listed
listed_is f d k [] h = refl
listed_is f d k (x ∷ xs) h = ap₂ ◌∷◌ (rw add-zero at (h 0 (omega arith))) (listed_is f d (suc k) xs next)
  where
    next : (j : ℕ) → j < length xs → f (suc k + j) ≡ get_or xs j d
    next j l = let e : k + suc j ≡ suc k + j = omega arith in rw e at (h (suc j) (omega arith))
