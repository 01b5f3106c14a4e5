-- Arrays by their places.
-- Assumes nothing.
use Rattle.std.specs.Prelude.{ℕ, zero, suc, ◌≡◌, refl, get_or, replicate}

pub replicate_at : {A : Type 0} (z : A) (n k : ℕ) → get_or (replicate n z) k z ≡ z
replicate_at z zero k = refl
replicate_at z (suc n) zero = refl
replicate_at z (suc n) (suc k) = replicate_at z n k
