-- From marks to words: bits by their places.
-- Assumes nothing.
use Rattle.std.specs.Prelude.{ℕ, zero, suc, ◌+◌, ◌-◌, ◌*◌, ◌^◌, ◌≤◌, ◌<◌, ◌≡◌, refl, Bool, true, false, List, [], ◌∷◌, get_or, take, drop, replicate, min}
use Rattle.std.proofs.Common.{arith, sym, ap, ap₂, ◌∙◌, pow_mono}
use Rattle.std.proofs.lemmas.List.{length-replicate, take_all, drop_all}
use Rattle.std.specs.Int.{from_bool}
use Rattle.std.proofs.Math.Decide.{dec_lt}
use Rattle.blocks.specs.Flat.{listed}
use Rattle.blocks.specs.Laws.Lists.{length_listed}
use Rattle.index.specs.Bits.{digit, number, words_of, no_edges}
use Rattle.index.specs.Laws.Arrays.{replicate_at}
use Rattle.crowding.specs.Filling.{Filled}
use Rattle.index.specs.Laws.Words.{number_below}

-- ---- listed bits

pub listed_at : {A : Type 0} (f : ℕ → A) (z : A) (k n i : ℕ) → i < n → get_or (listed f k n) i z ≡ f (k + i)
unfolding listed
listed_at f z k zero i h = absurd (omega arith)
listed_at f z k (suc n) zero h = ap f (omega arith)
listed_at f z k (suc n) (suc i) h = let e : suc k + i ≡ k + suc i = omega arith in listed_at f z (suc k) n i (omega arith) ∙ ap f e

pub take_listed : {A : Type 0} (f : ℕ → A) (k n m : ℕ) → m ≤ n → take m (listed f k n) ≡ listed f k m
unfolding listed
take_listed f k n zero h = refl
take_listed f k zero (suc m) h = absurd (omega arith)
take_listed f k (suc n) (suc m) h = ap (λ l. f k ∷ l) (take_listed f (suc k) n m (omega arith))

pub drop_listed : {A : Type 0} (f : ℕ → A) (k n m : ℕ) → m ≤ n → drop m (listed f k n) ≡ listed f (k + m) (n - m)
unfolding listed
drop_listed f k n zero h = let a : k ≡ k + 0 = omega arith in let b : n ≡ n - 0 = omega arith in ap₂ (λ a b. listed f a b) a b
drop_listed f k zero (suc m) h = absurd (omega arith)
drop_listed f k (suc n) (suc m) h =
    let a : suc k + m ≡ k + suc m = omega arith in
    let b : n - m ≡ suc n - suc m = omega arith in
    drop_listed f (suc k) n m (omega arith) ∙ ap₂ (λ a b. listed f a b) a b

none_listed : {A : Type 0} (f : ℕ → A) (k n : ℕ) → n ≡ 0 → listed f k n ≡ []
unfolding listed
none_listed f k n e = rw e refl

-- ---- words

-- so few bits are a small number
pub number_small : (f : ℕ → Bool) (k n m : ℕ) → n ≤ m → number (listed f k n) < 2 ^ m
number_small f k n m h = omega (arith, number_below (listed f k n), ap (λ j. 2 ^ j) (length_listed f k n), pow_mono h)

pub digit_le : (b : Bool) → digit b ≤ 1
digit_le true = omega arith
digit_le false = omega arith

pub digit_is : (b : Bool) → digit b ≡ from_bool b
digit_is true = refl
digit_is false = refl

-- there is room for a bit more
pub number_room : (f : ℕ → Bool) (k n w : ℕ) → w ≡ number (listed f k n) → n ≤ 63 → 2 * w + 1 < 2 ^ 64
number_room f k n w e h = omega (arith, e, number_small f k n 63 h)

pub number_none : (f : ℕ → Bool) (k n : ℕ) → n ≡ 0 → 0 ≡ number (listed f k n)
unfolding number listed
number_none f k n e = rw e

-- a bit more below
pub number_down : (f : ℕ → Bool) (t b w d : ℕ) → d ≡ digit (f (t - 1)) → 1 ≤ t → t ≤ b → w ≡ number (listed f t (b - t))
    → d + 2 * w ≡ number (listed f (t - 1) (b - (t - 1)))
unfolding listed number
number_down f t b w d q h l p =
    let e : b - (t - 1) ≡ suc (b - t) = omega arith in
    let s : suc (t - 1) ≡ t = omega arith in
    rw (e, s, p, q)

-- the first 64 and the others, where there are any
pub words_both : (f : ℕ → Bool) (n m v w : ℕ) → m ≡ min n 64 → v ≡ number (listed f 0 m) → w ≡ number (listed f m (n - m))
    → record { low = v; high = w } ≡ words_of (listed f 0 n)
unfolding number
words_both f n m v w e p q = go (dec_lt n 64)
  where
    go : Dec (n < 64) → record { low = v; high = w } ≡ words_of (listed f 0 n)
    go (yes h) =
        let a : v ≡ number (take 64 (listed f 0 n)) = p ∙ ap (λ k. number (listed f 0 k)) (omega arith) ∙ ap number (sym (take_all 64 (listed f 0 n) (omega (arith, length_listed f 0 n)))) in
        let z : w ≡ number [] = q ∙ ap number (none_listed f m (n - m) (omega arith)) in
        let b : w ≡ number (drop 64 (listed f 0 n)) = z ∙ ap number (sym (drop_all 64 (listed f 0 n) (omega (arith, length_listed f 0 n)))) in
        λ i. record { low = a i; high = b i }
    go (no h) =
        let s : m ≡ 64 = omega arith in
        let a : v ≡ number (take 64 (listed f 0 n)) = p ∙ ap (λ k. number (listed f 0 k)) s ∙ ap number (sym (take_listed f 0 n 64 (omega arith))) in
        let b : w ≡ number (drop 64 (listed f 0 n)) = q ∙ ap (λ k. number (listed f k (n - k))) s ∙ ap number (sym (drop_listed f 0 n 64 (omega arith))) in
        λ i. record { low = a i; high = b i }

-- ---- the words of each track

pub filled_none : (u : Bool) (d : List ℕ) (n : ℕ) → Filled u d 0 n (replicate 96 no_edges)
filled_none u d n = record { room = length-replicate 96 no_edges; each = λ k h. absurd (omega arith); rest = λ k h. replicate_at no_edges 96 k }
