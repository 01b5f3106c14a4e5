-- Which bytes are a piece: by its letter and the byte after it, it has one size. And how far into the room they reach.
-- Assumes nothing.
use Rattle.std.specs.Prelude.{ℕ, ◌+◌, ◌*◌, ◌≤◌, ◌≡◌, refl, Option, Some, List, [], ◌∷◌, ◌++◌, length, get_or, take}
use Rattle.std.proofs.Common.{arith, sym, ap, ◌∙◌, inl, inr, length-append, length-take-le}
use Rattle.checkprint.specs.declared.Last.TheVariants.{Bad}
use Rattle.checkprint.specs.Checked.{IsRecord, IsWire, IsPiece, SizeFor, StopFor}

-- ---- by the letter

pub piece_two : (bs : List ℕ) → IsPiece bs → 2 ≤ length bs
piece_two bs (inl r) = omega (arith, r.1)
piece_two bs (inr w) = omega (arith, w.1)

pub piece_record : (bs : List ℕ) → IsPiece bs → get_or bs 0 0 ≡ 114 → IsRecord bs
piece_record bs (inl r) e = r
piece_record bs (inr w) e = absurd (omega (arith, w.0))

pub piece_wire : (bs : List ℕ) → IsPiece bs → ¬ (get_or bs 0 0 ≡ 114) → IsWire bs
piece_wire bs (inl r) n = absurd (n r.0)
piece_wire bs (inr w) n = w

-- ---- by the size

one_size : (bs : List ℕ) (size : Option ℕ) → SizeFor (get_or bs 0 0) (get_or bs 1 0) size → IsPiece bs → size ≡ Some (length bs)
one_size bs size (inl s) (inl r) = s.1 ∙ ap Some (sym r.1)
one_size bs size (inl s) (inr w) = absurd (omega (arith, s.0, w.0))
one_size bs size (inr (inl s)) (inl r) = absurd (omega (arith, s.0, r.0))
one_size bs size (inr (inl s)) (inr w) = s.1 ∙ ap Some (sym w.1)
one_size bs size (inr (inr s)) (inl r) = absurd (s.0 r.0)
one_size bs size (inr (inr s)) (inr w) = absurd (s.1 w.0)

pub size_piece : (bs : List ℕ) (size : Option ℕ) → SizeFor (get_or bs 0 0) (get_or bs 1 0) size → size ≡ Some (length bs) → IsPiece bs
size_piece bs size (inl s) e = let k : length bs ≡ 13 = cc in inl (s.0, k)
size_piece bs size (inr (inl s)) e = let k : length bs ≡ 2 + 2 * get_or bs 1 0 = cc in inr (s.0, k)
size_piece bs size (inr (inr s)) e = absurd (cc)

pub size_two : (letter next : ℕ) (size : Option ℕ) (n : ℕ) → SizeFor letter next size → size ≡ Some n → 2 ≤ n
size_two letter next size n (inl s) e = let k : n ≡ 13 = cc in omega arith
size_two letter next size n (inr (inl s)) e = let k : n ≡ 2 + 2 * next = cc in omega arith
size_two letter next size n (inr (inr s)) e = absurd (cc)

-- ---- what the bytes say

pub empty : (bs : List ℕ) → length bs ≡ 0 → bs ≡ []
empty [] e = refl
empty (b ∷ bs) e = absurd (omega arith)

pub some : (bs : List ℕ) → ¬ (length bs ≡ 0) → ¬ (bs ≡ [])
some bs n e = n (ap length e)

-- a letter alone is no piece, nor are bytes of another size
pub short_bad : (bs : List ℕ) → length bs ≡ 1 → StopFor bs (Some Bad)
short_bad bs e = (some bs (λ z. omega arith), λ p. omega (arith, piece_two bs p))

pub size_bad : (bs : List ℕ) (size : Option ℕ) → SizeFor (get_or bs 0 0) (get_or bs 1 0) size → ¬ (length bs ≡ 0) → ¬ (size ≡ Some (length bs))
    → StopFor bs (Some Bad)
size_bad bs size s h n = (some bs h, λ p. n (one_size bs size s p))

-- ---- in the room

pub read_within : (read later : List ℕ) (n : ℕ) → n ≤ length read → n ≤ length (read ++ later)
read_within read later n h = omega (arith, length-append read later)

-- after the first two bytes
pub rest_within : (room read later : List ℕ) (n : ℕ) → 2 ≤ length room → n ≤ length read → 2 + n ≤ length (take 2 room ++ (read ++ later))
rest_within room read later n l h = omega (arith, length-append (take 2 room) (read ++ later), length-append read later, length-take-le 2 room l)
