-- Text in bytes: numbers in decimal, and the bytes between them.
-- Assumes nothing.
use Rattle.std.specs.Prelude.{ℕ, ◌+◌, ◌-◌, ◌*◌, ◌≤◌, ◌≡◌, List, [], ◌∷◌, ◌++◌, length, get_or, take, drop}
use Rattle.paper.specs.Grid.{All}

-- ---- numbers

-- the byte is one of 0 to 9
abbrev pub Digit : ℕ → Type 0
Digit d = (48 ≤ d) × (d ≤ 57)

-- the number that the digits read, from the left, where n has been read before them
unfoldable pub read_on : ℕ → List ℕ → ℕ
read_on n [] = n
read_on n (d ∷ ds) = read_on (10 * n + (d - 48)) ds

-- Digits that read back as the number. A 0 in front stands alone: it is the number 0.
pub record Decimal (n : ℕ) (ds : List ℕ) : Type 0 where
  pub some : 1 ≤ length ds
  pub digits : All Digit ds
  pub value : read_on 0 ds ≡ n
  pub no_zero : get_or ds 0 0 ≡ 48 → length ds ≡ 1

-- ---- numbers and bytes, one after another

pub data Part : Type 0 where
  number : ℕ → Part
  byte : ℕ → Part

unfoldable pub Spells : List Part → List ℕ → Type 0
Spells [] bs = bs ≡ []
Spells (number n ∷ ps) bs = (ds : List ℕ) × (rest : List ℕ) × Decimal n ds × (bs ≡ ds ++ rest) × Spells ps rest
Spells (byte b ∷ ps) bs = (rest : List ℕ) × (bs ≡ b ∷ rest) × Spells ps rest

-- ---- in a lent buffer

-- the bytes stand in it from `at` on, what is before and after them stays, and r is the place after them
pub record Puts (bs buffer : List ℕ) (at : ℕ) (after : List ℕ) (r : ℕ) : Type 0 where
  pub fits : at + length bs ≤ length buffer
  pub holds : after ≡ take at buffer ++ bs ++ drop (at + length bs) buffer
  pub next : r ≡ at + length bs

pub record Writes (ps : List Part) (buffer : List ℕ) (at : ℕ) (after : List ℕ) (r : ℕ) : Type 0 where
  pub bytes : List ℕ
  pub spelled : Spells ps bytes
  pub put : Puts bytes buffer at after r
