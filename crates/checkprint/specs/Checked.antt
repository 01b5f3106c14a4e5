-- Document 02, order 1, as the program `checkprint` shows it: a piece of its input, what it does, and the line of a drawn wire.
-- Assumes nothing.
use Rattle.std.specs.Prelude.{ℕ, zero, suc, ◌+◌, ◌*◌, ◌≡◌, ◌⊎◌, Option, Some, None, List, [], ◌∷◌, ◌++◌, length, get_or, drop}
use Rattle.paper.specs.declared.Board.{Board}
use Rattle.paper.specs.declared.Reply.{Reply}
use Rattle.paper.specs.declared.Judged.{Judged}
use Rattle.paper.specs.Limits.{least_slice}
use Rattle.paper.specs.Padding.{WellFormed}
use Rattle.paper.specs.Answer.{Fed}
use Rattle.paper.specs.Drawn.{Judges}
use Rattle.text.specs.Text.{Part, number, byte, Spells, Puts, Writes}
use Rattle.sheet.specs.Sheet.{space, line_end}
use Rattle.checkprint.specs.declared.Last.{Last}
use Rattle.checkprint.specs.declared.Last.TheVariants.{End, Bad, Cut}
use Rattle.checkprint.specs.declared.Done.{Done}

-- ---- the pieces

abbrev pub most_pieces : ℕ
most_pieces = 65535

-- a letter, a count and 255 numbers (`MOST_BYTES`)
abbrev pub most_bytes : ℕ
most_bytes = 512

-- the letter r and twelve bytes
abbrev pub IsRecord : List ℕ → Type 0
IsRecord bs = (get_or bs 0 0 ≡ 114) × (length bs ≡ 13)

-- the letter w, a byte n and n numbers of two bytes each
abbrev pub IsWire : List ℕ → Type 0
IsWire bs = (get_or bs 0 0 ≡ 119) × (length bs ≡ 2 + 2 * get_or bs 1 0)

abbrev pub IsPiece : List ℕ → Type 0
IsPiece bs = IsRecord bs ⊎ IsWire bs

-- how many bytes a piece has, by its letter and the byte after it; none where no piece has the letter
abbrev pub SizeFor : ℕ → ℕ → Option ℕ → Type 0
SizeFor letter next size =
    ((letter ≡ 114) × (size ≡ Some 13)) ⊎ ((letter ≡ 119) × (size ≡ Some (2 + 2 * next))) ⊎ ((¬ (letter ≡ 114)) × (¬ (letter ≡ 119)) × (size ≡ None))

-- the last word, by the bytes that were read for a piece: none, since they are one; nothing was left; or they are no piece
abbrev pub StopFor : List ℕ → Option Last → Type 0
StopFor bs None = IsPiece bs
StopFor bs (Some End) = bs ≡ []
StopFor bs (Some Bad) = (¬ (bs ≡ [])) × (¬ (IsPiece bs))
StopFor bs (Some Cut) = ⊥

-- and by those that were read after the last piece
abbrev pub StopAfter : List ℕ → Last → Type 0
StopAfter bs End = bs ≡ []
StopAfter bs Bad = ⊥
StopAfter bs Cut = ¬ (bs ≡ [])

-- the 16-bit numbers that the bytes hold, little-endian
unfoldable pub words_in : List ℕ → List ℕ
words_in [] = []
words_in (low ∷ []) = []
words_in (low ∷ high ∷ bs) = (low + 256 * high) ∷ words_in bs

-- ---- the lines

-- after the code: with 0 the excess, with another the run, where it is not 0
unfoldable pub told_in : ℕ → ℕ → ℕ → List Part
told_in zero run excess = byte space ∷ number excess ∷ []
told_in (suc code) zero excess = []
told_in (suc code) (suc run) excess = byte space ∷ number (suc run) ∷ []

abbrev pub told_of : Judged → List Part
told_of r = told_in r.code r.run r.excess

-- The line of the drawn wire with the number n. The run is not 0 with 9, 20, 23 and 24, and with no other code (`line_shown`).
abbrev pub line_of : ℕ → Judged → List Part
line_of n r = number n ∷ byte space ∷ number r.code ∷ told_of r ++ byte line_end ∷ []

-- `end`, `bad` or `cut`
abbrev pub last_line : Last → List Part
last_line End = byte 101 ∷ byte 110 ∷ byte 100 ∷ byte line_end ∷ []
last_line Bad = byte 98 ∷ byte 97 ∷ byte 100 ∷ byte line_end ∷ []
last_line Cut = byte 99 ∷ byte 117 ∷ byte 116 ∷ byte line_end ∷ []

-- ---- what a piece does

-- On the board b, with n drawn wires before it: the line that it prints, and the drawn wires and the board after it. A record is lent 50
-- numbers, whichever they are.
pub data Acts (b : Board) (n : ℕ) (piece : List ℕ) : List ℕ → ℕ → Board → Type 0 where
  feeds : (lent after : List ℕ) (reply : Reply) → IsRecord piece → length lent ≡ least_slice → Fed b (drop 1 piece) lent after reply
      → Acts b n piece [] n reply.board
  judges : (r : Judged) (line : List ℕ) → IsWire piece → Judges b (words_in (drop 2 piece)) r → Spells (line_of (n + 1) r) line
      → Acts b n piece line (n + 1) b

-- ---- in a lent buffer

-- the room that a line is lent (`LINE_ROOM`)
abbrev pub line_room : ℕ
line_room = 32

-- The numbers that the bytes hold, drawn on the board b: what is said of them, in the line of the wire with the number n. It stands at the
-- start of the buffer, and has so many bytes.
pub record JudgedIn (b : Board) (n : ℕ) (bytes buffer after : List ℕ) (written : ℕ) : Type 0 where
  pub said : Judged
  pub judges : Judges b (words_in bytes) said
  pub writes : Writes (line_of n said) buffer 0 after written

-- The line that the piece prints stands at the start of the buffer, the rest of it stays, and the board that is left is well formed.
pub record ActsIn (b : Board) (n : ℕ) (piece buffer after : List ℕ) (r : Done) : Type 0 where
  pub line : List ℕ
  pub acts : Acts b n piece line r.wires r.board
  pub put : Puts line buffer 0 after r.written
  pub well_formed : WellFormed r.board
