-- Document 02, order 5, as the program `crowdprint` shows it: the crowding sheet of the board that a file's records leave.
-- Assumes nothing.
use Rattle.std.specs.Prelude.{ℕ, zero, suc, ◌+◌, ◌*◌, ◌≤◌, ◌<◌, ◌≡◌, ◌⊎◌, List, [], ◌∷◌, ◌++◌, length, get_or, ltb}
use Rattle.paper.specs.declared.Board.{Board}
use Rattle.paper.specs.declared.Reply.{Reply}
use Rattle.paper.specs.Limits.{least_slice}
use Rattle.paper.specs.Layout.{fresh}
use Rattle.paper.specs.Padding.{board_of}
use Rattle.paper.specs.Answer.{Fed}
use Rattle.text.specs.Text.{Part, number, byte, Spells}
use Rattle.sheet.specs.Sheet.{space, line_end, last_line, most_records, piece_at}
use Rattle.index.specs.declared.Index.{Index}
use Rattle.index.specs.declared.Crowding.{Crowding}
use Rattle.beside.specs.Beside.{Agrees, Crowds}

-- ---- the records

-- the record after n others, fed to the board b and lent 50 numbers, whichever they are: by `one_text` they do not matter
pub record FedNext (file : List ℕ) (n : ℕ) (b : Board) (reply : Reply) : Type 0 where
  pub there : 12 * n < length file
  pub few : n < most_records
  pub lent : List ℕ
  pub after : List ℕ
  pub enough : length lent ≡ least_slice
  pub fed : Fed b (piece_at file (12 * n)) lent after reply

-- the first n records, each fed in turn from the fresh board on, leave a board
pub data Leaves (file : List ℕ) : ℕ → Board → Type 0 where
  none : Leaves file 0 (board_of fresh)
  more : {n : ℕ} {b : Board} {reply : Reply} → Leaves file n b → FedNext file n b reply → Leaves file (n + 1) reply.board

-- no record is left after n: the file has no more, or the program takes no more
abbrev pub Over : List ℕ → ℕ → Type 0
Over file n = (length file ≤ 12 * n) ⊎ (n ≡ most_records)

-- ---- the lines

-- line k of the sheet: a letter, where the track stands, its open edges, and those in a row from its low end on
abbrev pub line_in : ℕ → Crowding → ℕ → List Part
line_in letter r k =
    byte letter ∷ byte space ∷ number (get_or r.at k 0) ∷ byte space ∷ number (get_or r.free k 0)
    ∷ byte space ∷ number (get_or r.stretch k 0) ∷ byte line_end ∷ []

-- n lines, the first of them line `from`
unfoldable pub lines_in : ℕ → Crowding → ℕ → ℕ → List Part
lines_in letter r from zero = []
lines_in letter r from (suc n) = lines_in letter r from n ++ line_in letter r (from + n)

-- by the code: with 0 the upright tracks, `x`, then the level ones, `y`; else the code on a line of its own
unfoldable pub shown_by : ℕ → Crowding → List Part
shown_by zero r = lines_in 120 r 0 r.upright ++ lines_in 121 r r.upright r.level
shown_by (suc k) r = number (suc k) ∷ byte line_end ∷ []

abbrev pub shown : Crowding → List Part
shown r = shown_by r.code r

-- ---- the whole text

-- the sheet of the board that all the file's records leave, and the last line, which says whether input is left
pub record CrowdingOf (file text : List ℕ) : Type 0 where
  pub records : ℕ
  pub last : Board
  pub left : Leaves file records last
  pub over : Over file records
  pub index : Index
  pub agrees : Agrees last index
  pub sheet : Crowding
  pub crowds : Crowds last index sheet
  pub printed : Spells (shown sheet ++ last_line (ltb (12 * records) (length file))) text
