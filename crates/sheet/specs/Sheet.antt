-- Document 01, "The sheet": the lines that a file's bytes give.
-- Assumes nothing.
use Rattle.std.specs.Prelude.{ℕ, zero, suc, ◌+◌, ◌*◌, ◌≤◌, ◌<◌, ◌≡◌, Bool, true, false, ◌⊎◌, List, [], ◌∷◌, ◌++◌, map, length, get_or, take, drop, ltb}
use Rattle.paper.specs.declared.Board.{Board}
use Rattle.paper.specs.declared.Reply.{Reply}
use Rattle.paper.specs.declared.Verdict.{Verdict}
use Rattle.paper.specs.Limits.{least_slice}
use Rattle.paper.specs.Grid.{All}
use Rattle.paper.specs.Layout.{fresh}
use Rattle.paper.specs.Padding.{board_of, WellFormed}
use Rattle.paper.specs.Answer.{verdict, Fed}
use Rattle.paper.specs.History.{Call, FedAll}
use Rattle.sheet.specs.declared.Printed.{Printed}
use Rattle.text.specs.Text.{Part, number, byte, Spells, Puts}

-- ---- a line

abbrev pub space : ℕ
space = 32

abbrev pub colon : ℕ
colon = 58

abbrev pub line_end : ℕ
line_end = 10

-- x:y of each corner, a space before each
unfoldable pub corners_in : List ℕ → List Part
corners_in [] = []
corners_in (x ∷ []) = []
corners_in (x ∷ y ∷ ns) = byte space ∷ number x ∷ byte colon ∷ number y ∷ corners_in ns

-- length, detour and corners; nothing where no corner is told
unfoldable pub wire_in : ℕ → ℕ → List ℕ → List Part
wire_in long away [] = []
wire_in long away (x ∷ ns) = byte space ∷ number long ∷ byte space ∷ number away ∷ corners_in (x ∷ ns)

-- the pin and the item's id; nothing where no pin is named
unfoldable pub blame_in : ℕ → ℕ → List Part
blame_in zero id = []
blame_in (suc k) id = byte space ∷ number (suc k) ∷ byte space ∷ number id ∷ []

-- The line of the record with the number n. A pin is named exactly with 11 and 18 (paper's `pin_told`). Of the slice the line shows x and y of
-- each corner that the reply counts; an accepted lay or ask has corners, and nothing else has (`corners_told`).
abbrev pub line_in : ℕ → Verdict → ℕ → ℕ → ℕ → List ℕ → List Part
line_in n said long away corners slice =
    number n ∷ byte space ∷ number said.code ∷ blame_in said.place said.id ++ wire_in long away (take (corners + corners) slice) ++ byte line_end ∷ []

abbrev pub line_of : ℕ → Reply → List ℕ → List Part
line_of n r slice = line_in n (verdict r) r.length r.detour r.corners slice

abbrev pub Line : ℕ → Reply → List ℕ → List ℕ → Type 0
Line n r slice bytes = Spells (line_of n r slice) bytes

-- the last line: `cut` if input is left, else `end`
abbrev pub last_line : Bool → List Part
last_line true = byte 99 ∷ byte 117 ∷ byte 116 ∷ byte line_end ∷ []
last_line false = byte 101 ∷ byte 110 ∷ byte 100 ∷ byte line_end ∷ []

-- ---- the records of a file

abbrev pub most_records : ℕ
most_records = 65535

-- the record that begins at a place: 12 bytes, or what is left
abbrev pub piece_at : List ℕ → ℕ → List ℕ
piece_at file at = take 12 (drop at file)

-- all that the file has, each 12 bytes after the one before; but no more than 65,535
pub record Pieces (file : List ℕ) (ps : List (List ℕ)) : Type 0 where
  pub each : (k : ℕ) → k < length ps → (12 * k < length file) × (get_or ps k [] ≡ piece_at file (12 * k))
  pub few : length ps ≤ most_records
  pub all : (length file ≤ 12 * length ps) ⊎ (length ps ≡ most_records)

-- ---- the sheet

-- the lines of the calls, the first with the number n
unfoldable pub lines_from : ℕ → List Call → List Part
lines_from n [] = []
lines_from n (c ∷ cs) = line_of n c.reply c.after ++ lines_from (n + 1) cs

-- Each record is fed in turn, from the fresh board on, and lent 50 numbers, whichever they are: by `one_sheet` they do not matter.
pub record SheetOf (file sheet : List ℕ) : Type 0 where
  pub calls : List Call
  pub last : Board
  pub fed : FedAll (board_of fresh) calls last
  pub pieces : Pieces file (map (λ c. c.bytes) calls)
  pub lent : All (λ c. length c.lent ≡ least_slice) calls
  pub printed : Spells (lines_from 1 calls ++ last_line (ltb (12 * length calls) (length file))) sheet

-- ---- one step of it

-- the room that a line is lent (`LINE_ROOM`)
abbrev pub line_room : ℕ
line_room = 346

-- the record at a place, with its number, fed to the board b: its line, the place after it, and the board that is left
pub record Steps (file : List ℕ) (at n : ℕ) (b : Board) (line : List ℕ) (next : ℕ) (b' : Board) : Type 0 where
  pub lent : List ℕ
  pub after : List ℕ
  pub reply : Reply
  pub enough : length lent ≡ least_slice
  pub fed : Fed b (piece_at file at) lent after reply
  pub printed : Line n reply after line
  pub next_is : next ≡ at + length (piece_at file at)
  pub board_is : b' ≡ reply.board

-- The same in a lent buffer: the line stands at its start, the rest of it stays, and the board that is left is well formed.
pub record StepsIn (file : List ℕ) (at n : ℕ) (b : Board) (buffer after : List ℕ) (r : Printed) : Type 0 where
  pub line : List ℕ
  pub steps : Steps file at n b line r.next r.board
  pub put : Puts line buffer 0 after r.written
  pub well_formed : WellFormed r.board

-- what a step gives
pub record Stepped : Type 0 where
  pub line : List ℕ
  pub next : ℕ
  pub board : Board

-- Steps one after another, from a place, a board and n records before it, until nothing is left or 65,535 records are read; they end
-- at the place `end`.
unfoldable pub Printing : List ℕ → ℕ → ℕ → Board → List Stepped → ℕ → Type 0
Printing file at n b [] end = (end ≡ at) × ((length file ≤ at) ⊎ (n ≡ most_records))
Printing file at n b (t ∷ ts) end =
    (at < length file) × (n < most_records) × Steps file at (n + 1) b t.line t.next t.board
    × Printing file t.next (n + 1) t.board ts end

-- their lines, one after another
unfoldable pub lines_of : List Stepped → List ℕ
lines_of [] = []
lines_of (t ∷ ts) = t.line ++ lines_of ts
