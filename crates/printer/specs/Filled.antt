-- One buffer of lines: the records from one place of the file to another, and where the printing then stands.
-- Assumes nothing.
use Rattle.std.specs.Prelude.{ℕ, ◌+◌, ◌≤◌, ◌<◌, ◌⊎◌, ◌≡◌, List, [], ◌∷◌, ◌++◌, length, ltb}
use Rattle.paper.specs.declared.Board.{Board}
use Rattle.paper.specs.Layout.{fresh}
use Rattle.paper.specs.Padding.{board_of, WellFormed}
use Rattle.text.specs.Text.{Puts, Writes}
use Rattle.sheet.specs.Sheet.{last_line, most_records, line_room, Steps, Stepped, Printing, lines_of}
use Rattle.printer.specs.declared.Place.{Place}

-- the printing may stand at a place, with n records before it and the board b
pub record Within (file : List ℕ) (at n : ℕ) (b : Board) : Type 0 where
  pub inside : at ≤ length file
  pub few : n ≤ most_records
  pub well_formed : WellFormed b

-- steps one after another lead from the one place to the other
pub data Leads (file : List ℕ) (at n : ℕ) (b : Board) : List Stepped → ℕ → ℕ → Board → Type 0 where
  here : Leads file at n b [] at n b
  further : {ts : List Stepped} {at' n' : ℕ} {b' : Board} → Leads file at n b ts at' n' b' → (t : Stepped) → at' < length file → n' < most_records
      → Steps file at' (n' + 1) b' t.line t.next t.board → Leads file at n b (ts ++ t ∷ []) t.next (n' + 1) t.board

-- no record is left to print: the file has no more, or the sheet takes no more
abbrev pub Over : List ℕ → ℕ → ℕ → Type 0
Over file at n = (length file ≤ at) ⊎ (n ≡ most_records)

-- the lines of the steps from the one place to the other stand at the buffer's start, the rest of it stays; `waiting` bytes are theirs
pub record Filled (file : List ℕ) (at n : ℕ) (b : Board) (buffer after : List ℕ) (at' n' waiting : ℕ) (b' : Board) : Type 0 where
  pub steps : List Stepped
  pub leads : Leads file at n b steps at' n' b'
  pub put : Puts (lines_of steps) buffer 0 after waiting
  pub within : Within file at' n' b'

-- they stop where no record is left to print, or no room for a line
pub record Fills (file : List ℕ) (from : Place) (buffer after : List ℕ) (r : Place) : Type 0 where
  pub filled : Filled file from.at from.records from.board buffer after r.at r.records r.waiting r.board
  pub full : Over file r.at r.records ⊎ (length buffer < r.waiting + line_room)

-- Steps from the fresh board on have printed every record, and end at this place. Their lines and the last line are then the sheet
-- (`printed_sheet` of crates/sheet).
abbrev pub AllPrinted : List ℕ → ℕ → Type 0
AllPrinted file at = (ts : List Stepped) × Printing file 0 0 (board_of fresh) ts at

-- the buffer then holds the last line, from its start
abbrev pub HoldsLast : List ℕ → ℕ → List ℕ → List ℕ → Type 0
HoldsLast file at buffer after = (n : ℕ) × Writes (last_line (ltb at (length file))) buffer 0 after n
