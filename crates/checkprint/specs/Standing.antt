-- Where the printing stands: the pieces so far, what they have printed, and what of it waits in the buffer; and how it ends.
-- Assumes nothing.
use Rattle.std.specs.Prelude.{ℕ, ◌+◌, ◌≤◌, ◌<◌, ◌≡◌, ◌⊎◌, Option, Some, None, Result, Ok, Err, OnOk, List, [], ◌∷◌, ◌++◌, length, take}
use Rattle.paper.specs.declared.Board.{Board}
use Rattle.paper.specs.Layout.{fresh}
use Rattle.paper.specs.Padding.{board_of, WellFormed}
use Rattle.input.specs.declared.Broken.{Broken}
use Rattle.checkprint.specs.declared.Last.{Last}
use Rattle.checkprint.specs.declared.Last.TheVariants.{End, Bad, Cut}
use Rattle.checkprint.specs.declared.Place.{Place}
use Rattle.checkprint.specs.Checked.{most_pieces, line_room, Acts}

-- ---- the pieces one after another

-- from the fresh board on: the text that they print, and the drawn wires and the board after them
pub data Leads : List (List ℕ) → List ℕ → ℕ → Board → Type 0 where
  here : Leads [] [] 0 (board_of fresh)
  further : {ps : List (List ℕ)} {text piece line : List ℕ} {n n' : ℕ} {b b' : Board} → Leads ps text n b → Acts b n piece line n' b'
      → Leads (ps ++ piece ∷ []) (text ++ line) n' b'

-- what the text ends with waits in the buffer, from its start
pub record Stands (p : Place) (buffer : List ℕ) : Type 0 where
  pub pieces : List (List ℕ)
  pub text : List ℕ
  pub leads : Leads pieces text p.wires p.board
  pub count : length pieces ≡ p.pieces
  pub few : p.wires ≤ p.pieces
  pub written : List ℕ
  pub waits : text ≡ written ++ take p.waiting buffer
  pub inside : p.waiting ≤ length buffer
  pub well_formed : WellFormed p.board

abbrev pub with_waiting : Place → ℕ → Place
with_waiting p at = record { pieces = p.pieces; wires = p.wires; waiting = at; board = p.board }

-- in a buffer of so many bytes, the next line begins after those that wait, or at the start; it has room there, unless a write failed
abbrev pub SpareIs : ℕ → ℕ → ℕ → Result (Unit {0}) Broken → Type 0
SpareIs room waiting at r = ((at ≡ waiting) ⊎ (at ≡ 0)) × OnOk r (at + line_room ≤ room)

-- ---- how it ends

-- after n pieces, with the last word or broken off: no piece is bad once all are read, and input is left only then
abbrev pub EndsAt : Result Last Broken → ℕ → Type 0
EndsAt (Ok End) n = n ≤ most_pieces
EndsAt (Ok Bad) n = n < most_pieces
EndsAt (Ok Cut) n = n ≡ most_pieces
EndsAt (Err broken) n = n ≤ most_pieces

-- a turn counts a piece more, or is the last
abbrev pub Counts : ℕ → Result (Option Last) Broken → ℕ → Type 0
Counts n (Ok None) m = m ≡ n + 1
Counts n (Ok (Some l)) m = EndsAt (Ok l) m
Counts n (Err broken) m = EndsAt (Err broken) m

-- from the one place to the other
pub record Turned (p q : Place) (r : Result (Option Last) Broken) (buffer : List ℕ) : Type 0 where
  pub stands : Stands q buffer
  pub counts : Counts p.pieces r q.pieces

pub record Ended (p : Place) (r : Result Last Broken) (buffer : List ℕ) : Type 0 where
  pub stands : Stands p buffer
  pub ends : EndsAt r p.pieces
