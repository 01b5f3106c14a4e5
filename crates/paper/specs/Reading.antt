-- Document 01, "The twelve-byte record": which bytes are which record.
-- Assumes nothing.
use Rattle.std.specs.Prelude.{ℕ, ◌+◌, ◌*◌, ◌≤◌, ◌≡◌, ◌⊎◌, List, length, get_or}
use Rattle.paper.specs.declared.Mode.{Mode}
use Rattle.paper.specs.declared.Mode.TheVariants as mode
use Rattle.paper.specs.declared.Record.{Record}
use Rattle.paper.specs.declared.Record.TheVariants.{Bounds, KeepOut, Lay, Ask, TakeOut, Undo, Malformed}

-- the kind, byte 1, the id and the four numbers a b c d
pub record Fields : Type 0 where
  pub kind : ℕ
  pub zero : ℕ
  pub id : ℕ
  pub a : ℕ
  pub b : ℕ
  pub c : ℕ
  pub d : ℕ

-- the 16-bit number that starts at a byte, little-endian
abbrev pub word : List ℕ → ℕ → ℕ
word s at = get_or s at 0 + 256 * get_or s (at + 1) 0

abbrev pub fields_in : List ℕ → Fields
fields_in s = record { kind = get_or s 0 0; zero = get_or s 1 0; id = word s 2; a = word s 4; b = word s 6; c = word s 8; d = word s 10 }

abbrev pub fields : ℕ → ℕ → ℕ → ℕ → ℕ → ℕ → Fields
fields k i a b c d = record { kind = k; zero = 0; id = i; a = a; b = b; c = c; d = d }

-- laying and asking, in each mode
abbrev pub lay_kind : Mode → ℕ
lay_kind mode.Plain = 3
lay_kind mode.Fewest = 9

abbrev pub ask_kind : Mode → ℕ
ask_kind mode.Plain = 4
ask_kind mode.Fewest = 8

-- the paper's kind number and values for each case of the enum, row for row; what is not well formed has none
unfoldable pub fields_of : Record → Fields
fields_of (Bounds s) = fields 1 0 s.w s.h s.clearance 0
fields_of (KeepOut i r) = fields 2 i.number r.x0 r.y0 r.x1 r.y1
fields_of (Lay i q) = fields (lay_kind q.mode) i.number q.pins.sx q.pins.sy q.pins.tx q.pins.ty
fields_of (Ask q) = fields (ask_kind q.mode) 0 q.pins.sx q.pins.sy q.pins.tx q.pins.ty
fields_of (TakeOut i) = fields 5 i.number 0 0 0 0
fields_of Undo = fields 6 0 0 0 0 0
fields_of Malformed = fields 0 0 0 0 0 0

-- an id that must be 1-65535 is not 0
unfoldable pub Plain : Record → Type 0
Plain (Bounds s) = Unit {0}
Plain (KeepOut i r) = 1 ≤ i.number
Plain (Lay i q) = 1 ≤ i.number
Plain (Ask q) = Unit {0}
Plain (TakeOut i) = 1 ≤ i.number
Plain Undo = Unit {0}
Plain Malformed = ⊥

pub record Spells (bytes : List ℕ) (r : Record) : Type 0 where
  pub twelve : length bytes ≡ 12
  pub plain : Plain r
  pub same : fields_in bytes ≡ fields_of r

-- the bytes spell the record; they are malformed where they spell none
unfoldable pub Reads : List ℕ → Record → Type 0
Reads bytes r = Spells bytes r ⊎ ((r ≡ Malformed) × ((q : Record) → ¬ (Spells bytes q)))
