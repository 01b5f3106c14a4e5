-- Demand 3: what the history says of a board, with no word of kept changes; and when two boards answer alike.
-- Assumes nothing.
use Rattle.std.specs.Prelude.{ℕ, ◌≡◌, List, [], ◌∷◌, take}
use Rattle.paper.specs.declared.Size.{Size}
use Rattle.paper.specs.declared.Board.{Board}
use Rattle.paper.specs.declared.Reply.{Reply}
use Rattle.paper.specs.declared.Record.{Record}
use Rattle.paper.specs.declared.Record.TheVariants.{Bounds, KeepOut, Lay, Ask, TakeOut, Undo, Malformed}
use Rattle.paper.specs.Limits.{most_kept}
use Rattle.paper.specs.Grid.{Dir}
use Rattle.paper.specs.Wire.{AnsweredIn}
use Rattle.paper.specs.Layout.{Thing, keep_out, wire, grid_of, add, without, no_bounds}
use Rattle.paper.specs.Reading.{Reads}
use Rattle.paper.specs.Answer.{source, target, way, verdict, Fed}

-- ---- the history

-- the items now, and the items before each change that can still be undone
pub record Past : Type 0 where
  pub size : Size
  pub now : List Thing
  pub before : List (List Thing)  -- latest first

abbrev pub start : Past
start = record { size = no_bounds; now = []; before = [] }

-- a change: what the items were is remembered, with the 31 before
abbrev pub becomes : Past → List Thing → Past
becomes h ts = record { size = h.size; now = ts; before = take most_kept (h.now ∷ h.before) }

-- what an accepted record makes of the past
unfoldable pub Passes : Past → Record → Past → Type 0
Passes h Malformed h' = ⊥
Passes h (Bounds z) h' = h' ≡ record { size = z; now = []; before = [] }
Passes h (KeepOut i r) h' = h' ≡ becomes h (add (keep_out i.number r) h.now)
Passes h (Lay i q) h' =
    (w : List Dir) × AnsweredIn q.mode (grid_of h.size h.now) (source q.pins) (target q.pins) w
    × (h' ≡ becomes h (add (wire i.number (way q.pins w)) h.now))
Passes h (Ask q) h' = h' ≡ h
Passes h (TakeOut i) h' = h' ≡ becomes h (without i.number h.now)
Passes h Undo h' = (ts : List Thing) × (bs : List (List Thing)) × (h.before ≡ ts ∷ bs) × (h' ≡ record { size = h.size; now = ts; before = bs })

-- ---- any list of records, one after another

-- one record fed: its bytes, the slice lent and what it held afterwards, the reply
pub record Call : Type 0 where
  pub bytes : List ℕ
  pub lent : List ℕ
  pub after : List ℕ
  pub reply : Reply

-- fed to b one after another, the calls leave b'
unfoldable pub FedAll : Board → List Call → Board → Type 0
FedAll b [] b' = b' ≡ b
FedAll b (c ∷ cs) b' = Fed b c.bytes c.lent c.after c.reply × FedAll c.reply.board cs b'

-- an accepted record passes, a refusal changes nothing
unfoldable pub Moves : Past → Call → Past → Type 0
Moves h c h' =
    (c.reply.code ≡ 0 → (rec : Record) × Reads c.bytes rec × Passes h rec h')
    × (¬ (c.reply.code ≡ 0) → h' ≡ h)

-- the calls, from the one past to the other
unfoldable pub Story : Past → List Call → Past → Type 0
Story h [] h' = h' ≡ h
Story h (c ∷ cs) h' = (m : Past) × Moves h c m × Story m cs h'

-- ---- boards that answer alike

pub record SameItems (b₁ b₂ : Board) : Type 0 where
  pub size : b₁.size ≡ b₂.size
  pub count : b₁.count ≡ b₂.count
  pub items : b₁.items ≡ b₂.items

-- lent equal slices, they hold s₁ and s₂ afterwards
pub record Alike (s₁ s₂ : List ℕ) (r₁ r₂ : Reply) : Type 0 where
  pub said : verdict r₁ ≡ verdict r₂
  pub long : r₁.length ≡ r₂.length
  pub away : r₁.detour ≡ r₂.detour
  pub turned : r₁.corners ≡ r₂.corners
  pub slice : s₁ ≡ s₂
  pub left : SameItems r₁.board r₂.board
