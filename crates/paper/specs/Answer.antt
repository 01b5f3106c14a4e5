-- Document 01, "Codes and their order", with 11 and 18 as document 02 (order 2) parts them and with the seams of its order 3: what a record is
-- answered, and what an accepted one does.
-- Assumes nothing.
use Rattle.std.specs.Prelude.{ℕ, ◌≤◌, ◌<◌, ◌≡◌, ◌⊎◌, List, [], ◌∷◌, ◌++◌, length, drop, take}
use Rattle.paper.specs.declared.Rect.{Rect}
use Rattle.paper.specs.declared.Pins.{Pins}
use Rattle.paper.specs.declared.Question.{Question}
use Rattle.paper.specs.declared.Board.{Board}
use Rattle.paper.specs.declared.Reply.{Reply}
use Rattle.paper.specs.declared.Verdict.{Verdict}
use Rattle.paper.specs.declared.Record.{Record}
use Rattle.paper.specs.declared.Record.TheVariants.{Bounds, KeepOut, Lay, Ask, TakeOut, Undo, Malformed}
use Rattle.paper.specs.Limits.{most_blocks, most_runs, most_kept, least_slice}
use Rattle.paper.specs.Grid.{Node, Dir, Area, Any, Blocked, node}
use Rattle.paper.specs.Wire.{Legal, AnsweredIn, corners, runs, detour}
use Rattle.paper.specs.Layout.{Thing, keep_out, wire, id_of, Sort, keep_outs, wires, sort_of, rectangle, blocks_of, block_count, Covers, round, Sealed, Seamed, grid_of, RectFits, OnBoard, Turn, added, taken, add, without, Has, Used, undo, Layout, InRange, empty}
use Rattle.paper.specs.Padding.{board_of, Holds, WellFormed}
use Rattle.paper.specs.Reading.{Reads}

-- ---- the first code that applies

-- the code, about the run or the pin with this number, and the item with this id; about no item; about nothing
abbrev pub named : ℕ → ℕ → ℕ → Verdict
named k i j = record { code = k; place = i; id = j }

abbrev pub placed : ℕ → ℕ → Verdict
placed k i = named k i 0

abbrev pub plain : ℕ → Verdict
plain k = placed k 0

infix 30 ◌if◌ ◌unless◌ ◌about◌if◌ ◌about◌naming◌
pub data Check : Type 1 where
  ◌about◌if◌ : ℕ → ℕ → Type 0 → Check
  ◌unless◌ : ℕ → Type 0 → Check
  ◌about◌naming◌ : ℕ → ℕ → (ℕ → Type 0) → Check

abbrev pub ◌if◌ : ℕ → Type 0 → Check
◌if◌ n p = n about 0 if p

-- The check applies, and gives the verdict; it does not apply. `naming` applies if some id has the property, and names the smallest that has.
abbrev pub Applies : Check → Verdict → Type 0
Applies (n about i if p) v = p × (v ≡ placed n i)
Applies (n unless p) v = (¬ p) × (v ≡ plain n)
Applies (n about i naming P) v = (j : ℕ) × P j × ((k : ℕ) → P k → j ≤ k) × (v ≡ named n i j)

abbrev pub Idle : Check → Type 0
Idle (n about i if p) = ¬ p
Idle (n unless p) = p
Idle (n about i naming P) = (j : ℕ) → ¬ (P j)

-- the first that applies is given, and 0 where none does
unfoldable pub Gives : List Check → Verdict → Type 0
Gives [] v = v ≡ plain 0
Gives (c ∷ cs) v = Applies c v ⊎ (Idle c × Gives cs v)

-- ---- what the codes say of a layout

abbrev pub source : Pins → Node
source p = record { x = p.sx; y = p.sy }

abbrev pub target : Pins → Node
target p = record { x = p.tx; y = p.ty }

abbrev pub BeforeBounds : Layout → Type 0
BeforeBounds l = l.size.w ≡ 0

-- the item is of the sort `of`, and blocks the place to something of the sort `to`
unfoldable pub Bars : Layout → Sort → Sort → Area → Thing → Type 0
Bars l to of a t = (sort_of t ≡ of) × Blocked (blocks_of l.size.clearance to t) a

-- the rectangle's interior meets an item of the sort
abbrev pub Enters : Layout → Rect → Sort → Type 0
Enters l r of = Any (Bars l keep_outs of (rectangle r)) l.items

-- with the keep-out among the items a laid wire would go along a closed seam
unfoldable pub Closes : Layout → Thing → Type 0
Closes l t = Any (Seamed (t ∷ l.items)) l.items

-- the item blocks the node: a keep-out that holds one of the four cells round it, where each of them lies in one; a wire nearer than the clearance
unfoldable pub BarsNode : Layout → Sort → Node → Thing → Type 0
BarsNode l keep_outs p t = Sealed l.items (round p) × Any (Covers t) (round p)
BarsNode l wires p t = Bars l wires wires (node p) t

-- the item with the id is of the sort, and blocks the node
abbrev pub Blocking : Layout → Sort → Node → ℕ → Type 0
Blocking l of p i = Any (λ t. (id_of t ≡ i) × BarsNode l of p t) l.items

abbrev pub NoWire : Layout → Pins → Type 0
NoWire l p = (w : List Dir) → ¬ (Legal (grid_of l.size l.items) (source p) (target p) w)

-- the answered wire has the property
abbrev pub TheWire : Layout → Question → (List Dir → Type 0) → Type 0
TheWire l q P = (w : List Dir) × AnsweredIn q.mode (grid_of l.size l.items) (source q.pins) (target q.pins) w × P w

abbrev pub way : Pins → List Dir → List Node
way p w = corners (source p) w

abbrev pub TooManyRuns : Pins → List Dir → Type 0
TooManyRuns p w = most_runs < length (runs (way p w))

abbrev pub TooManyBlocks : Layout → Thing → Type 0
TooManyBlocks l t = most_blocks < block_count (t ∷ l.items)

-- ---- the order

-- the checks that a lay and an ask share
abbrev pub pin_checks : Layout → Question → List Check
pin_checks l q =
    (9 unless (OnBoard l.size (source q.pins) × OnBoard l.size (target q.pins)))
    ∷ (10 if (source q.pins ≡ target q.pins))
    ∷ (11 about 1 naming Blocking l keep_outs (source q.pins))
    ∷ (18 about 1 naming Blocking l wires (source q.pins))
    ∷ (11 about 2 naming Blocking l keep_outs (target q.pins))
    ∷ (18 about 2 naming Blocking l wires (target q.pins))
    ∷ (12 if NoWire l q.pins)
    ∷ (13 if TheWire l q (TooManyRuns q.pins))
    ∷ []

-- n numbers are lent
unfoldable pub checks : Layout → Record → ℕ → List Check
checks l Malformed n = (1 if (Unit {0})) ∷ []
checks l (Bounds s) n = (3 unless InRange s) ∷ []
checks l (KeepOut i r) n =
    (2 if BeforeBounds l)
    ∷ (4 if Used l.items i.number)
    ∷ (6 unless RectFits l.size r)
    ∷ (7 if Enters l r keep_outs)
    ∷ (8 if (Enters l r wires ⊎ Closes l (keep_out i.number r)))
    ∷ (14 if TooManyBlocks l (keep_out i.number r))
    ∷ []
checks l (Lay i q) n =
    (2 if BeforeBounds l)
    ∷ (16 if (n < least_slice))
    ∷ (4 if Used l.items i.number)
    ∷ pin_checks l q
    ++ (14 if TheWire l q (λ w. TooManyBlocks l (wire i.number (way q.pins w)))) ∷ []
checks l (Ask q) n =
    (2 if BeforeBounds l)
    ∷ (16 if (n < least_slice))
    ∷ pin_checks l q
checks l (TakeOut i) n =
    (2 if BeforeBounds l)
    ∷ (5 unless Used l.items i.number)
    ∷ []
checks l Undo n =
    (2 if BeforeBounds l)
    ∷ (15 if (l.kept ≡ []))
    ∷ []

-- ---- what an accepted record does

-- the layout with these items, and the change that made them kept: one that finds 32 kept drops the oldest
abbrev pub changed : Layout → List Thing → Turn → Layout
changed l ts c = record { size = l.size; items = ts; kept = take most_kept (c ∷ l.kept) }

abbrev pub add_to : Layout → Thing → Layout
add_to l t = changed l (add t l.items) (added t)

abbrev pub take_from : Layout → Thing → Layout
take_from l t = changed l (without (id_of t) l.items) (taken t)

-- what is told of a wire, and the layout that is left
pub record Outcome : Type 0 where
  pub long : ℕ
  pub away : ℕ
  pub turned : List Node
  pub layout : Layout

abbrev pub quiet : Layout → Outcome
quiet l = record { long = 0; away = 0; turned = []; layout = l }

abbrev pub told : Pins → List Dir → Layout → Outcome
told p w l = record { long = length w; away = detour (target p) (source p) w; turned = way p w; layout = l }

unfoldable pub Does : Layout → Record → Outcome → Type 0
Does l Malformed o = ⊥
Does l (Bounds z) o = o ≡ quiet (empty z)
Does l (KeepOut i r) o = o ≡ quiet (add_to l (keep_out i.number r))
Does l (Lay i q) o = TheWire l q (λ w. o ≡ told q.pins w (add_to l (wire i.number (way q.pins w))))
Does l (Ask q) o = TheWire l q (λ w. o ≡ told q.pins w l)
Does l (TakeOut i) o = (t : Thing) × Has l.items t × (id_of t ≡ i.number) × (o ≡ quiet (take_from l t))
Does l Undo o = (c : Turn) × (cs : List Turn) × (l.kept ≡ c ∷ cs) × (o ≡ quiet (record { size = l.size; items = undo c l.items; kept = cs }))

-- ---- the reply

-- x, y of each corner
unfoldable pub flat : List Node → List ℕ
flat [] = []
flat (p ∷ ps) = p.x ∷ p.y ∷ flat ps

-- the slice with the corners written from its start; the numbers after the last corner stay
abbrev pub written : List Node → List ℕ → List ℕ
written ps s = flat ps ++ drop (length (flat ps)) s

-- the reply's numbers, the board that it leaves, and the slice, s before and s' afterwards
pub record Tells (long away : ℕ) (turned : List Node) (b : Board) (s s' : List ℕ) (r : Reply) : Type 0 where
  pub length_is : r.length ≡ long
  pub detour_is : r.detour ≡ away
  pub corners_are : r.corners ≡ length turned
  pub board_is : r.board ≡ b
  pub slice_is : s' ≡ written turned s

-- what the reply says
abbrev pub verdict : Reply → Verdict
verdict r = named r.code r.pin r.id

-- a refusal: every number 0 but what is said, nothing written, and this board
abbrev pub Refused : Board → List ℕ → List ℕ → Reply → Type 0
Refused b s s' r = Tells 0 0 [] b s s' r

abbrev pub Accepted : Layout → Record → List ℕ → List ℕ → Reply → Type 0
Accepted l rec s s' r = (o : Outcome) × Does l rec o × Tells o.long o.away o.turned (board_of o.layout) s s' r

-- what a refused record leaves: the same layout
abbrev pub left : Layout → Layout
left l = l

pub record Replies (l : Layout) (rec : Record) (s s' : List ℕ) (r : Reply) : Type 0 where
  pub code : Gives (checks l rec (length s)) (verdict r)
  pub refused : ¬ (r.code ≡ 0) → Refused (board_of (left l)) s s' r
  pub accepted : r.code ≡ 0 → Accepted l rec s s' r

-- The whole promise: bytes fed to a board, with the slice s lent and s' in it afterwards. Code 17 comes first.
unfoldable pub Fed : Board → List ℕ → List ℕ → List ℕ → Reply → Type 0
Fed b bytes s s' r =
    ((¬ (WellFormed b)) × (verdict r ≡ plain 17) × Refused b s s' r)
    ⊎ ((l : Layout) × (rec : Record) × Holds b l × Reads bytes rec × Replies l rec s s' r)
