-- What the parts of `feed` say, in the paper's words.
-- Assumes nothing.
use Rattle.std.specs.Prelude.{ℕ, ◌+◌, ◌-◌, ◌≤◌, ◌<◌, ◌≡◌, ◌⊎◌, List, [], ◌∷◌, ◌++◌, map, length, get_or, take, Option, Some, None, Result, Ok, Err}
use Rattle.paper.specs.declared.Pins.{Pins}
use Rattle.paper.specs.declared.Question.{Question}
use Rattle.paper.specs.declared.Size.{Size}
use Rattle.paper.specs.declared.Reply.{Reply}
use Rattle.paper.specs.declared.Record.{Record}
use Rattle.paper.specs.declared.Record.TheVariants.{Bounds, KeepOut, Lay, Ask, TakeOut, Undo, Malformed}
use Rattle.paper.specs.declared.Id.{Id}
use Rattle.paper.specs.declared.Rect.{Rect}
use Rattle.paper.specs.declared.Item.{Item}
use Rattle.paper.specs.declared.Board.{Board}
use Rattle.paper.specs.declared.Verdict.{Verdict}
use Rattle.paper.specs.declared.Refusal.{Refusal}
use Rattle.paper.specs.declared.Refusal.TheVariants.{PinInKeepOut, PinNearWire, NoWire as NoWireThere, TooManyRuns as RunsTooMany}
use Rattle.paper.specs.Codes.{code_of}
use Rattle.paper.specs.Limits.{most_blocks, most_corners, least_slice}
use Rattle.paper.specs.Grid.{Node, Dir, Pairs}
use Rattle.paper.specs.Wire.{detour}
use Rattle.paper.specs.Layout.{id_of, Sort, keep_outs, wires, OnBoard, block_count, Below, Used, Layout}
use Rattle.paper.specs.Padding.{filled, no_item, board_of}
use Rattle.paper.specs.Reading.{Plain, fields_of}
use Rattle.paper.specs.Answer.{named, plain, Check, ◌if◌, ◌unless◌, ◌about◌naming◌, Gives, source, target, BeforeBounds, Blocking, TheWire, way, checks, pin_checks, add_to, written, Replies}
use Rattle.paper.specs.Laws.Back.{nodes, thing_of, layout_of}
use Rattle.paper.specs.Laws.Standing.{Standing, thing_at}
use Rattle.paper.specs.Laws.Feeds.{refusing}
use Rattle.blocks.specs.declared.Blocks.{Blocks}
use Rattle.blocks.specs.declared.Look.TheVariants.{Wires as WiresAlone}
use Rattle.blocks.specs.Flat.{FirstIs, HeldOf}
use Rattle.seams.specs.Seaming.{RoundIs}
use Rattle.items.specs.Items.{Whole}
use Rattle.router.specs.declared.Wire.{Wire as RouterWire}
use Rattle.router.specs.declared.Untold.{Untold}
use Rattle.router.specs.declared.Untold.TheVariants.{NoWire, TooManyRuns}
use Rattle.feed.specs.declared.Wired.{Wired}
use Rattle.feed.specs.declared.Blame.{Blame}
use Rattle.feed.specs.declared.wires.Stop.{Stop}
use Rattle.feed.specs.declared.wires.Stop.TheVariants.{Alone, AtPin}

-- ---- kinds

-- what is read from bytes of the kind
unfoldable pub KindIs : ℕ → Record → Type 0
KindIs k rec = (rec ≡ Malformed) ⊎ (Plain rec × ((fields_of rec).kind ≡ k))

-- the places of the enum's cases
abbrev pub place : Record → ℕ
place (Bounds s) = 0
place (KeepOut i r) = 1
place (Lay i q) = 2
place (Ask q) = 3
place (TakeOut i) = 4
place Undo = 5
place Malformed = 6

-- what is read is of the case, or malformed
unfoldable pub CaseIs : ℕ → Record → Type 0
CaseIs c rec = (rec ≡ Malformed) ⊎ (place rec ≡ c)

-- the reply, whatever slice is lent; it stays as it is
unfoldable pub Quietly : Layout → Record → Reply → Type 0
Quietly l rec r = (s : List ℕ) → Replies l rec s s r

-- ---- why a record is refused

-- the code of what a test says: 0 where it refuses nothing
abbrev pub said_code : Result (Unit {0}) Refusal → ℕ
said_code (Ok u) = 0
said_code (Err why) = code_of why

-- what is said of the pins
abbrev pub said_of : Blame → Verdict
said_of b = named (code_of b.why) b.pin b.id

-- about no pin
abbrev pub about_none : Refusal → Blame
about_none why = record { why = why; pin = 0; id = 0 }

-- why the router tells no wire
abbrev pub untold_of : Untold → Blame
untold_of NoWire = about_none NoWireThere
untold_of (TooManyRuns n) = about_none RunsTooMany

-- ---- wires

-- the first keep-out round the node, where it is all round covered; the first wire near it
unfoldable pub FirstAt : Blocks → Sort → ℕ → ℕ → Option ℕ → Type 0
FirstAt b keep_outs x y f = RoundIs b x y f
FirstAt b wires x y f = FirstIs b WiresAlone (record { x0 = x; y0 = y; x1 = x; y1 = y }) f

-- 11 with the keep-out, or else 18 with the wire; nothing where there is neither
unfoldable pub StopsPin : Blocks → ℕ → ℕ → ℕ → Result (Unit {0}) Stop → Type 0
StopsPin b x y pin (Err (Alone why)) = ⊥
StopsPin b x y pin (Err (AtPin why at i)) =
    (at ≡ pin)
    × (((why ≡ PinInKeepOut) × FirstAt b keep_outs x y (Some i))
    ⊎ ((why ≡ PinNearWire) × FirstAt b keep_outs x y None × FirstAt b wires x y (Some i)))
StopsPin b x y pin (Ok u) = FirstAt b keep_outs x y None × FirstAt b wires x y None

-- the checks of one pin
abbrev pub one_checks : Layout → ℕ → Node → List Check
one_checks l i p = (11 about i naming Blocking l keep_outs p) ∷ (18 about i naming Blocking l wires p) ∷ []

-- the checks of two pins before a wire is looked for
abbrev pub start_checks : Layout → Pins → List Check
start_checks l p =
    (9 unless (OnBoard l.size (source p) × OnBoard l.size (target p)))
    ∷ (10 if (source p ≡ target p))
    ∷ one_checks l 1 (source p)
    ++ one_checks l 2 (target p)

-- on whatever layout of the size that the blocks hold: what is said of the pins, about an item or about none
abbrev pub PinsSaid : Layout → Pins → Result (Unit {0}) Stop → Type 0
PinsSaid l p (Ok u) = Gives (start_checks l p) (plain 0)
PinsSaid l p (Err (Alone why)) = Gives (start_checks l p) (plain (code_of why))
PinsSaid l p (Err (AtPin why pin i)) = (i < length l.items) × Gives (start_checks l p) (named (code_of why) pin (id_of (thing_at l.items i)))

unfoldable pub StopsPins : Size → Blocks → Pins → Result (Unit {0}) Stop → Type 0
StopsPins s b p r = (l : Layout) → l.size ≡ s → HeldOf b wires l → Pairs Below l.items → PinsSaid l p r

-- the item has a place
abbrev pub Placed : Stop → Type 0
Placed (Alone why) = Unit {0}
Placed (AtPin why pin i) = i < most_blocks

-- with the item's id
abbrev pub blame_of : List Item → Stop → Blame
blame_of ms (Alone why) = about_none why
blame_of ms (AtPin why pin i) = record { why = why; pin = pin; id = (get_or ms i no_item).id }

-- the numbers are those of the wire that is spelled v
pub record Spelled (p : Pins) (w : RouterWire) (v : List Dir) : Type 0 where
  pub length_is : w.length ≡ length v
  pub detour_is : w.detour ≡ detour (target p) (source p) v
  pub corners_are : w.corners ≡ length (way p v)
  pub xs_are : w.xs ≡ filled 0 most_corners (map (λ q. q.x) (way p v))
  pub ys_are : w.ys ≡ filled 0 most_corners (map (λ q. q.y) (way p v))

-- a wire that may be told
pub record Told (l : Layout) (q : Question) (w : Wired) : Type 0 where
  pub said : Gives (pin_checks l q) (plain 0)
  pub blocks : w.blocks ≡ block_count l.items
  pub wire : TheWire l q (Spelled q.pins w.wire)

unfoldable pub Wires : Layout → Question → Result Wired Blame → Type 0
Wires l q (Ok w) = Told l q w
Wires l q (Err b) = Gives (pin_checks l q) (said_of b)

-- the checks of a lay and an ask before those of their pins: n numbers are lent
abbrev pub lent_checks : Layout → ℕ → List Check
lent_checks l n = (2 if BeforeBounds l) ∷ (16 if (n < least_slice)) ∷ []

-- what an ask gets of its checks
unfoldable pub AskGets : Layout → Question → ℕ → Result Wired Blame → Type 0
AskGets l q n (Ok w) = Gives (lent_checks l n) (plain 0) × Told l q w
AskGets l q n (Err b) = Gives (checks l (Ask q) n) (said_of b)

-- what a lay gets of those before its last
unfoldable pub LayGets : Layout → Id → Question → ℕ → Result Wired Blame → Type 0
LayGets l i q n (Ok w) = Gives (lent_checks l n) (plain 0) × (¬ (Used l.items i.number)) × Told l q w
LayGets l i q n (Err b) = Gives (checks l (Lay i q) n) (said_of b)

unfoldable pub KeepOutCode : Layout → Id → Rect → ℕ → Type 0
KeepOutCode l i r k = (n : ℕ) → Gives (checks l (KeepOut i r) n) (plain k)

abbrev pub wired_reply : Board → RouterWire → Reply
wired_reply b w = record { code = 0; pin = 0; id = 0; length = w.length; detour = w.detour; corners = w.corners; board = b }

abbrev pub wire_item : ℕ → RouterWire → Item
wire_item i w = record { id = i; runs = w.corners - 1; xs = w.xs; ys = w.ys }

-- a wire that may be laid if there is room: the board stands, and w tells the corners ps, two or more
pub record Laying (b : Board) (i : Id) (w : Wired) (s : List ℕ) : Type 0 where
  pub stands : Standing b
  pub lent : least_slice ≤ length s
  pub blocks : w.blocks ≡ block_count (layout_of b).items
  pub items_few : length (layout_of b).items ≤ block_count (layout_of b).items
  pub blocks_few : block_count (layout_of b).items ≤ most_blocks
  pub two : 2 ≤ w.wire.corners
  pub few : w.wire.corners ≤ most_corners
  pub whole : Whole (wire_item i.number w.wire)

-- it is laid, or there is no room
unfoldable pub Lays : Board → Id → Wired → List ℕ → List ℕ → Reply → Type 0
Lays b i w s s' r =
    ((most_blocks < w.blocks + (w.wire.corners - 1)) × (r ≡ refusing (plain 14) b) × (s' ≡ s))
    ⊎ ((w.blocks + (w.wire.corners - 1) ≤ most_blocks)
    × (r ≡ wired_reply (board_of (add_to (layout_of b) (thing_of (wire_item i.number w.wire)))) w.wire)
    × (s' ≡ written (take w.wire.corners (nodes w.wire.xs w.wire.ys)) s))
