-- `drawn::excess_of` meets its contract: refused by the first check that applies, or by how much it exceeds what the router tells.
use Rattle.std.specs.Prelude.{Result, List}
use Prim.Native.Nat.{ℕ, ◌+◌, ◌-◌, ◌/◌, ◌≤◌}
use native.Mathlib.Omega.{arith}
use mathlib.Core.Path.{◌≡◌, refl}
use lib.ListN.{length}
use borrow.Author.Rules.{rules}
use Rattle.paper.specs.declared.Board.{Board}
use Rattle.paper.specs.declared.Item.{Item}
use Rattle.paper.specs.Layout.{wire, wires, Laid}
use Rattle.paper.specs.Padding.{WellFormed, item_of}
use Rattle.paper.specs.Answer.{Gives, BeforeBounds}
use Rattle.paper.specs.Drawn.{drawn, CountFits, corner_checks}
use Rattle.paper.specs.Laws.Back.{layout_of, well_formed}
use Rattle.paper.specs.Laws.Next.{laid}
use Rattle.paper.specs.Laws.Says.{said, said_not}
use Rattle.blocks.specs.declared.Blocks.{Blocks}
use Rattle.blocks.specs.Flat.{HeldOf}
use Rattle.blocks.specs.Laws.Board.{drawn as drawn-board}
use Rattle.paper.specs.declared.Refusal.{Refusal}
use Rattle.shapes.specs.declared.Fault.{Fault}
use Rattle.shapes.specs.Faults.{fault_of}
use Rattle.places.specs.Placing.{AllSay}
use Rattle.drawn.specs.Laws.Judging.{before_bounds, ill_counted, faulty, faultless, accepted, drawn_says, drawn_asks, drawn_exceeds}
use Rattle.drawn.proofs.excess_of.Goals as goal

-- what is known once the board has bounds
some-bounds : (b : Board) → ¬ (b.size.w ≡ 0) → ¬ (BeforeBounds (layout_of b))
unfolding layout_of
some-bounds b n = n

now-laid : (b : Board) → WellFormed b → ¬ (b.size.w ≡ 0) → Laid (layout_of b)
now-laid b w n = laid _ (well_formed _ w).sound (some-bounds b n)

-- the numbers are two for each run, and two more
runs-few : (ns : List ℕ) → CountFits ns → let n = length ns / 2 - 1 in (length ns ≡ (n + 1) + (n + 1)) × (1 ≤ n) × (n ≤ 24)
runs-few ns f = omega (arith, f.1, f.2, f.3)

says : (b : Board) (ns : List ℕ) (held : Blocks) (m : Item) (f : Result (Unit {0}) (Fault Refusal)) → CountFits ns → Laid (layout_of b) → m ≡ item_of (wire 0 (drawn ns))
    → HeldOf held wires (layout_of b) → AllSay b.size held m (length ns / 2 - 1) f → Gives (corner_checks (layout_of b) (drawn ns)) (fault_of f)
unfolding layout_of
says b ns held m f fits L made h a =
    let r = runs-few ns fits in drawn_says held (layout_of b) ns m (length ns / 2 - 1) made r.0 r.1 r.2 h L f a

pub returns-then-board-eq0 : goal.returns-then-board-eq0
unfolding layout_of
returns-then-board-eq0 c = before_bounds _ _ c.if-board-eq0.true _ c.from.ensures

pub returns-then-not-count_fits : goal.returns-then-not-count_fits
returns-then-not-count_fits c =
    ill_counted _ _ (some-bounds c.args.board c.if-board-eq0.false) (said_not c.count_fits.ensures c.if-not-count_fits.true) _ c.from-then-not-count_fits.ensures

pub wire_of-item-requires : goal.wire_of-item-requires
wire_of-item-requires c = said c.count_fits.ensures c.if-not-count_fits.false

pub overflow_sub-n : goal.overflow_sub-n
overflow_sub-n c = let f = said c.count_fits.ensures c.if-not-count_fits.false in omega (arith, f.1, f.3)

pub of_board-held-requires : goal.of_board-held-requires
of_board-held-requires c = drawn-board _ c.requires

pub fault_of-requires : goal.fault_of-requires
unfolding layout_of
fault_of-requires c =
    let f = said c.count_fits.ensures c.if-not-count_fits.false in
    ((layout_of c.args.board, refl, c.of_board-held.ensures, (now-laid c.args.board c.requires c.if-board-eq0.false).fits.two.each), omega (arith, f.2, f.3))

pub returns-in_err-fault_of : goal.returns-in_err-fault_of
returns-in_err-fault_of c =
    let f = said c.count_fits.ensures c.if-not-count_fits.false in
    let s = says c.args.board _ _ _ _ f (now-laid c.args.board c.requires c.if-board-eq0.false) c.wire_of-item.ensures c.of_board-held.ensures c.in_err-fault_of.ensures in
    faulty _ _ (some-bounds c.args.board c.if-board-eq0.false) f _ s _ (search rules)

pub pins_of-requires : goal.pins_of-requires
pins_of-requires c = let f = said c.count_fits.ensures c.if-not-count_fits.false in omega (arith, f.2, f.3)

pub long-requires : goal.long-requires
long-requires c = let f = said c.count_fits.ensures c.if-not-count_fits.false in omega (arith, f.2, f.3)

pub excess-requires : goal.excess-requires
unfolding layout_of
excess-requires c =
    let f = said c.count_fits.ensures c.if-not-count_fits.false in
    let r = runs-few _ f in
    let L = now-laid c.args.board c.requires c.if-board-eq0.false in
    let s = says c.args.board _ _ _ _ f L c.wire_of-item.ensures c.of_board-held.ensures c.in_ok-fault_of.ensures in
    drawn_asks _ (layout_of c.args.board) _ _ _ c.wire_of-item.ensures r.0 r.1 r.2 c.of_board-held.ensures L _ c.pins_of.ensures _ c.long.ensures
    (faultless _ _ s)

pub returns : goal.returns
unfolding layout_of
returns c =
    let f = said c.count_fits.ensures c.if-not-count_fits.false in
    let r = runs-few _ f in
    let L = now-laid c.args.board c.requires c.if-board-eq0.false in
    let s = says c.args.board _ _ _ _ f L c.wire_of-item.ensures c.of_board-held.ensures c.in_ok-fault_of.ensures in
    accepted (layout_of c.args.board) _ (some-bounds c.args.board c.if-board-eq0.false) f s _
    (drawn_exceeds _ (layout_of c.args.board) _ _ _ c.wire_of-item.ensures r.0 r.1 r.2 c.of_board-held.ensures L _ c.pins_of.ensures _ c.long.ensures _ c.excess.ensures)
