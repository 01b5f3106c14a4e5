-- `feed::quiet::may_keep_out` meets its contract: the checks one after another.
use Rattle.std.specs.Prelude.{ℕ, Bool, ◌≡◌}
use Rattle.paper.specs.declared.Rect.{Rect}
use Rattle.paper.specs.declared.Board.{Board}
use Rattle.paper.specs.Padding.{WellFormed}
use Rattle.blocks.specs.declared.Blocks.{Blocks}
use Rattle.blocks.specs.declared.Look.TheVariants.{Wires}
use Rattle.blocks.specs.Flat.{HeldOf}
use Rattle.blocks.specs.Laws.Found.{rect_place}
use Rattle.seams.specs.Seaming.{CrossesOf, HitOr}
use native.Mathlib.Omega.{arith}
use mathlib.Core.Path.{refl}
use mathlib.Core.Logic.{◌⊎◌, inl, inr}
use Rattle.paper.specs.Layout.{keep_out, keep_outs, wires, RectFits, areas, block_count}
use Rattle.paper.specs.Answer.{Gives, Enters, Closes, checks}
use Rattle.paper.specs.Laws.Back.{layout_of}
use Rattle.paper.specs.Laws.Says.{said, said_not, Says}
use Rattle.blocks.specs.Laws.Held.{held_fits, count_held}
use Rattle.blocks.specs.Laws.Board.{drawn}
use Rattle.seams.specs.Laws.Closing.{held_keeps}
use Rattle.feed.specs.Laws.Replying.{laid_now}
use Rattle.feed.specs.Feeding.{KeepOutCode}
use Rattle.feed.specs.Laws.Stopping.{hit_enters, stopped_says}
use Rattle.feed.proofs.quiet.may_keep_out.Goals as goal

-- what is said of the wires: there are bounds
along : (b : Board) → WellFormed b → (held : Blocks) → HeldOf held keep_outs (layout_of b) → ¬ (b.size.w ≡ 0) → (i : ℕ) (q : Rect) → RectFits b.size q
    → (r : Bool) → HitOr held Wires (rect_place q) (CrossesOf held held.items (rect_place q)) r
    → Says r (Enters (layout_of b) q wires ⊎ Closes (layout_of b) (keep_out i q))
unfolding layout_of
along b w held h n i q f r s = stopped_says held (layout_of b) h (laid_now b w n) i q f r s

pub returns-then-board-eq0 : goal.returns-then-board-eq0
unfolding KeepOutCode Gives checks layout_of
returns-then-board-eq0 c = λ n. inl (c.if-board-eq0.true, refl)

pub returns-then-used : goal.returns-then-used
unfolding KeepOutCode Gives checks layout_of
returns-then-used c = λ n. inr (c.if-board-eq0.false, inl (said c.used.ensures c.if-used.true, refl))

pub returns-then-not-rect_fits : goal.returns-then-not-rect_fits
unfolding KeepOutCode Gives checks layout_of
returns-then-not-rect_fits c =
    let free = said_not c.used.ensures c.if-used.false in
    λ n. inr (c.if-board-eq0.false, inr (free, inl (said_not c.rect_fits.ensures c.if-not-rect_fits.true, refl)))

pub of_board-held-requires : goal.of_board-held-requires
of_board-held-requires c = drawn _ c.requires

pub hit-requires : goal.hit-requires
hit-requires c = held_fits c.of_board-held.ensures

pub returns-then-hit : goal.returns-then-hit
unfolding KeepOutCode Gives checks layout_of
returns-then-hit c =
    let free = said_not c.used.ensures c.if-used.false in
    let fits = said c.rect_fits.ensures c.if-not-rect_fits.false in
    let hits = hit_enters _ _ c.of_board-held.ensures _ keep_outs _ c.hit.ensures in
    λ n. inr (c.if-board-eq0.false, inr (free, inr (fits, inl (said hits c.if-hit.true, refl))))

pub stopped-requires : goal.stopped-requires
stopped-requires c = held_keeps c.of_board-held.ensures

pub returns-then-stopped : goal.returns-then-stopped
unfolding KeepOutCode Gives checks layout_of
returns-then-stopped c =
    let free = said_not c.used.ensures c.if-used.false in
    let fits = said c.rect_fits.ensures c.if-not-rect_fits.false in
    let hits = hit_enters _ _ c.of_board-held.ensures _ keep_outs _ c.hit.ensures in
    let stops = along c.args.board c.requires _ c.of_board-held.ensures c.if-board-eq0.false c.args.id.number c.args.rect fits _ c.stopped.ensures in
    λ n. inr (c.if-board-eq0.false, inr (free, inr (fits, inr (said_not hits c.if-hit.false, inl (said stops c.if-stopped.true, refl)))))

pub offset_bounds-held-held : goal.offset_bounds-held-held
offset_bounds-held-held c = let h = (held_fits c.of_board-held.ensures).items_few in omega (arith, h)

pub bounds-held-held : goal.bounds-held-held
bounds-held-held c = let h = (held_fits c.of_board-held.ensures).items_few in omega (arith, h)

pub returns-then-held-ge-MOST_BLOCKS : goal.returns-then-held-ge-MOST_BLOCKS
unfolding KeepOutCode Gives checks layout_of block_count areas
returns-then-held-ge-MOST_BLOCKS c =
    let free = said_not c.used.ensures c.if-used.false in
    let fits = said c.rect_fits.ensures c.if-not-rect_fits.false in
    let hits = hit_enters _ _ c.of_board-held.ensures _ keep_outs _ c.hit.ensures in
    let stops = along c.args.board c.requires _ c.of_board-held.ensures c.if-board-eq0.false c.args.id.number c.args.rect fits _ c.stopped.ensures in
    let n = count_held c.of_board-held.ensures in
    λ _. inr (c.if-board-eq0.false, inr (free, inr (fits, inr (said_not hits c.if-hit.false, inr (said_not stops c.if-stopped.false, inl (omega (arith, n, c.if-held-ge-MOST_BLOCKS.true), refl))))))

pub returns : goal.returns
unfolding KeepOutCode Gives checks layout_of block_count areas
returns c =
    let free = said_not c.used.ensures c.if-used.false in
    let fits = said c.rect_fits.ensures c.if-not-rect_fits.false in
    let hits = hit_enters _ _ c.of_board-held.ensures _ keep_outs _ c.hit.ensures in
    let stops = along c.args.board c.requires _ c.of_board-held.ensures c.if-board-eq0.false c.args.id.number c.args.rect fits _ c.stopped.ensures in
    let n = count_held c.of_board-held.ensures in
    λ _. inr (c.if-board-eq0.false, inr (free, inr (fits, inr (said_not hits c.if-hit.false, inr (said_not stops c.if-stopped.false, inr (λ m. omega (arith, n, c.if-held-ge-MOST_BLOCKS.false, m), refl))))))
