-- `crowding::of_board` meets its contract: the tracks of each axis with no further coordinate, then their edges.
use Rattle.std.proofs.Common.{◌≡◌, refl, inl, inr, arith}
use Rattle.paper.specs.declared.Board.{Board}
use Rattle.paper.specs.Layout.{InRange}
use Rattle.paper.specs.Padding.{WellFormed}
use Rattle.paper.specs.Laws.Back.{layout_of, well_formed}
use Rattle.paper.specs.Laws.Next.{laid}
use Rattle.paper.proofs.Seams.{open_iff}
use Rattle.blocks.specs.Laws.Board.{drawn}
use Rattle.blocks.specs.Laws.Held.{held_fits, flat_held}
use Rattle.crowding.specs.Crowding.{IndexOf}
use Rattle.crowding.specs.Laws.Opened.{built_alike}
use Rattle.crowding.proofs.of_board.Goals as goal

-- a board after bounds has a width and a height
range : (b : Board) → WellFormed b → ¬ (b.size.w ≡ 0) → InRange b.size
unfolding layout_of
range b w n = (laid (layout_of b) (well_formed b w).sound n).range

pub returns-then-size-eq0 : goal.returns-then-size-eq0
unfolding IndexOf layout_of
returns-then-size-eq0 c = inl (c.if-size-eq0.true, c.no_index.ensures)

pub of_board-held-requires : goal.of_board-held-requires
of_board-held-requires c = drawn _ c.requires

pub offset_bounds-held-held : goal.offset_bounds-held-held
offset_bounds-held-held c = omega (arith, (held_fits c.of_board-held.ensures).items_few)

pub bounds-held-held : goal.bounds-held-held
bounds-held-held c = omega (arith, (held_fits c.of_board-held.ensures).items_few)

pub of_axis-x-requires : goal.of_axis-x-requires
of_axis-x-requires c = ((held_fits c.of_board-held.ensures).ends_few _ (omega arith), omega arith)

pub of_axis-y-requires : goal.of_axis-y-requires
of_axis-y-requires c = ((held_fits c.of_board-held.ensures).ends_few _ (omega arith), omega arith)

pub on_tracks-requires : goal.on_tracks-requires
on_tracks-requires c =
    let z = range c.args.board c.requires c.if-size-eq0.false in
    record {
      wide = z.0.0;
      high = z.1.0;
      fits = held_fits c.of_board-held.ensures;
      on_x = c.of_axis-x.ensures;
      on_y = c.of_axis-y.ensures;
    }

-- by seams as rectangles the open edges are those of the layout
pub returns : goal.returns
unfolding IndexOf layout_of
returns c =
    let l = layout_of c.args.board in
    let some = (range c.args.board c.requires c.if-size-eq0.false).2.0 in
    inr (
      c.if-size-eq0.false,
      built_alike refl refl (λ a p. let o = open_iff l.size l.items a p some in (o.1, o.0))
          (rw (flat_held c.of_board-held.ensures) at c.on_tracks.ensures),
    )
