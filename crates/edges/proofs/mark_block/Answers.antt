-- `edges::mark_block` meets its contract: the ranges that the block meets, marked on each table.
use Rattle.std.proofs.Common.{refl}
use Rattle.paper.specs.Grid.{level, upright, widened}
use Rattle.blocks.specs.Flat.{place_area}
use Rattle.edges.specs.Shut.{added}
use Rattle.edges.proofs.mark_block.Goals as goal

pub returns : goal.returns
returns c =
    let g = c.args in
    let m = g.map.now in
    let b = widened g.c (place_area g.p) in
    let x = c.met-x.ensures in
    let y = c.met-y.ensures in
    record {
      x_kept = refl;
      y_kept = refl;
      level_ways = added level b m.x.at m.y.at _ _ m.x.count m.y.count _ _ c.requires.x.few x.0 y.1 c.mark.ensures;
      upright_ways = added upright b m.x.at m.y.at _ _ m.x.count m.y.count _ _ c.requires.x.few x.1 y.0 c.mark-2.ensures;
    }
