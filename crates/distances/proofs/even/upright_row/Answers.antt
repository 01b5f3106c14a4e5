-- `distances::even::upright_row` meets its contract: all of its ways are as long.
use native.Mathlib.Omega.{arith}
use Rattle.distances.specs.Even.{slim_alike, upright_row}
use Rattle.distances.proofs.even.upright_row.Goals as goal

pub row-requires : goal.row-requires
row-requires c =
    let r = c.requires.1 in
    (c.requires.0, r.nx_few, omega (arith, r.nx_few, r.ny_few), rw c.alike-widths.ensures (slim_alike _ c.args.j _ _ _ r.wide_y c.requires.2 r.nx_few c.width.ensures))

pub returns : goal.returns
returns c =
    λ y. upright_row _ _ _ _ _ c.args.j _ c.requires.1.nx_few c.width.ensures (rw c.alike-widths.ensures at (c.row.ensures y))
