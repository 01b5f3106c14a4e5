-- `sheet::put_corner` meets its contract: a space, x, a colon, y.
use Rattle.std.proofs.Common.{arith}
use Rattle.sheet.specs.Sheet.{corners_in}
use Rattle.text.specs.Laws.Written.{◌then◌, byte_reach, next_five, five_digits}
use Rattle.sheet.proofs.put_corner.Goals as goal

pub put_number-requires : goal.put_number-requires
put_number-requires c =
    let e = next_five c.put_next-across.ensures.0 (omega (arith, c.from.ensures, c.ranges.x)) then byte_reach c.put_byte-parted.ensures in
    omega (arith, e.near, e.same_length, c.requires)

pub returns : goal.returns
unfolding corners_in
returns c =
    let e = next_five c.put_next-across.ensures.0 (omega (arith, c.from.ensures, c.ranges.x)) then byte_reach c.put_byte-parted.ensures
    then five_digits c.put_number.ensures (omega (arith, c.from-2.ensures, c.ranges.y)) in
    (rw (c.from.ensures, c.from-2.ensures) at e.writes, omega (arith, e.near))
