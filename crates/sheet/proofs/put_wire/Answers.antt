-- `sheet::put_wire` meets its contract: length, detour and corners, each after a space.
use Rattle.std.proofs.Common.{◌≡◌, ◌*◌, ◌≤◌, length, arith, rules}
use Rattle.text.specs.Laws.Written.{reaches, ◌then◌, next_ten, writes_none}
use Rattle.sheet.specs.Laws.Lines.{wire_none, wire_told}
use Rattle.sheet.proofs.put_wire.Goals as goal

pub returns-then-is_empty : goal.returns-then-is_empty
returns-then-is_empty c =
    let none : length c.args.corners.now ≡ 0 = search rules in
    (rw (wire_none c.args.long c.args.away c.args.corners.now none) (writes_none c.args.buffer.now c.args.at (omega (arith, c.requires.1))), omega arith)

pub returns : goal.returns
returns c =
    let some : 1 ≤ length c.args.corners.now = search rules in
    let e = next_ten c.put_next-told.ensures.0 (omega (arith, c.ranges.long)) then next_ten c.put_next-next.ensures.0 (omega (arith, c.ranges.away))
    then reaches {k = 6 * length c.args.corners.now} c.put_corners.ensures.0 c.put_corners.ensures.1 in
    (rw (wire_told c.args.long c.args.away c.args.corners.now some) e.writes, omega (arith, e.near, c.requires.0))
