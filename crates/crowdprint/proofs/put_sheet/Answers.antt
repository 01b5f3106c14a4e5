-- `crowdprint::put_sheet` meets its contract: by the code.
use native.Mathlib.Omega.{arith}
use Rattle.text.specs.Laws.Written.{◌then◌, byte_reach, ten_digits, writes_join}
use Rattle.crowdprint.specs.Laws.{shown_code, shown_lines}
use Rattle.crowdprint.proofs.put_sheet.Goals as goal

pub put_byte-requires : goal.put_byte-requires
put_byte-requires c =
    let e = ten_digits c.put_number-coded.ensures (omega arith) in
    omega (arith, e.near, e.same_length, c.requires.1)

pub returns-then-sheet-ne0 : goal.returns-then-sheet-ne0
returns-then-sheet-ne0 c =
    let g = c.args.sheet in
    let e = ten_digits c.put_number-coded.ensures (omega arith) then byte_reach c.put_byte.ensures in
    (rw (← shown_code g g.code c.if-sheet-ne0.true, ← c.from.ensures) e.writes, omega (arith, e.near))

pub returns : goal.returns
returns c =
    let g = c.args.sheet in
    let v = c.put_lines-next.ensures in
    let w = c.put_lines.ensures in
    (rw (← shown_lines g c.if-sheet-ne0.false) (writes_join v.0 w.0), omega (arith, v.1, w.1, c.requires.0))
