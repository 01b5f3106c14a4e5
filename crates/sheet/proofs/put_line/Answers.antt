-- `sheet::put_line` meets its contract: the number, the code, the pin and the item, the wire and the line's end.
use Rattle.std.proofs.Common.{arith, rules, length-take-le}
use Rattle.text.specs.Laws.Written.{five_digits, next_three, reaches, ◌then◌, writes_join}
use Rattle.sheet.proofs.put_line.Goals as goal

pub put_next-coded-requires : goal.put_next-coded-requires
put_next-coded-requires c =
    let e = five_digits c.put_number-first.ensures (omega (arith, c.requires.0)) in
    omega (arith, e.near, e.same_length, c.requires.3)

pub put_blame-blamed-requires : goal.put_blame-blamed-requires
put_blame-blamed-requires c =
    let e = five_digits c.put_number-first.ensures (omega (arith, c.requires.0)) then next_three c.put_next-coded.ensures.0 (search rules) in
    omega (arith, e.near, e.same_length, c.requires.3)

pub put_wire-next-requires : goal.put_wire-next-requires
put_wire-next-requires c =
    let e = five_digits c.put_number-first.ensures (omega (arith, c.requires.0)) then next_three c.put_next-coded.ensures.0 (search rules)
    then reaches {k = 10} c.put_blame-blamed.ensures.0 c.put_blame-blamed.ensures.1 in
    (omega (arith, length-take-le _ c.args.answer.now c.requires.2, c.requires.1), omega (arith, e.near, e.same_length, c.requires.3))

pub put_byte-requires : goal.put_byte-requires
put_byte-requires c =
    let e = five_digits c.put_number-first.ensures (omega (arith, c.requires.0)) then next_three c.put_next-coded.ensures.0 (search rules)
    then reaches {k = 10} c.put_blame-blamed.ensures.0 c.put_blame-blamed.ensures.1
    then reaches {k = 322} c.put_wire-next.ensures.0 c.put_wire-next.ensures.1 in
    omega (arith, e.near, e.same_length, c.requires.3)

pub returns : goal.returns
returns c =
    rw c.from.ensures
    at (writes_join (writes_join (writes_join (writes_join c.put_number-first.ensures c.put_next-coded.ensures.0)
    c.put_blame-blamed.ensures.0) c.put_wire-next.ensures.0) c.put_byte.ensures)
