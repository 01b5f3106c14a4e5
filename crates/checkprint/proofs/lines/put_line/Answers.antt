-- `checkprint::lines::put_line` meets its contract: the number, the code, what stands after it, and the line's end.
use native.Mathlib.Omega.{arith}
use Rattle.text.specs.Laws.Written.{reaches, ◌then◌, five_digits, writes_join}
use Rattle.checkprint.proofs.lines.put_line.Goals as goal

pub put_next-coded-requires : goal.put_next-coded-requires
put_next-coded-requires c =
    let e = five_digits c.put_number-first.ensures (omega (arith, c.requires.0)) in
    omega (arith, e.near, e.same_length, c.requires.1)

pub put_told-told-requires : goal.put_told-told-requires
put_told-told-requires c =
    let e = five_digits c.put_number-first.ensures (omega (arith, c.requires.0)) then reaches {k = 11} c.put_next-coded.ensures.0 c.put_next-coded.ensures.1 in
    omega (arith, e.near, e.same_length, c.requires.1)

pub put_byte-requires : goal.put_byte-requires
put_byte-requires c =
    let e = five_digits c.put_number-first.ensures (omega (arith, c.requires.0)) then reaches {k = 11} c.put_next-coded.ensures.0 c.put_next-coded.ensures.1
    then reaches {k = 11} c.put_told-told.ensures.0 c.put_told-told.ensures.1 in
    omega (arith, e.near, e.same_length, c.requires.1)

pub returns : goal.returns
returns c =
    let coded = rw c.from.ensures at c.put_next-coded.ensures.0 in
    writes_join (writes_join (writes_join c.put_number-first.ensures coded) c.put_told-told.ensures.0) c.put_byte.ensures
