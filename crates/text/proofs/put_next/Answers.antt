-- `text::put_next` meets its contract: a space, then the number, of 10 digits at most.
use native.Mathlib.Omega.{arith}
use Rattle.text.specs.Laws.Written.{◌then◌, byte_reach, ten_digits}
use Rattle.text.proofs.put_next.Goals as goal

pub put_number-requires : goal.put_number-requires
put_number-requires c =
    let e = byte_reach c.put_byte-spaced.ensures in
    omega (arith, e.near, e.same_length)

pub returns : goal.returns
returns c =
    let e = byte_reach c.put_byte-spaced.ensures then ten_digits c.put_number.ensures (omega (arith, c.ranges.n)) in
    (e.writes, omega (arith, e.near))
