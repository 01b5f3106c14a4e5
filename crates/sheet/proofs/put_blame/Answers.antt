-- `sheet::put_blame` meets its contract: the pin and the id, each after a space.
use Rattle.std.proofs.Common.{arith}
use Rattle.sheet.specs.Sheet.{blame_in}
use Rattle.text.specs.Laws.Written.{◌then◌, next_three, next_five, writes_none}
use Rattle.sheet.specs.Laws.Lines.{blame_told}
use Rattle.sheet.proofs.put_blame.Goals as goal

pub returns-then-pin-eq0 : goal.returns-then-pin-eq0
unfolding blame_in
returns-then-pin-eq0 c =
    (rw c.if-pin-eq0.true (writes_none c.args.buffer.now c.args.at (omega (arith, c.requires))), omega arith)

pub put_next-requires : goal.put_next-requires
put_next-requires c =
    let e = next_three c.put_next-named.ensures.0 (omega (arith, c.from.ensures, c.ranges.pin)) in
    omega (arith, e.near, e.same_length, c.requires)

pub returns : goal.returns
returns c =
    let e = next_three c.put_next-named.ensures.0 (omega (arith, c.from.ensures, c.ranges.pin))
    then next_five c.put_next.ensures.0 (omega (arith, c.from-2.ensures, c.ranges.id)) in
    (rw (blame_told c.args.pin c.args.id c.if-pin-eq0.false) (rw (c.from.ensures, c.from-2.ensures) at e.writes), e.near)
