-- `crowdprint::put_line` meets its contract: a letter, three numbers of 10 digits at most, and the line's end.
use Prim.Native.Nat.{ℕ, ◌+◌, ◌≤◌}
use native.Mathlib.Omega.{arith}
use mathlib.Core.List.{List, [], ◌∷◌}
use Rattle.text.specs.Text.{number, byte, Writes}
use Rattle.text.specs.Laws.Written.{Reaches, reaches, ◌then◌, byte_reach}
use Rattle.sheet.specs.Sheet.{space}
use Rattle.crowdprint.proofs.put_line.Goals as goal

next : {n : ℕ} {b b' : List ℕ} {at r : ℕ} → Writes (byte space ∷ number n ∷ []) b at b' r × (r ≤ at + 11)
    → Reaches 11 (byte space ∷ number n ∷ []) b at b' r
next p = reaches p.0 p.1

pub put_next-stands-requires : goal.put_next-stands-requires
put_next-stands-requires c =
    let e = byte_reach c.put_byte-named.ensures in
    omega (arith, e.near, e.same_length, c.requires.1)

pub put_next-free-requires : goal.put_next-free-requires
put_next-free-requires c =
    let e = byte_reach c.put_byte-named.ensures then next c.put_next-stands.ensures in
    omega (arith, e.near, e.same_length, c.requires.1)

pub put_next-stretch-requires : goal.put_next-stretch-requires
put_next-stretch-requires c =
    let e = byte_reach c.put_byte-named.ensures then next c.put_next-stands.ensures then next c.put_next-free.ensures in
    omega (arith, e.near, e.same_length, c.requires.1)

pub put_byte-requires : goal.put_byte-requires
put_byte-requires c =
    let e = byte_reach c.put_byte-named.ensures then next c.put_next-stands.ensures then next c.put_next-free.ensures then next c.put_next-stretch.ensures in
    omega (arith, e.near, e.same_length, c.requires.1)

pub returns : goal.returns
returns c =
    let e = byte_reach c.put_byte-named.ensures then next c.put_next-stands.ensures then next c.put_next-free.ensures then next c.put_next-stretch.ensures
    then byte_reach c.put_byte.ensures in
    (rw (← c.from.ensures, ← c.from-2.ensures, ← c.from-3.ensures) e.writes, omega (arith, e.near))
