-- `edges::met` meets its contract: each range starts and ends where the tracks pass the two sides.
use Prim.Native.Nat.{◌+◌, ◌-◌}
use native.Mathlib.Omega.{arith}
use Rattle.edges.specs.Laws.{below_as, below_on, meeting}
use Rattle.edges.proofs.met.Goals as goal

pub returns : goal.returns
returns c =
    let g = c.args in
    let t = g.tracks.now in
    let slab = below_as (g.lo - g.c) c.below-slab.ensures (omega arith) in
    let track = below_as (g.lo + 1 - g.c) c.below-track.ensures (omega arith) in
    let end = below_as (g.hi + g.c) c.below-end.ensures (omega arith) in
    let rise = c.requires.rise in (
      meeting t.at t.count g.lo g.hi g.c 1 g.lo _ _ _ rise (omega arith) slab (omega arith) end,
      meeting t.at t.count g.lo g.hi g.c 0 (g.lo + 1) _ _ _ rise (omega arith) (below_on (omega arith) slab track) track.past end,
    )
