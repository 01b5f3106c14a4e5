-- `drawn::corners::wire_of` meets its contract: k corners stand in the arrays.
use native.Mathlib.Omega.{arith}
use Prim.Native.Nat.{ℕ, ◌≤◌, ◌+◌, ◌/◌}
use mathlib.Core.Path.{◌≡◌, refl}
use Rattle.std.specs.Prelude.{List}
use lib.ListN.{length}
use Rattle.paper.specs.Drawn.{CountFits}
use Rattle.drawn.specs.Laws.Numbers.{x_next, y_next, wire_whole}
use Rattle.drawn.proofs.corners.wire_of.Goals as goal

-- half of the numbers
half : (ns : List ℕ) → CountFits ns → let n = length ns / 2 in (length ns ≡ n + n) × (n ≤ 25) × (2 ≤ n)
half ns f = omega (arith, f.1, f.2, f.3)

pub loop-k-preserved : goal.loop-k-preserved
loop-k-preserved c =
    let h = half _ c.requires in (
      x_next _ _ h.0 h.1 _ _ c.loop-k-test.true c.loop-k.invariant.0,
      y_next _ _ h.0 h.1 _ _ c.loop-k-test.true c.loop-k.invariant.1,
    )

pub returns : goal.returns
returns c =
    let h = half _ c.requires in
    wire_whole _ _ h.0 h.1 _ c.loop-k.k c.loop-k-test.false refl refl c.loop-k.invariant.0 c.loop-k.invariant.1
