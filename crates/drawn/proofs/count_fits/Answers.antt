-- `drawn::count_fits` meets its contract: half of an even number.
use Prim.Native.Nat.{◌/◌, ◌≤◌}
use native.Mathlib.Omega.{arith}
use borrow.Author.Rules.{rules}
use Rattle.paper.specs.Laws.Says.{Says, says_as}
use Rattle.drawn.proofs.count_fits.Goals as goal

pub returns-then-n-eq0 : goal.returns-then-n-eq0
returns-then-n-eq0 c =
    let n = c.args.n in
    let half : Says c.contains.result ((2 ≤ n / 2) × (n / 2 ≤ 25)) = search rules in
    says_as (λ h. (n / 2, h.0, h.1, omega (arith, c.if-n-eq0.true))) (λ h. omega (arith, h.1, h.2, h.3)) half
