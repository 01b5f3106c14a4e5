-- `Chart::fits` meets its contract.
use Prim.Native.Nat.{◌<◌}
use mathlib.Core.Path.{subst, sym}
use native.Mathlib.Omega.{arith}
use Rattle.paper.specs.Laws.Says.{said}
use Rattle.trace.specs.Trail.{crossing}
use Rattle.trace.specs.Leading.{lands, lead_room}
use Rattle.trace.proofs.Chart.fits.Goals as goal

pub next-requires : goal.next-requires
next-requires c = lead_room _ _ c.args.self.now.charted c.args.q _ (said c.leads.ensures c.if-leads.true)

pub turns_at-requires : goal.turns_at-requires
turns_at-requires c =
    let o = lands _ _ (crossing c.args.q) _ c.requires.0 c.requires.1 (said c.leads.ensures c.if-leads.true) in
    subst (λ n. (n.x < 96) × (n.y < 96)) (sym c.next.ensures) (omega (arith, o.0, c.args.self.now.charted.nx_few), omega (arith, o.1, c.args.self.now.charted.ny_few))
