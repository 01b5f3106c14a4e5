-- `router::tell` meets its contract: the corners, where they are few.
use mathlib.Core.Path.{◌∙◌}
use native.Mathlib.Omega.{arith}
use Rattle.distances.specs.Ways.{map_of}
use Rattle.trace.specs.Trail.{toll_of}
use Rattle.router.specs.Telling.{told_few}
use Rattle.router.proofs.tell.Goals as goal

pub returns : goal.returns
returns c =
    let g = c.args in
    let e = c.left_at-long.ensures in
    told_few (map_of g.chart.now.map.now) g.chart.now.d.now (toll_of g.turns) g.left g.s g.t g.p _ _ _ c.trace-corners.ensures
    (λ z. c.if-long-eq-NONE.false (e ∙ z)) (omega arith) _ _ (omega (arith, e)) (rw e at c.detour.ensures)
