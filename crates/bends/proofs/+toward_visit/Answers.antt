-- `bends::toward` and `bends::visit` meet their contracts: at each call the distance falls, and `visit` at a crossing stands above `toward` there.
use native.Mathlib.Omega.{arith}
use mathlib.Core.Path.{ap, subst, sym, ◌∙◌}
use lib.ListN.{get_or}
use Rattle.paper.specs.Laws.Says.{said, said_not}
use Rattle.distances.specs.Ways.{map_of}
use Rattle.trace.specs.Trail.{crossing, dir_of, distance}
use Rattle.trace.specs.Leading.{lead_room, one_crossing}
use Rattle.bends.specs.Table.{Visiting}
use Rattle.bends.specs.Going.{falls}
use Rattle.bends.specs.Visiting.{visiting_on, visited_home, counting, visited_count}
use Rattle.bends.proofs.+toward_visit.Goals as goal

-- ---- toward

pub toward-next-requires : goal.toward-next-requires
toward-next-requires t c = lead_room _ _ c.args.chart.now.charted c.args.q _ (said c.leads.ensures c.if-leads.true)

pub toward-visit-requires : goal.toward-visit-requires
toward-visit-requires t c =
    let g = c.args in
    let m = map_of g.chart.now.map.now in
    let l = said c.leads.ensures c.if-leads.true in
    let e = c.next.ensures in (
      omega (arith, ap (distance g.chart.now.d.now) e, falls m g.chart.now.d.now g.chart.now.charted (crossing g.q) (dir_of g.dir) l),
      subst (λ n. Visiting m g.chart.now.d.now n (crossing g.g) g.turns.now) (sym e) (visiting_on _ _ _ _ g.chart.now.charted _ _ c.requires l),
    )

-- ---- visit

pub visit-returns-then-eq : goal.visit-returns-then-eq
visit-returns-then-eq t c =
    let g = c.args in
    rw c.write.ensures (visited_home (map_of g.chart.now.map.now) g.chart.now.d.now (crossing g.q) (crossing g.g) g.chart.now.charted _ c.requires (sym (ap (λ k. get_or g.turns.now k 0) c.place.ensures) ∙ c.if-turns-place-ne0.false)
    (said (one_crossing g.q g.g c.eq.ensures) c.if-eq.true))

pub visit-count-requires : goal.visit-count-requires
visit-count-requires t c =
    let g = c.args in
    counting (map_of g.chart.now.map.now) g.chart.now.d.now (crossing g.q) (crossing g.g) g.chart.now.charted _ _ _ _ _ c.requires (sym (ap (λ k. get_or g.turns.now k 0) c.place.ensures) ∙ c.if-turns-place-ne0.false)
    (said_not (one_crossing g.q g.g c.eq.ensures) c.if-eq.false) c.toward.ensures c.toward-2.ensures c.toward-3.ensures c.toward-4.ensures

pub visit-returns : goal.visit-returns
visit-returns t c =
    let g = c.args in
    visited_count (map_of g.chart.now.map.now) g.chart.now.d.now (crossing g.q) (crossing g.g) g.chart.now.charted _ _ _ _ _ c.requires (sym (ap (λ k. get_or g.turns.now k 0) c.place.ensures) ∙ c.if-turns-place-ne0.false)
    (said_not (one_crossing g.q g.g c.eq.ensures) c.if-eq.false) c.toward.ensures c.toward-2.ensures c.toward-3.ensures c.toward-4.ensures _ c.count.ensures
