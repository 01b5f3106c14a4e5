-- `trace::trace` meets its contract: the distance still to go falls at each call.
use mathlib.Core.Path.{◌≡◌, ap, subst, sym, ◌∙◌}
use Prim.Native.Nat.{ℕ, ◌+◌, ◌≤◌, ◌<◌}
use native.Mathlib.Omega.{arith}
use borrow.Author.Rules.{rules}
use borrow.Author.Tests.{tests}
use Rattle.std.specs.Prelude.{Option, Some, List}
use Rattle.paper.specs.Grid.{Node, Dir, step}
use Rattle.paper.specs.Laws.Says.{said, said_not}
use Rattle.paper.specs.Laws.Steps.{axis_of}
use Rattle.distances.specs.Ways.{Map, map_of}
use Rattle.tracks.specs.declared.At.{At}
use Rattle.trace.specs.Trail.{crossing, dir_of, way_of, distance, Toll, toll_of, dues, FirstWay, Charted}
use Rattle.trace.specs.Leading.{lands, lead_room, one_crossing}
use Rattle.trace.specs.Tracing.{leads as way_leads, falls as way_falls, traced_home, traced_stuck, traced_on, traced_at}
use Rattle.trace.proofs.First.{way_one}
use Rattle.trace.proofs.+trace.Goals as goal

-- where the direction leads: on the chart, and nearer
landed : (m : Map) (d : List ℕ) (o : Toll) (came : Option Dir) (left : ℕ) → Charted m d → {q : Node} (e : Dir) {to : At} → q.x < m.nx → q.y < m.ny
    → FirstWay m d o came left q (Some e) → crossing to ≡ step e q
    → (to.i < m.nx) × (to.j < m.ny) × (distance d (crossing to) + 1 ≤ distance d q)
landed m d o came left charted {q = q} e x y f z =
    let l = lands m d q e x y (way_leads m d o came left charted q e f) in
    let at = subst (λ n. (n.x < m.nx) × (n.y < m.ny)) (sym z) l in
    (at.0, at.1, subst (λ n. distance d n + 1 ≤ distance d q) (sym z) (way_falls m d o came left charted q e f))

pub returns-then-eq : goal.returns-then-eq
returns-then-eq t c =
    let g = c.args in
    let p = c.requires in
    let w = c.write.ensures in
    rw (w.xs, w.ys) (traced_home (map_of g.chart.now.map.now) g.chart.now.d.now (toll_of g.turns.now) (crossing g.g) (crossing g.q) (way_of g.came) g.left g.at _ _ c.args.chart.now.charted p.home (said (one_crossing g.q g.g c.eq.ensures) c.if-eq.true))

pub returns-in_default : goal.returns-in_default
returns-in_default t c =
    let g = c.args in
    traced_stuck (map_of g.chart.now.map.now) g.chart.now.d.now (toll_of g.turns.now) (crossing g.g) (crossing g.q) (way_of g.came) g.left g.at _ _ (said_not (one_crossing g.q g.g c.eq.ensures) c.if-eq.false)
    c.in_default.ensures

pub next-to-requires : goal.next-to-requires
next-to-requires t c =
    let g = c.args in
    lead_room _ _ c.args.chart.now.charted g.q _ (way_leads _ _ (toll_of g.turns.now) (way_of g.came) g.left c.args.chart.now.charted (crossing g.q) _ c.in-Some.ensures)

pub left_at-ahead-requires : goal.left_at-ahead-requires
left_at-ahead-requires t c =
    let p = c.requires in
    let l = landed _ _ _ _ _ c.args.chart.now.charted _ p.q_x p.q_y c.in-Some.ensures c.next-to.ensures in
    (omega (arith, l.0, c.args.chart.now.charted.nx_few), omega (arith, l.1, c.args.chart.now.charted.ny_few))

pub due-rest-requires : goal.due-rest-requires
due-rest-requires t c =
    let p = c.requires in
    let l = landed _ _ _ _ _ c.args.chart.now.charted _ p.q_x p.q_y c.in-Some.ensures c.next-to.ensures in
    (omega (arith, l.0, c.args.chart.now.charted.nx_few), omega (arith, l.1, c.args.chart.now.charted.ny_few))

pub trace-requires : goal.trace-requires
trace-requires t c =
    let p = c.requires in
    let l = landed _ _ _ _ _ c.args.chart.now.charted _ p.q_x p.q_y c.in-Some.ensures c.next-to.ensures in
    let e = c.left_at-ahead.ensures in (
      omega (arith, e, l.2, p.left),
      record { q_x = l.0; q_y = l.1; home = p.home; left = e; at_few = omega (arith, e, l.2, p.left, p.at_few) },
    )

pub returns-then-eq-2 : goal.returns-then-eq-2
returns-then-eq-2 t c =
    let g = c.args in
    let p = c.requires in
    let e = dir_of c.in-Some.dir in
    let o = toll_of g.turns.now in
    let same : g.came ≡ Some c.in-Some.dir = search (rules, tests) in
    traced_on (map_of g.chart.now.map.now) g.chart.now.d.now o (crossing g.g) (crossing g.q) (way_of g.came) g.left g.at _ _ c.args.chart.now.charted (said_not (one_crossing g.q g.g c.eq.ensures) c.if-eq.false) e
    c.in-Some.ensures _ _ _ (ap way_of same) (rw (c.next-to.ensures, c.due-rest.ensures ∙ ap (dues o.price o.table (axis_of e)) c.next-to.ensures, ap way_of same) at c.trace.ensures)

pub trace-requires-2 : goal.trace-requires-2
trace-requires-2 t c =
    let p = c.requires in
    let l = landed _ _ _ _ _ c.args.chart.now.charted _ p.q_x p.q_y c.in-Some.ensures c.next-to.ensures in
    let e = c.left_at-ahead.ensures in (
      omega (arith, e, l.2, p.left),
      record { q_x = l.0; q_y = l.1; home = p.home; left = e; at_few = omega (arith, e, l.2, p.left, p.at_few) },
    )

pub returns : goal.returns
returns t c =
    let g = c.args in
    let p = c.requires in
    let w = c.write-2.ensures in
    let e = dir_of c.in-Some.dir in
    let o = toll_of g.turns.now in
    let other : ¬ (g.came ≡ Some c.in-Some.dir) = λ z. search (rules, tests) in
    traced_at (map_of g.chart.now.map.now) g.chart.now.d.now o (crossing g.g) (crossing g.q) (way_of g.came) g.left g.at _ _ c.args.chart.now.charted (said_not (one_crossing g.q g.g c.eq.ensures) c.if-eq.false) e
    c.in-Some.ensures _ _ _ (λ z. other (way_one g.came c.in-Some.dir z))
    (rw (c.next-to.ensures, c.due-rest.ensures ∙ ap (dues o.price o.table (axis_of e)) c.next-to.ensures, w.xs, w.ys) at c.trace-2.ensures)
