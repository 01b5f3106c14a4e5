-- Where ways that lead nearer go, and where the numbers of a crossing stand.
-- Assumes nothing.
use Rattle.std.specs.Prelude.{ℕ, ◌+◌, ◌≤◌, ◌<◌, ◌≡◌, refl, ◌⊎◌, List}
use Rattle.std.proofs.Common.{arith, inl, inr}
use Rattle.paper.specs.Grid.{Node, Dir, E, N, W, S, step, Axis, level, upright}
use Rattle.paper.specs.Laws.Steps.{axis_of}
use Rattle.paper.specs.Laws.Says.{told}
use Rattle.paper.specs.Laws.Tests.{node_says}
use Rattle.distances.specs.Ways.{Map}
use Rattle.trace.specs.Trail.{distance, Leads, Charted}
use Rattle.trace.specs.Hops.{far_some}
use Rattle.trace.specs.Leading.{lands as on_chart}
use Rattle.trace.specs.Trail.{slot}
use Rattle.bends.specs.Table.{On, Reach, here, on, Beyond}

module _ (m : Map) (d : List ℕ) where
  pub falls : Charted m d → (q : Node) (e : Dir) → Leads m d q e → distance d (step e q) + 1 ≤ distance d q
  falls c q e l = omega (arith, l.nearer, far_some m d c q e l.clear)

  pub lands : (q : Node) (e : Dir) → On m q → Leads m d q e → On m (step e q)
  lands q e o l = let z = on_chart m d q e o.on_x o.on_y l in record { on_x = z.0; on_y = z.1 }

  pub reach_on : (q p : Node) → On m q → Reach m d q p → On m p
  reach_on q p o here = o
  reach_on q p o (on {e = e} l r) = reach_on (step e q) p (lands q e o l) r

  pub reach_near : Charted m d → (q p : Node) → Reach m d q p → distance d p ≤ distance d q
  reach_near c q p here = omega arith
  reach_near c q p (on {e = e} l r) = omega (arith, falls c q e l, reach_near c (step e q) p r)

  pub reach_more : (q p : Node) (e : Dir) → Reach m d q p → Leads m d p e → Reach m d q (step e p)
  reach_more q p e here l = on l here
  reach_more q p e (on {e = f} k r) l = on k (reach_more (step f q) p e r l)

  pub beyond_reach : (q p : Node) → Beyond m d q p → Reach m d q p
  beyond_reach q p b = on b.leads b.rest

  pub beyond_near : Charted m d → (q p : Node) → Beyond m d q p → distance d p < distance d q
  beyond_near c q p b = omega (arith, falls c q b.dir b.leads, reach_near c (step b.dir q) p b.rest)

  pub slot_in : Charted m d → (a : Axis) (q : Node) → On m q → slot a q < 18432
  slot_in c level q o = omega (arith, c.nx_few, c.ny_few, o.on_x, o.on_y)
  slot_in c upright q o = omega (arith, c.nx_few, c.ny_few, o.on_x, o.on_y)

  -- the numbers of two crossings stand apart
  pub slot_one : Charted m d → (a b : Axis) (p q : Node) → On m p → On m q → slot a p ≡ slot b q → p ≡ q
  slot_one c level level p q o r e =
      let x : p.x ≡ q.x = omega (arith, c.nx_few, o.on_x, r.on_x) in
      let y : p.y ≡ q.y = omega (arith, c.nx_few, o.on_x, r.on_x) in
      λ k. record { x = x k; y = y k }
  slot_one c upright upright p q o r e =
      let x : p.x ≡ q.x = omega (arith, c.nx_few, o.on_x, r.on_x) in
      let y : p.y ≡ q.y = omega (arith, c.nx_few, o.on_x, r.on_x) in
      λ k. record { x = x k; y = y k }
  slot_one c level upright p q o r e = absurd (omega (arith, c.nx_few, c.ny_few, o.on_x, o.on_y))
  slot_one c upright level p q o r e = absurd (omega (arith, c.nx_few, c.ny_few, r.on_x, r.on_y))

pub by_axis : (e : Dir) → (axis_of e ≡ level) ⊎ (axis_of e ≡ upright)
by_axis E = inl refl
by_axis N = inr refl
by_axis W = inl refl
by_axis S = inr refl

pub same? : (p q : Node) → Dec (p ≡ q)
same? p q = told (node_says p q)
