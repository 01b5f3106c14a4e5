-- Seams by the rectangles of two: the grid, runs and points of wires, and the keep-outs alone.
-- Assumes nothing.
use Rattle.std.specs.Prelude.{ℕ, zero, suc, ◌+◌, ◌*◌, ◌≤◌, ◌<◌}
use Rattle.std.proofs.Common.{arith, mul-suc}
use Rattle.std.proofs.Math.Decide.{dec_lt, dec_le}
use Rattle.std.proofs.Math.Path.{◌≡◌, ap}
use Rattle.std.proofs.Math.Logic.{inl, inr}
use mathlib.Core.List.{List, [], ◌∷◌}
use Rattle.paper.specs.declared.Size.{Size}
use Rattle.paper.specs.Grid.{Node, step, Axis, level, upright, Area, Meets, Block, widened, Hits, Any, All, Blocked}
use Rattle.paper.specs.Layout.{Thing, keep_out, wire, wires, sort_of, rectangle, areas, Along, across, Turning, ThingFits, Covers, Covered, Sealed, PartOf, InSeam}
use Rattle.paper.specs.Copper.{On, Inside}
use Rattle.paper.specs.Laws.Lists.{any_imp}
use Rattle.paper.specs.Laws.Traced.{HasPoint, OpenBox}
use Rattle.paper.specs.Laws.Joins.{joined}
use Rattle.paper.specs.Laws.Cells.{Within, Filled}

-- ---- runs

part_hit : (b : Block) (e r : Area) → PartOf e r → Hits b e → Hits b r
unfolding Hits Meets
part_hit b e r i k = omega arith

pub part_blocked : (bs : List Block) (e r : Area) → PartOf e r → Blocked bs e → Blocked bs r
unfolding Blocked
part_blocked bs e r i h = any_imp _ _ (λ b k. part_hit b e r i k) bs h

-- ---- points

-- some unit of a run has the point in it
unit_at : (k u v x : ℕ) → u < v → k * u ≤ x → x ≤ k * v → (i : ℕ) × (u ≤ i) × (i < v) × (k * i ≤ x) × (x ≤ k * suc i)
unit_at k u zero x h a b = absurd (omega arith)
unit_at k u (suc v) x h a b =
    elim (dec_le (k * v) x) [
      | yes q ↦ (v, omega arith, omega arith, q, b)
      | no q ↦ elim (dec_lt u v) [
        | yes l ↦ let r = unit_at k u v x l a (omega arith) in (r.0, r.1, omega (arith, r.2), r.3, r.4)
        | no l ↦ absurd (let e : u ≡ v = omega arith in omega (arith, ap (λ n. k * n) e))
      ]
    ]

-- a point of a run that no seam has is not inside
pub run_outside : (ts : List Thing) (a : Axis) (r : Area) (k : ℕ) (p : Node) → Along a r → On k p r → ¬ (InSeam ts r) → ¬ (Inside k p ts)
unfolding Along InSeam Sealed All step
run_outside ts level r k p l o n i =
    let u = unit_at k r.low.x r.high.x p.x l.1 o.0.0 o.0.1 in
    let y : k * suc r.low.y ≡ k * r.low.y + k = mul-suc k r.low.y in
    let x : k * suc u.0 ≡ k * u.0 + k = mul-suc k u.0 in
    let e : k * r.low.y ≡ k * r.high.y = ap (λ n. k * n) l.0 in
    n (level, record { x = u.0; y = r.low.y }, omega (arith, u.1, u.2), (i _ (omega (arith, u.3, u.4)), (i _ (omega (arith, u.3, u.4)), tt)))
run_outside ts upright r k p l o n i =
    let u = unit_at k r.low.y r.high.y p.y l.1 o.1.0 o.1.1 in
    let x : k * suc r.low.x ≡ k * r.low.x + k = mul-suc k r.low.x in
    let y : k * suc u.0 ≡ k * u.0 + k = mul-suc k u.0 in
    let e : k * r.low.x ≡ k * r.high.x = ap (λ n. k * n) l.0 in
    n (upright, record { x = r.low.x; y = u.0 }, omega (arith, u.1, u.2), (i _ (omega (arith, u.3, u.4)), (i _ (omega (arith, u.3, u.4)), tt)))

-- ---- the keep-outs alone

unfoldable pub solid : List Thing → List Block
solid [] = []
solid (keep_out i r ∷ ts) = widened 0 (rectangle r) ∷ solid ts
solid (wire i ps ∷ ts) = solid ts

pub solid_in : (q : Node) (ts : List Thing) → Covered ts q → Filled (solid ts) q
unfolding Covered Covers Any solid Within
solid_in q [] k = k
solid_in q (keep_out i r ∷ ts) (inl k) = inl (omega arith)
solid_in q (keep_out i r ∷ ts) (inr k) = inr (solid_in q ts k)
solid_in q (wire i ps ∷ ts) (inl k) = absurd k
solid_in q (wire i ps ∷ ts) (inr k) = solid_in q ts k

pub solid_out : (q : Node) (ts : List Thing) → Filled (solid ts) q → Covered ts q
unfolding Covered Covers Any solid Within
solid_out q [] k = k
solid_out q (keep_out i r ∷ ts) (inl k) = inl (omega arith)
solid_out q (keep_out i r ∷ ts) (inr k) = inr (solid_out q ts k)
solid_out q (wire i ps ∷ ts) k = inr (solid_out q ts k)

pub open_solid : (s : Size) (ts : List Thing) → All (ThingFits s) ts → All OpenBox (solid ts)
unfolding All solid ThingFits OpenBox HasPoint
open_solid s [] f = tt
open_solid s (keep_out i r ∷ ts) f = (omega (arith, f.0.1), open_solid s ts f.1)
open_solid s (wire i ps ∷ ts) f = open_solid s ts f.1

-- ---- all of them, of a wire that fits

module _ (s : Size) (ts : List Thing) (f : All (ThingFits s) ts) where
  -- the wire is blocked by keep-outs and their rectangles just where it goes along a seam
  abbrev pub Barred : Thing → Type 0
  Barred t = (sort_of t ≡ wires) × Any (Blocked (joined (solid ts))) (areas t)

-- no point of a wire that goes along no seam is inside
pub runs_outside : (ts : List Thing) (k : ℕ) (p : Node) (a : Axis) (rs : List Area) → Turning a rs → All (λ r. ¬ (InSeam ts r)) rs → Any (On k p) rs
    → ¬ (Inside k p ts)
unfolding Any All Turning
runs_outside ts k p a [] t n o = absurd o
runs_outside ts k p a (r ∷ rs) t n (inl o) = run_outside ts a r k p t.0 o n.0
runs_outside ts k p a (r ∷ rs) t n (inr o) = runs_outside ts k p (across a) rs t.1 n.1 o
