-- Seams by the rectangles of two: the grid, runs and points of wires, and the keep-outs alone.
-- The definitions and lemmas under it stand in specs/Laws/Seams.
use Rattle.std.specs.Prelude.{ℕ, ◌-◌, ◌≤◌, max, refl, ◌↔◌, ◌⊎◌}
use Rattle.std.proofs.Common.{arith}
use Rattle.std.proofs.Math.Path.{◌≡◌, ap}
use Rattle.std.proofs.Math.Logic.{inl, inr, ⊎_elim}
use mathlib.Core.List.{List, [], ◌∷◌, map}
use Rattle.paper.specs.declared.Size.{Size}
use Rattle.paper.specs.declared.Mode.{Mode}
use Rattle.paper.specs.declared.Mode.TheVariants.{Plain}
use Rattle.paper.specs.Grid.{Node, Dir, step, Axis, level, upright, Area, Meets, Block, widened, Hits, Any, All, Blocked, edge, grid_with}
use Rattle.paper.specs.Wire.{runs, Legal, Answered, AnsweredIn}
use Rattle.paper.specs.Layout.{Thing, keep_out, wire, wires, keep_outs, areas, blocks_of, blocks_to, Along, across, Turning, ThingFits, Seamed, Covers, Covered, beside, Sealed, PartOf, InSeam, grid_of}
use Rattle.paper.specs.Laws.Steps.{Least}
use Rattle.paper.specs.Laws.Opens.{legal_more, answered_alike}
use Rattle.paper.specs.Laws.Lists.{all_imp, any_imp, any_right, any_split}
use Rattle.paper.specs.Laws.Traced.{HasPoint, OpenBox}
use Rattle.paper.specs.Laws.Apart.{blocked_left}
use Rattle.paper.specs.Laws.Joins.{joins, joined, open_joined}
use Rattle.paper.specs.Laws.Cells.{Within, Filled, near, far, cells}
use Rattle.paper.proofs.Cells.{edge_in, edge_out}
use Rattle.paper.specs.Laws.Seams.{Barred, open_solid, part_blocked, solid, solid_in, solid_out}

-- ---- the keep-outs among the items

-- a run's box is widened, so the cells that blocks fill are those of keep-outs
filled_runs : (c : ℕ) (q : Node) (rs : List Area) → 1 ≤ c → ¬ (Filled (map (widened c) rs) q)
unfolding Any Within
filled_runs c q [] h f = f
filled_runs c q (r ∷ rs) h (inl f) = omega arith
filled_runs c q (r ∷ rs) h (inr f) = filled_runs c q rs h f

covered_in : (c : ℕ) (q : Node) (ts : List Thing) → 1 ≤ c → Covered ts q → Filled (blocks_to c wires ts) q
unfolding Covered Covers Any blocks_to blocks_of areas Within
covered_in c q [] h k = k
covered_in c q (keep_out i r ∷ ts) h (inl k) = inl (omega arith)
covered_in c q (keep_out i r ∷ ts) h (inr k) = inr (covered_in c q ts h k)
covered_in c q (wire i ps ∷ ts) h (inl k) = absurd k
covered_in c q (wire i ps ∷ ts) h (inr k) = any_right (Within q) (map (widened c) (runs ps)) (blocks_to c wires ts) (covered_in c q ts h k)

covered_out : (c : ℕ) (q : Node) (ts : List Thing) → 1 ≤ c → Filled (blocks_to c wires ts) q → Covered ts q
unfolding Covered Covers Any blocks_to blocks_of areas Within
covered_out c q [] h k = k
covered_out c q (keep_out i r ∷ ts) h (inl k) = inl (omega arith)
covered_out c q (keep_out i r ∷ ts) h (inr k) = inr (covered_out c q ts h k)
covered_out c q (wire i ps ∷ ts) h k =
    ⊎_elim (λ f. absurd (filled_runs c q (runs ps) h f)) (λ f. inr (covered_out c q ts h f)) (any_split (Within q) (map (widened c) (runs ps)) (blocks_to c wires ts) k)

-- ---- the grid that a wire finds is that of the blocks and their rectangles

pub open_iff : (s : Size) (ts : List Thing) (a : Axis) (p : Node) → 1 ≤ s.clearance
    → (grid_of s ts).Open a p ↔ (¬ (Blocked (joined (blocks_to s.clearance wires ts)) (edge a p)))
unfolding Sealed
open_iff s ts a p h =
    let c = s.clearance in
    let bs = blocks_to c wires ts in (
      λ o b. ⊎_elim o.0 (λ k. o.1 (all_imp _ _ (λ q. covered_out c q ts h) (beside a p) k)) (edge_out bs a p b),
      λ n. (λ b. n (blocked_left bs (joins bs) (edge a p) b), λ k. n (edge_in bs a p (all_imp _ _ (λ q. covered_in c q ts h) (beside a p) k))),
    )

pub legal_joined : (z : Size) (ts : List Thing) (s t : Node) (v : List Dir) → 1 ≤ z.clearance
    → Legal (grid_of z ts) s t v ↔ Legal (grid_with z.w z.h (joined (blocks_to z.clearance wires ts))) s t v
legal_joined z ts s t v h = (
  legal_more z.w z.h _ _ (λ a p. (open_iff z ts a p h).0) s t v,
  legal_more z.w z.h _ _ (λ a p. (open_iff z ts a p h).1) s t v,
)

pub least_joined : (z : Size) (ts : List Thing) (s t : Node) (v : List Dir) → 1 ≤ z.clearance
    → Least (grid_of z ts) s t v → Least (grid_with z.w z.h (joined (blocks_to z.clearance wires ts))) s t v
least_joined z ts s t v h a = ((legal_joined z ts s t v h).0 a.0, λ u k. a.1 u ((legal_joined z ts s t u h).1 k))

pub in_joined : (m : Mode) (z : Size) (ts : List Thing) (s t : Node) (v : List Dir) → 1 ≤ z.clearance
    → AnsweredIn m (grid_of z ts) s t v ↔ AnsweredIn m (grid_with z.w z.h (joined (blocks_to z.clearance wires ts))) s t v
in_joined m z ts s t v h = (
  answered_alike z.w z.h _ _ (λ a p. open_iff z ts a p h) s t m v,
  answered_alike z.w z.h _ _ (λ a p. let i = open_iff z ts a p h in (i.1, i.0)) s t m v,
)

pub answered_joined : (z : Size) (ts : List Thing) (s t : Node) (v : List Dir) → 1 ≤ z.clearance
    → Answered (grid_of z ts) s t v ↔ Answered (grid_with z.w z.h (joined (blocks_to z.clearance wires ts))) s t v
answered_joined = in_joined Plain

-- ---- runs

-- a run that meets a box has a unit edge that does
unit_hit : (a : Axis) (r : Area) (b : Block) → Along a r → OpenBox b → Hits b r → (p : Node) × PartOf (edge a p) r × Hits b (edge a p)
unfolding Along OpenBox HasPoint Hits Meets step
unit_hit level r b l o h =
    let u = max r.low.x (b.along_x.lo - b.along_x.c) in
    (record { x = u; y = r.low.y }, omega arith, omega arith)
unit_hit upright r b l o h =
    let u = max r.low.y (b.along_y.lo - b.along_y.c) in
    (record { x = r.low.x; y = u }, omega arith, omega arith)

unit_blocked : (bs : List Block) (a : Axis) (r : Area) → Along a r → All OpenBox bs → Blocked bs r → (p : Node) × PartOf (edge a p) r × Blocked bs (edge a p)
unfolding All Any Blocked
unit_blocked [] a r l o h = absurd h
unit_blocked (b ∷ bs) a r l o (inl h) = let u = unit_hit a r b l o.0 h in (u.0, u.1, inl u.2)
unit_blocked (b ∷ bs) a r l o (inr h) = let u = unit_blocked bs a r l o.1 h in (u.0, u.1, inr u.2)

-- the runs of a wire, by blocks and their rectangles or by cells
module _ (c : ℕ) (ts : List Thing) (some : 1 ≤ c) (a : Axis) (r : Area) where
  abbrev bs : List Block
  bs = blocks_to c wires ts

  pub run_in : InSeam ts r → Blocked (joined bs) r
  unfolding InSeam Sealed
  run_in h = part_blocked (joined bs) (edge h.0 h.1) r h.2 (edge_in bs h.0 h.1 (all_imp _ _ (λ q. covered_in c q ts some) (beside h.0 h.1) h.3))

  pub run_out : Along a r → All OpenBox (joined bs) → Blocked (joined bs) r → Blocked bs r ⊎ InSeam ts r
  unfolding InSeam Sealed
  run_out l o h =
      let u = unit_blocked (joined bs) a r l o h in
      ⊎_elim (λ k. inl (part_blocked bs (edge a u.0) r u.1 k))
      (λ k. inr (a, u.0, u.1, all_imp _ _ (λ q. covered_out c q ts some) (beside a u.0) k))
      (edge_out bs a u.0 u.2)

-- ---- the keep-outs alone

-- what goes through one has its cells on both sides
solid_through : (a : Axis) (p : Node) (ts : List Thing) → Blocked (solid ts) (edge a p) → Filled (solid ts) (near a p) × Filled (solid ts) (far a p)
unfolding Blocked Any solid Within Hits Meets step
solid_through a p [] h = absurd h
solid_through level p (keep_out i r ∷ ts) (inl h) = (inl (omega arith), inl (omega arith))
solid_through upright p (keep_out i r ∷ ts) (inl h) = (inl (omega arith), inl (omega arith))
solid_through a p (keep_out i r ∷ ts) (inr h) = let k = solid_through a p ts h in (inr k.0, inr k.1)
solid_through a p (wire i ps ∷ ts) h = solid_through a p ts h

module _ (ts : List Thing) (r : Area) where
  pub seam_in : InSeam ts r → Blocked (joined (solid ts)) r
  unfolding InSeam Sealed
  seam_in h =
      part_blocked (joined (solid ts)) (edge h.0 h.1) r h.2
      (edge_in (solid ts) h.0 h.1 (all_imp _ _ (λ q. solid_in q ts) (beside h.0 h.1) h.3))

  pub seam_out : (s : Size) (a : Axis) → All (ThingFits s) ts → Along a r → Blocked (joined (solid ts)) r → InSeam ts r
  unfolding InSeam Sealed
  seam_out s a f l h =
      let u = unit_blocked (joined (solid ts)) a r l (open_joined (solid ts) (open_solid s ts f)) h in (
        a,
        u.0,
        u.1,
        all_imp _ _ (λ q. solid_out q ts) (beside a u.0)
            (⊎_elim (λ k. (cells (Filled (solid ts)) a u.0).1 (solid_through a u.0 ts k)) (λ k. k) (edge_out (solid ts) a u.0 u.2)),
      )

-- ---- all of them, of a wire that fits

module _ (s : Size) (ts : List Thing) (f : All (ThingFits s) ts) where
  runs_out : (a : Axis) (rs : List Area) → Turning a rs → Any (Blocked (joined (solid ts))) rs → Any (InSeam ts) rs
  unfolding Any Turning
  runs_out a [] t h = h
  runs_out a (r ∷ rs) t (inl h) = inl (seam_out ts r s a f t.0 h)
  runs_out a (r ∷ rs) t (inr h) = inr (runs_out (across a) rs t.1 h)

  pub barred_in : (t : Thing) → Seamed ts t → Barred s ts f t
  unfolding Seamed
  barred_in t h = (h.0, any_imp _ _ (λ r k. seam_in ts r k) (areas t) h.1)

  pub barred_out : (t : Thing) → ThingFits s t → Barred s ts f t → Seamed ts t
  unfolding Seamed ThingFits areas
  barred_out (keep_out i r) g h = absurd (let z : ◌≡◌ {A = ℕ} 0 1 = ap (λ k. elim k [ keep_outs ↦ 0 | wires ↦ 1 ]) h.0 in omega arith)
  barred_out (wire i ps) g h =
      (refl, ⊎_elim (λ t. runs_out level (runs ps) t h.1) (λ t. runs_out upright (runs ps) t h.1) g.1.turning)
