-- A way from crossing to crossing, step by step: where it ends, and which corners it has.
-- Assumes nothing.
use Prim.Native.Nat.{ℕ, zero, suc, pred, ◌+◌, ◌-◌, ◌≤◌, ◌<◌}
use native.Mathlib.Omega.{arith}
use Rattle.std.specs.Prelude.{◌≡◌, true, false, Option, Some, None, List, [], ◌∷◌, ◌++◌, replicate, eqb}
use Rattle.std.proofs.Math.Path.{refl, ap}
use Rattle.std.proofs.Common.{◌∙◌, ne_eqb}
use Rattle.std.proofs.Math.ListN.{get_or}
use Rattle.paper.specs.Grid.{Node, Dir, E, N, W, S, rank, step, Edge, Free}
use Rattle.paper.specs.Wire.{turns, corners}
use Rattle.paper.specs.Laws.Least.{rank_inj}
use Rattle.paper.specs.Laws.Traced.{turns_on, turns_at}
use Rattle.distances.specs.Ways.{Map}
use Rattle.trace.specs.Trail.{chart, spot, far, Charted, corners_from}

unfoldable pub hop : Dir → ℕ → Node → Node
hop e zero p = p
hop e (suc k) p = hop e k (step e p)

-- ---- where it ends

hop_east : (k : ℕ) (p : Node) → hop E k p ≡ record { x = p.x + k; y = p.y }
unfolding hop step
hop_east zero p = let e : p.x ≡ p.x + 0 = omega arith in λ i. record { x = e i; y = p.y }
hop_east (suc k) p = let e : suc p.x + k ≡ p.x + suc k = omega arith in hop_east k (step E p) ∙ (λ i. record { x = e i; y = p.y })

hop_north : (k : ℕ) (p : Node) → hop N k p ≡ record { x = p.x; y = p.y + k }
unfolding hop step
hop_north zero p = let e : p.y ≡ p.y + 0 = omega arith in λ i. record { x = p.x; y = e i }
hop_north (suc k) p = let e : suc p.y + k ≡ p.y + suc k = omega arith in hop_north k (step N p) ∙ (λ i. record { x = p.x; y = e i })

hop_west : (k : ℕ) (p : Node) → hop W k p ≡ record { x = p.x - k; y = p.y }
unfolding hop step
hop_west zero p = let e : p.x ≡ p.x - 0 = omega arith in λ i. record { x = e i; y = p.y }
hop_west (suc k) p = let e : pred p.x - k ≡ p.x - suc k = omega arith in hop_west k (step W p) ∙ (λ i. record { x = e i; y = p.y })

hop_south : (k : ℕ) (p : Node) → hop S k p ≡ record { x = p.x; y = p.y - k }
unfolding hop step
hop_south zero p = let e : p.y ≡ p.y - 0 = omega arith in λ i. record { x = p.x; y = e i }
hop_south (suc k) p = let e : pred p.y - k ≡ p.y - suc k = omega arith in hop_south k (step S p) ∙ (λ i. record { x = p.x; y = e i })

-- the way in the direction ends at the next crossing, a step further at the least
module _ (m : Map) (d : List ℕ) (c : Charted m d) (q : Node) where
  pub far_some : (e : Dir) → Free (chart m) q e → 1 ≤ far m e q
  unfolding Free Edge far step
  far_some E f = omega (arith, c.wide_x.rise q.x f.0)
  far_some N f = omega (arith, c.wide_y.rise q.y f.1)
  far_some W f =
      let z : pred q.x + 1 ≡ q.x = omega (arith, f.0) in
      let w : get_or m.xs (pred q.x) 0 < get_or m.xs q.x 0 = rw z at (c.wide_x.rise (pred q.x) f.1.0) in
      omega arith
  far_some S f =
      let z : pred q.y + 1 ≡ q.y = omega (arith, f.0) in
      let w : get_or m.ys (pred q.y) 0 < get_or m.ys q.y 0 = rw z at (c.wide_y.rise (pred q.y) f.1.1) in
      omega arith

  pub hop_spot : (e : Dir) → Free (chart m) q e → hop e (far m e q) (spot m q) ≡ spot m (step e q)
  unfolding Free Edge far step
  hop_spot E f =
      let z : q.x + 1 ≡ suc q.x = omega arith in
      let w : get_or m.xs q.x 0 + (get_or m.xs (q.x + 1) 0 - get_or m.xs q.x 0) ≡ get_or m.xs (suc q.x) 0
      = let v : get_or m.xs (q.x + 1) 0 ≡ get_or m.xs (suc q.x) 0 = ap (λ k. get_or m.xs k 0) z in omega (arith, c.wide_x.rise q.x f.0) in
      hop_east _ (spot m q) ∙ (λ i. record { x = w i; y = get_or m.ys q.y 0 })
  hop_spot N f =
      let z : q.y + 1 ≡ suc q.y = omega arith in
      let w : get_or m.ys q.y 0 + (get_or m.ys (q.y + 1) 0 - get_or m.ys q.y 0) ≡ get_or m.ys (suc q.y) 0
      = let v : get_or m.ys (q.y + 1) 0 ≡ get_or m.ys (suc q.y) 0 = ap (λ k. get_or m.ys k 0) z in omega (arith, c.wide_y.rise q.y f.1) in
      hop_north _ (spot m q) ∙ (λ i. record { x = get_or m.xs q.x 0; y = w i })
  hop_spot W f =
      let w : get_or m.xs q.x 0 - (get_or m.xs q.x 0 - get_or m.xs (pred q.x) 0) ≡ get_or m.xs (pred q.x) 0
      = let h : 1 ≤ get_or m.xs q.x 0 - get_or m.xs (pred q.x) 0 = far_some W f in omega arith in
      hop_west _ (spot m q) ∙ (λ i. record { x = w i; y = get_or m.ys q.y 0 })
  hop_spot S f =
      let w : get_or m.ys q.y 0 - (get_or m.ys q.y 0 - get_or m.ys (pred q.y) 0) ≡ get_or m.ys (pred q.y) 0
      = let h : 1 ≤ get_or m.ys q.y 0 - get_or m.ys (pred q.y) 0 = far_some S f in omega arith in
      hop_south _ (spot m q) ∙ (λ i. record { x = get_or m.xs q.x 0; y = w i })

-- ---- its corners

rank_same : (e : Dir) → eqb (rank e) (rank e) ≡ true
rank_same E = refl
rank_same N = refl
rank_same W = refl
rank_same S = refl

-- straight on there are none
turns_run : (e : Dir) (k : ℕ) (p : Node) (rest : List Dir) → turns e p (replicate k e ++ rest) ≡ turns e (hop e k p) rest
unfolding hop
turns_run e zero p rest = refl
turns_run e (suc k) p rest = turns_on e e p (replicate k e ++ rest) (rank_same e) ∙ turns_run e k (step e p) rest

-- a run that begins at p and ends at r
module _ (e : Dir) (k : ℕ) (p r : Node) (rest : List Dir) (some : 1 ≤ k) (ends : hop e k p ≡ r) where
  begun : (k : ℕ) → 1 ≤ k → hop e k p ≡ r → (w : List Dir) × (replicate k e ++ rest ≡ e ∷ w) × (turns e (step e p) w ≡ turns e r rest)
  unfolding hop
  begun zero h z = absurd (omega arith)
  begun (suc k) h z = (replicate k e ++ rest, refl, turns_run e k (step e p) rest ∙ ap (λ n. turns e n rest) z)

  run_first : corners p (replicate k e ++ rest) ≡ p ∷ turns e r rest
  unfolding corners
  run_first = let b = begun k some ends in ap (corners p) b.1 ∙ ap (λ ns. p ∷ ns) b.2

  run_on : (d : Dir) → eqb (rank d) (rank e) ≡ true → turns d p (replicate k e ++ rest) ≡ turns e r rest
  run_on d h = let b = begun k some ends in ap (turns d p) b.1 ∙ turns_on d e p b.0 h ∙ b.2

  run_at : (d : Dir) → eqb (rank d) (rank e) ≡ false → turns d p (replicate k e ++ rest) ≡ p ∷ turns e r rest
  run_at d h = let b = begun k some ends in ap (turns d p) b.1 ∙ turns_at d e p b.0 h ∙ ap (λ ns. p ∷ ns) b.2

-- ---- the same from a direction, or from where the wire begins

pub from_start : (p : Node) (v : List Dir) → corners_from None p v ≡ corners p v
unfolding corners_from
from_start p v = refl

pub from_end : (came : Option Dir) (p : Node) → corners_from came p [] ≡ p ∷ []
unfolding corners_from turns corners
from_end None p = refl
from_end (Some e) p = refl

module _ (e : Dir) (n : ℕ) (p r : Node) (rest : List Dir) (some : 1 ≤ n) (ends : hop e n p ≡ r) where
  -- straight on
  pub corner_on : corners_from (Some e) p (replicate n e ++ rest) ≡ corners_from (Some e) r rest
  unfolding corners_from
  corner_on = run_on e n p r rest some ends e (rank_same e)

  -- at a turn, or where the wire begins
  pub corner_at_lem : (came : Option Dir) → ¬ (came ≡ Some e) → corners_from came p (replicate n e ++ rest) ≡ p ∷ corners_from (Some e) r rest
  unfolding corners_from
  corner_at_lem None ne = run_first e n p r rest some ends
  corner_at_lem (Some f) ne = run_at e n p r rest some ends f (ne_eqb _ _ (λ z. ne (ap Some (rank_inj f e z))))
