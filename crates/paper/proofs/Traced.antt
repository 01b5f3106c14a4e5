-- The corners of an answered wire are those of a wire that may lie: runs along the axes, each across the one before, on the board,
-- and blocked nowhere.
-- The definitions and lemmas under it stand in specs/Laws/Traced.
use Rattle.std.specs.Prelude.{ℕ, ◌+◌, ◌≤◌, min, max, ◌≡◌, refl, ◌⊎◌, length}
use native.Mathlib.Omega.{arith}
use Rattle.std.proofs.Math.Decide.{dec_lt}
use Rattle.std.proofs.Common.{sym, ◌∙◌, inl, inr}
use Rattle.std.proofs.Math.Path.{subst}
use Rattle.std.proofs.Math.Logic.{⊎_elim}
use mathlib.Core.List.{List, [], ◌∷◌, map}
use Rattle.paper.specs.declared.Size.{Size}
use Rattle.paper.specs.Limits.{most_runs}
use Rattle.paper.specs.Grid.{Node, Dir, E, N, W, S, step, level, upright, Grid, Edge, Free, Area, Span, Meets, Block, widened, Hits, Any, All, Blocked, edge, grid_with}
use Rattle.paper.specs.Wire.{Legal, turns, corners, between, runs}
use Rattle.paper.specs.Layout.{Thing, keep_out, wire, wires, areas, blocks_of, blocks_to, Along, Turning, last_of, EndsDiffer, WireFits, ThingFits}
use Rattle.paper.specs.Laws.Lists.{all_join}
use Rattle.paper.specs.Laws.Back.{length_runs}
use Rattle.paper.specs.Laws.Steps.{axis_of, onward, west, south, Inside, free_inside, Forward, forward, Least}
use Rattle.paper.specs.Laws.Traced.{HasPoint, OpenBox, Passed, Straight, either, on_or_not, straight_first, turns_at, turns_on}

-- ---- a run of two parts is blocked where one of its parts is

Within : ℕ → ℕ → ℕ → Type 0
Within a p e = ((a ≤ p) × (p ≤ e)) ⊎ ((e ≤ p) × (p ≤ a))

meets_part : (s : Span) (a p e : ℕ) → HasPoint s → Within a p e → Meets s (min a e) (max a e) → Meets s (min a p) (max a p) ⊎ Meets s (min p e) (max p e)
unfolding HasPoint Meets Within
meets_part s a p e o (inl b) m = elim (dec_lt s.lo (p + s.c)) [ yes k ↦ inl (omega arith) | no k ↦ inr (omega arith) ]
meets_part s a p e o (inr b) m = elim (dec_lt s.lo (p + s.c)) [ yes k ↦ inr (omega arith) | no k ↦ inl (omega arith) ]

-- p lies on the way from q to e along an axis
OnWay : Node → Node → Node → Type 0
OnWay q p e =
    ((q.y ≡ p.y) × (p.y ≡ e.y) × Within q.x p.x e.x)
    ⊎ ((q.x ≡ p.x) × (p.x ≡ e.x) × Within q.y p.y e.y)

-- on the other axis the parts are where the whole is
meets_beside : (s : Span) (a p e : ℕ) → a ≡ p → p ≡ e → Meets s (min a e) (max a e) → Meets s (min a p) (max a p) × Meets s (min p e) (max p e)
unfolding Meets
meets_beside s a p e h k m = (omega arith, omega arith)

hits_part : (b : Block) (q p e : Node) → OpenBox b → OnWay q p e → Hits b (between q e) → Hits b (between q p) ⊎ Hits b (between p e)
unfolding OpenBox OnWay Hits
hits_part b q p e o (inl w) h =
    let beside = meets_beside b.along_y q.y p.y e.y w.0 w.1 h.1 in
    ⊎_elim (λ m. inl (m, beside.0)) (λ m. inr (m, beside.1)) (meets_part b.along_x q.x p.x e.x o.0 w.2 h.0)
hits_part b q p e o (inr w) h =
    let beside = meets_beside b.along_x q.x p.x e.x w.0 w.1 h.0 in
    ⊎_elim (λ m. inl (beside.0, m)) (λ m. inr (beside.1, m)) (meets_part b.along_y q.y p.y e.y o.1 w.2 h.1)

blocked_part : (bs : List Block) (q p e : Node) → All OpenBox bs → OnWay q p e → Blocked bs (between q e) → Blocked bs (between q p) ⊎ Blocked bs (between p e)
unfolding All Any Blocked
blocked_part [] q p e o w h = absurd h
blocked_part (b ∷ bs) q p e o w (inl h) = ⊎_elim (λ k. inl (inl k)) (λ k. inr (inl k)) (hits_part b q p e o.0 w h)
blocked_part (b ∷ bs) q p e o w (inr h) = ⊎_elim (λ k. inl (inr k)) (λ k. inr (inr k)) (blocked_part bs q p e o.1 w h)

-- ---- straight on

straight_along : (d : Dir) (q p : Node) → Straight d q p → Along (axis_of d) (between q p)
unfolding Straight Along
straight_along E q p h = omega arith
straight_along N q p h = omega arith
straight_along W q p h = omega arith
straight_along S q p h = omega arith

straight_on : (G : Grid) (d : Dir) (q p : Node) → Straight d q p → Free G p d → Straight d q (step d p) × OnWay q p (step d p)
unfolding Straight Free step OnWay Within
straight_on G E q p h f = (omega arith, inl (h.0, refl, inl (omega arith)))
straight_on G N q p h f = (omega arith, inr (h.0, refl, inl (omega arith)))
straight_on G W q p h f = (omega (arith, west p f.0), inl (h.0, refl, inr (omega (arith, west p f.0))))
straight_on G S q p h f = (omega (arith, south p f.0), inr (h.0, refl, inr (omega (arith, south p f.0))))

-- ---- a free step is a run that is not blocked

area_of : (r a : Area) → (r.low.x ≡ a.low.x) × (r.low.y ≡ a.low.y) × (r.high.x ≡ a.high.x) × (r.high.y ≡ a.high.y) → r ≡ a
area_of r a e = λ i. record { low = record { x = e.0 i; y = e.1 i }; high = record { x = e.2 i; y = e.3 i } }

abbrev low_end : Dir → Node → Node
low_end E p = p
low_end N p = p
low_end W p = step W p
low_end S p = step S p

step_area : (G : Grid) (p : Node) (d : Dir) → Free G p d → between p (step d p) ≡ edge (axis_of d) (low_end d p)
unfolding Free step
step_area G p E f = area_of (between p (step E p)) (edge level p) (omega arith)
step_area G p N f = area_of (between p (step N p)) (edge upright p) (omega arith)
step_area G p W f = area_of (between p (step W p)) (edge level (step W p)) (omega (arith, west p f.0))
step_area G p S f = area_of (between p (step S p)) (edge upright (step S p)) (omega (arith, south p f.0))

free_open : (G : Grid) (p : Node) (d : Dir) → Free G p d → G.Open (axis_of d) (low_end d p)
unfolding Free Edge
free_open G p E f = f.2
free_open G p N f = f.2
free_open G p W f = f.1.2
free_open G p S f = f.1.2

-- ---- the corners of a word

module _ (w h : ℕ) (bs : List Block) (t : Node) (o : All OpenBox bs) where
  abbrev G : Grid
  G = grid_with w h bs

  free_clear : (p : Node) (d : Dir) → Free G p d → ¬ (Blocked bs (between p (step d p)))
  free_clear p d f = rw (step_area G p d f) (free_open G p d f)

  passed : (d : Dir) (q p : Node) (v : List Dir) → Straight d q p → ¬ (Blocked bs (between q p)) → Inside G p → Legal G p t v
      → Passed G bs t q (turns d p v)
  unfolding Legal All runs last_of
  passed d q p [] s m i l = unfold turns in record { clear = (m, tt); inside = (i, tt); last = l; some = omega arith }
  passed d q p (e ∷ v) s m i l =
      ⊎_elim
      (λ k. let on = straight_on G e q p (subst (λ c. Straight c q p) k.0 s) l.0 in
      rw (turns_on d e p v k.1) (passed e q (step e p) v on.0
      (λ b. ⊎_elim m (free_clear p e l.0) (blocked_part bs q p (step e p) o on.1 b)) (free_inside G p e l.0).1 l.1))
      (λ k. let r = passed e p (step e p) v (straight_first G e p l.0) (free_clear p e l.0) (free_inside G p e l.0).1 l.1 in
      rw (turns_at d e p v k) (record { clear = (m, r.clear); inside = (i, r.inside); last = r.last; some = omega arith }))
      (on_or_not d e)

  pub passed_all : (s : Node) (d : Dir) (v : List Dir) → Legal G s t (d ∷ v) → Passed G bs t s (turns d (step d s) v)
  unfolding Legal
  passed_all s d v l = passed d s (step d s) v (straight_first G d s l.0) (free_clear s d l.0) (free_inside G s d l.0).1 l.1

  -- where it never turns back, each run goes across the one before
  turning : (d : Dir) (q p : Node) (v : List Dir) → Straight d q p → Legal G p t v → Forward d v → Turning (axis_of d) (runs (q ∷ turns d p v))
  unfolding Legal Forward Turning runs
  turning d q p [] s l f = unfold turns in (straight_along d q p s, tt)
  turning d q p (e ∷ v) s l f =
      ⊎_elim
      (λ k. let on = straight_on G e q p (subst (λ c. Straight c q p) k.0 s) l.0 in
      rw (turns_on d e p v k.1) (subst (λ c. Turning (axis_of c) (runs (q ∷ turns e (step e p) v))) (sym k.0) (turning e q (step e p) v on.0 l.1 f.1)))
      (⊎_elim
      (λ k. rw (turns_at d e p v k.1) (
        straight_along d q p s,
        subst (λ a. Turning a (runs (p ∷ turns e (step e p) v))) k.0
            (turning e p (step e p) v (straight_first G e p l.0) l.1 f.1),
      ))
      (λ k. absurd (f.0 k)))
      (onward d e)

-- ---- the blocks of items that fit have room inside

open_runs : (c : ℕ) (ps : List Node) → 1 ≤ c → All OpenBox (map (widened c) (runs ps))
unfolding All runs OpenBox HasPoint
open_runs c [] h = tt
open_runs c (p ∷ []) h = tt
open_runs c (p ∷ q ∷ ps) h = (omega arith, open_runs c (q ∷ ps) h)

open_thing : (s : Size) (c : ℕ) (t : Thing) → 1 ≤ c → ThingFits s t → All OpenBox (blocks_of c wires t)
unfolding All ThingFits blocks_of areas OpenBox HasPoint
open_thing s c (keep_out i r) h f = (omega (arith, f.1), tt)
open_thing s c (wire i ps) h f = open_runs c ps h

pub open_boxes : (s : Size) (c : ℕ) (ts : List Thing) → 1 ≤ c → All (ThingFits s) ts → All OpenBox (blocks_to c wires ts)
unfolding All blocks_to
open_boxes s c [] h a = tt
open_boxes s c (t ∷ ts) h a = all_join OpenBox (blocks_of c wires t) (blocks_to c wires ts) (open_thing s c t h a.0) (open_boxes s c ts h a.1)

-- ---- a shortest wire

-- its runs are blocked nowhere
pub least_clear : (w h : ℕ) (bs : List Block) (s t : Node) (v : List Dir) → All OpenBox bs → Least (grid_with w h bs) s t v
    → All (λ r. ¬ (Blocked bs r)) (runs (corners s v))
unfolding Legal corners
least_clear w h bs s t [] o a = unfold All runs in tt
least_clear w h bs s t (d ∷ v) o a = (passed_all w h bs t o s d v a.0).clear

-- they go along the axes by turns
pub least_turning : (w h : ℕ) (bs : List Block) (s t : Node) (v : List Dir) → All OpenBox bs → Least (grid_with w h bs) s t v
    → Turning level (runs (corners s v)) ⊎ Turning upright (runs (corners s v))
unfolding Legal corners Turning runs
least_turning w h bs s t [] o a = inl tt
least_turning w h bs s t (d ∷ v) o a =
    let f : Free (grid_with w h bs) s d = a.0.0 in
    either (axis_of d) (runs (s ∷ turns d (step d s) v))
    (turning w h bs t o d s (step d s) v (straight_first (grid_with w h bs) d s f) a.0.1 (forward (grid_with w h bs) s t d v a.0 a.1))

-- its corners make a wire that fits on the board
pub least_fits : (z : Size) (bs : List Block) (s t : Node) (v : List Dir) → All OpenBox bs
    → Least (grid_with z.w z.h bs) s t v → ¬ (s ≡ t) → length (runs (corners s v)) ≤ most_runs → WireFits z (corners s v)
unfolding Legal corners
least_fits z bs s t [] o a n few = absurd (n a.0)
least_fits z bs s t (d ∷ v) o a n few =
    let r = passed_all z.w z.h bs t o s d v a.0 in
    record {
      ends = unfold EndsDiffer in (λ e. n (e ∙ r.last));
      some = omega (arith, length_runs s (turns d (step d s) v), r.some);
      few = few;
      turning = least_turning z.w z.h bs s t (d ∷ v) o a;
      on = unfold All in ((free_inside (grid_with z.w z.h bs) s d a.0.0).0, r.inside);
    }
