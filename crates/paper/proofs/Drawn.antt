-- A wire drawn by hand: what is said of it is determined, and it is accepted just if it is a legal wire. The answered wire exceeds by nothing.
-- The definitions and lemmas under it stand in specs/Laws/Drawn.
use Rattle.std.specs.Prelude.{ℕ, suc, ◌+◌, ◌≤◌, ◌≡◌, Bool, true, false, ◌⊎◌, length}
use Rattle.std.proofs.Common.{arith, ap, ◌∙◌}
use Rattle.std.proofs.Math.Path.{subst}
use Rattle.std.proofs.Math.Logic.{inl, inr, ⊎_elim}
use mathlib.Core.List.{List, [], ◌∷◌}
use Rattle.paper.specs.declared.Judged.{Judged}
use Rattle.paper.specs.Limits.{most_runs}
use Rattle.paper.specs.Grid.{Node, Dir, step, Axis, level, upright, Grid, Area, Hits, Any, All, Blocked}
use Rattle.paper.specs.Wire.{Legal, ToGo, turns, corners, between, runs}
use Rattle.paper.specs.Layout.{Thing, Sort, keep_outs, wires, blocks_of, blocks_to, grid_of, OnBoard, Along, across, Turning, last_of, EndsDiffer, Layout, Laid, Sound}
use Rattle.paper.specs.Answer.{plain, Gives, Bars, flat}
use Rattle.paper.specs.Drawn.{drawn, InKeepOut, NearWire, shape_checks, run_checks, corner_checks, drawn_checks, long_of, Exceeds, judgement, JudgedOn}
use Rattle.paper.specs.Laws.Says.{Says, says_and}
use Rattle.paper.specs.Laws.Tests.{on_board_says}
use Rattle.paper.specs.Laws.Lists.{any_left, any_right}
use Rattle.paper.specs.Laws.Checks.{one_verdict, Coded, Clear, clear_of, of_clear, clear_join, clear_split}
use Rattle.paper.specs.Laws.Back.{length_runs}
use Rattle.paper.specs.Laws.Steps.{free_inside, Least}
use Rattle.paper.specs.Laws.Apart.{blocked_left}
use Rattle.paper.specs.Laws.Traced.{OpenBox}
use Rattle.paper.proofs.Traced.{open_boxes, passed_all, least_fits}
use Rattle.paper.specs.Laws.Joins.{open_joined}
use Rattle.paper.proofs.Seams.{legal_joined, least_joined, run_in, run_out}
use Rattle.paper.specs.Laws.Next.{laid}
use Rattle.paper.specs.Laws.Told.{least_to_go}
use Rattle.paper.proofs.Bent.{by_turns, turning_shape}
use Rattle.paper.proofs.Walked.{word}
use Rattle.paper.specs.Laws.Walked.{long_corners, last_turns}
use Rattle.paper.specs.Laws.Drawn.{Walk, corner_coded, drawn_flat, length_drawn, none_among, one_to_go, shut}

-- ---- what stands in a run's way

module _ (l : Layout) (a : Area) where
  some_among : (of : Sort) (ts : List Thing) → Any (Bars l wires of a) ts → Blocked (blocks_to l.size.clearance wires ts) a
  unfolding Any Bars blocks_to Blocked
  some_among of [] h = h
  some_among of (t ∷ ts) (inl s) = any_left (λ b. Hits b a) (blocks_of l.size.clearance wires t) (blocks_to l.size.clearance wires ts) s.1
  some_among of (t ∷ ts) (inr h) = any_right (λ b. Hits b a) (blocks_of l.size.clearance wires t) (blocks_to l.size.clearance wires ts) (some_among of ts h)

module _ (l : Layout) (L : Laid l) where
  open_shut : All OpenBox (shut l)
  open_shut = open_joined _ (open_boxes l.size l.size.clearance l.items L.range.2.0 L.fits.two.each)

  pub run_clear : (a : Axis) (r : Area) → Along a r → ¬ (InKeepOut l r) → ¬ (NearWire l r) → ¬ (Blocked (shut l) r)
  run_clear a r s k w h =
      ⊎_elim (none_among l r l.items (λ x. k (inl x)) w) (λ x. k (inr x)) (run_out l.size.clearance l.items L.range.2.0 a r s open_shut h)

  clear_keep_out : (r : Area) → ¬ (Blocked (shut l) r) → ¬ (InKeepOut l r)
  clear_keep_out r n k =
      n (⊎_elim (λ x. blocked_left _ _ r (some_among l r keep_outs l.items x)) (λ x. run_in l.size.clearance l.items L.range.2.0 level r x) k)

  clear_wire : (r : Area) → ¬ (Blocked (shut l) r) → ¬ (NearWire l r)
  clear_wire r n w = n (blocked_left _ _ r (some_among l r wires l.items w))

-- ---- the checks of the runs

not_not : {b : Bool} {P : Type 0} → Says b P → ¬ (¬ P) → P
not_not {b = true} s n = s.fact tt
not_not {b = false} s n = absurd (n s.test)

module _ (l : Layout) (L : Laid l) where
  on_both : (p q : Node) → ¬ (¬ (OnBoard l.size p × OnBoard l.size q)) → OnBoard l.size p × OnBoard l.size q
  on_both p q n = not_not (says_and (on_board_says l.size p) (on_board_says l.size q)) n

  pub runs_clear : (k : ℕ) (a : Axis) (p q : Node) (ps : List Node) → Turning a (runs (p ∷ q ∷ ps)) → Clear (run_checks l k (p ∷ q ∷ ps))
      → All (OnBoard l.size) (p ∷ q ∷ ps) × All (λ r. ¬ (Blocked (shut l) r)) (runs (p ∷ q ∷ ps))
  unfolding Clear run_checks All runs Turning
  runs_clear k a p q [] t c =
      let o = on_both p q c.0 in
      ((o.0, (o.1, tt)), (run_clear l L a (between p q) t.0 c.1.0 c.1.1.0, tt))
  runs_clear k a p q (r ∷ ps) t c =
      let o = on_both p q c.0 in
      let m = runs_clear (suc k) (across a) q r ps t.1 c.1.1.1 in
      ((o.0, m.0), (run_clear l L a (between p q) t.0 c.1.0 c.1.1.0, m.1))

  clear_runs : (k : ℕ) (p : Node) (ps : List Node) → All (OnBoard l.size) (p ∷ ps) → All (λ r. ¬ (Blocked (shut l) r)) (runs (p ∷ ps))
      → Clear (run_checks l k (p ∷ ps))
  unfolding Clear run_checks All runs
  clear_runs k p [] o c = tt
  clear_runs k p (q ∷ ps) o c =
      (λ n. n (o.0, o.1.0), (clear_keep_out l L (between p q) c.0, (clear_wire l L (between p q) c.0, clear_runs (suc k) q ps o.1 c.1)))

-- ---- the truth

-- every legal wire between different pins, of at most 24 runs, each across the one before, is accepted
pub accepts_legal : (l : Layout) → Laid l → (s t : Node) (v : List Dir) → Legal (grid_of l.size l.items) s t v → ¬ (s ≡ t)
    → length (runs (corners s v)) ≤ most_runs → Turning level (runs (corners s v)) ⊎ Turning upright (runs (corners s v))
    → Gives (drawn_checks l (flat (corners s v))) (plain 0)
unfolding Legal corners Clear EndsDiffer All
accepts_legal l L s t [] legal two few turn = absurd (two legal)
accepts_legal l L s t (d ∷ v) legal two few turn =
    let by = (legal_joined l.size l.items s t (d ∷ v) L.range.2.0).0 legal in
    let r = passed_all l.size.w l.size.h (shut l) t (open_shut l L) s d v by in
    let i = (free_inside (grid_of l.size l.items) s d legal.0).0 in
    let ps : List Node = s ∷ turns d (step d s) v in
    let n = length_runs s (turns d (step d s) v) in
    let f = drawn_flat ps in
    of_clear (drawn_checks l (flat ps)) ((
      λ z. omega (arith, z, L.range.0.0),
      (
        (length ps, omega (arith, r.some), omega (arith, n, few), f.1),
        (
          rw f.0 (λ e. two (e ∙ r.last)),
          rw f.0 (clear_join (shape_checks 1 (runs ps)) (run_checks l 1 ps) (⊎_elim (turning_shape level 1 (runs ps)) (turning_shape upright 1 (runs ps)) turn)
              (clear_runs l L 1 s (turns d (step d s) v) (i, r.inside) r.clear)),
        ),
      ),
    ))

pub turns_of : (p q : Node) (ps : List Node) → Clear (shape_checks 1 (runs (p ∷ q ∷ ps))) → (a : Axis) × Turning a (runs (p ∷ q ∷ ps))
turns_of p q ps c = by_turns 1 (runs (p ∷ q ∷ ps)) (unfold runs in omega arith) c

-- and what is accepted is such a wire, walked from its first corner to its last
pub found : (l : Layout) → Laid l → (p q : Node) (ps : List Node) → Clear (shape_checks 1 (runs (p ∷ q ∷ ps))) → Clear (run_checks l 1 (p ∷ q ∷ ps))
    → (v : List Dir) × Legal (grid_of l.size l.items) p (last_of p (q ∷ ps)) v × (corners p v ≡ p ∷ q ∷ ps) × (length v ≡ long_of (p ∷ q ∷ ps))
found l L p q ps c d =
    let t = turns_of p q ps c in
    let r = runs_clear l L 1 t.0 p q ps t.1 d in
    let w = word l.size.w l.size.h (shut l) t.0 p q ps t.1 r.0 r.1 in
    (w.first ∷ w.rest, (legal_joined l.size l.items p (last_of p (q ∷ ps)) (w.first ∷ w.rest) L.range.2.0).1 w.legal, w.corners_are, w.long)

-- ---- the excess

module _ (G : Grid) where
  exceeds : (s t : Node) (v : List Dir) (n : ℕ) → Legal G s t v → Exceeds G (corners s v) n → (m : ℕ) × ToGo G t s m × (length v ≡ m + n)
  unfolding Exceeds corners Legal last_of
  exceeds s t [] n l x = (x.0, subst (λ u. ToGo G u s x.0) l x.1, omega (arith, long_corners G s t [] l, x.2))
  exceeds s t (d ∷ v) n l x =
      (x.0, subst (λ u. ToGo G u s x.0) (last_turns G t d s (step d s) v l.1) x.1, omega (arith, long_corners G s t (d ∷ v) l, x.2))

walked : (l : Layout) → Laid l → (ps : List Node) (n : ℕ) → 2 ≤ length ps → Clear (corner_checks l ps) → Exceeds (grid_of l.size l.items) ps n → Walk l ps n
unfolding Clear EndsDiffer Exceeds
walked l L [] n h c x = absurd (omega arith)
walked l L (p ∷ []) n h c x = absurd (omega arith)
walked l L (p ∷ q ∷ ps) n h c x =
    let d = clear_split (shape_checks 1 (runs (p ∷ q ∷ ps))) (run_checks l 1 (p ∷ q ∷ ps)) c.1 in
    let f = found l L p q ps d.0 d.1 in
    record {
      from = p;
      to = last_of p (q ∷ ps);
      two = c.0;
      by = f.0;
      legal = f.1;
      corners_are = f.2;
      shortest = x.0;
      to_go = x.1;
      excess = omega (arith, f.3, x.2);
    }

-- what is accepted is such a walk
pub accepted_walk : (l : Layout) → Sound l → (ns : List ℕ) (r : Judged) → JudgedOn l ns r → r.code ≡ 0 → Walk l (drawn ns) r.excess
unfolding Clear Coded
accepted_walk l s ns r j z =
    let c = clear_of (drawn_checks l ns) (judgement r) z (omega arith, (omega arith, corner_coded l (drawn ns))) j.said in
    let k = c.1.0 in
    walked l (laid l s c.0) (drawn ns) r.excess (omega (arith, k.1, length_drawn ns k.0 k.3)) c.1.1 (j.accepted z)

-- a legal walk of few enough runs, each across the one before, drawn: accepted, and so much longer than a shortest one
pub legal_accepted : (l : Layout) → Laid l → (s t : Node) (v : List Dir) → Legal (grid_of l.size l.items) s t v → ¬ (s ≡ t)
    → length (runs (corners s v)) ≤ most_runs → Turning level (runs (corners s v)) ⊎ Turning upright (runs (corners s v))
    → (r : Judged) → JudgedOn l (flat (corners s v)) r
    → (judgement r ≡ plain 0) × (m : ℕ) × ToGo (grid_of l.size l.items) t s m × (length v ≡ m + r.excess)
legal_accepted l L s t v legal two few turn r j =
    let g = accepts_legal l L s t v legal two few turn in
    let e : judgement r ≡ plain 0 = one_verdict (drawn_checks l (flat (corners s v))) (judgement r) (plain 0) j.said g in
    let x = exceeds (grid_of l.size l.items) s t v r.excess legal (rw (drawn_flat (corners s v)).0 at (j.accepted (ap (λ v. v.code) e))) in
    (e, x.0, x.1, x.2)

-- a shortest wire, drawn, exceeds by nothing: so the answered one, in either mode (`in_least`)
pub least_no_excess : (l : Layout) → Laid l → (s t : Node) (v : List Dir) → Least (grid_of l.size l.items) s t v → ¬ (s ≡ t)
    → length (runs (corners s v)) ≤ most_runs → (r : Judged) → JudgedOn l (flat (corners s v)) r → r ≡ record { code = 0; run = 0; excess = 0 }
least_no_excess l L s t v a two few r j =
    let w = least_fits l.size (shut l) s t v (open_shut l L) (least_joined l.size l.items s t v L.range.2.0 a) two few in
    let x = legal_accepted l L s t v a.0 two few w.turning r j in
    let z : r.excess ≡ 0 = omega (arith, x.3, one_to_go _ t s x.1 (length v) x.2 (least_to_go (grid_of l.size l.items) s t v a)) in
    λ i. record { code = (x.0 i).code; run = (x.0 i).place; excess = z i }
