-- From the parts to what is said of the drawn wire.
-- Assumes nothing.
use Rattle.std.specs.Prelude.{ℕ, zero, suc, ◌+◌, ◌≤◌, ◌≡◌, ◌↔◌, Result, Ok, Err, List, [], ◌∷◌, length}
use Rattle.std.proofs.Common.{arith, zero-add, sym, ◌∙◌}
use Rattle.std.proofs.Math.Path.{refl, ap, subst}
use Rattle.std.proofs.Math.Logic.{inl, inr}
use Rattle.paper.specs.declared.Item.{Item}
use Rattle.paper.specs.declared.Pins.{Pins}
use Rattle.paper.specs.declared.Board.{Board}
use Rattle.paper.specs.declared.Refusal.TheVariants.{NoBounds, CornerCount, IllFormed}
use Rattle.paper.specs.declared.Judged.{Judged}
use Rattle.paper.specs.Limits.{most_corners, most_runs}
use Rattle.paper.specs.Grid.{Node, Dir, All, Blocked, node, grid_with}
use Rattle.paper.specs.Wire.{Legal, runs}
use Rattle.paper.specs.Layout.{wire, wires, blocks_to, grid_of, OnBoard, last_of, EndsDiffer, Layout, Laid}
use Rattle.paper.specs.Padding.{item_of, WellFormed}
use Rattle.paper.specs.Answer.{plain, Gives, source, target, BeforeBounds}
use Rattle.paper.specs.Drawn.{drawn, CountFits, shape_checks, run_checks, corner_checks, long_of, Exceeds, JudgedOn, Judges}
use Rattle.paper.specs.Laws.Back.{layout_of, well_formed}
use Rattle.paper.specs.Laws.Checks.{Clear, clear_of, clear_split}
use Rattle.paper.specs.Laws.Walked.{clear_ends}
use Rattle.paper.specs.Laws.Drawn.{length_drawn, corner_coded, shut}
use Rattle.paper.proofs.Drawn.{turns_of, runs_clear, found}
use Rattle.paper.specs.Laws.Apart.{blocked_left}
use Rattle.paper.specs.Laws.Joins.{joined}
use Rattle.paper.proofs.Seams.{legal_joined}
use Rattle.blocks.specs.declared.Blocks.{Blocks}
use Rattle.blocks.specs.Flat.{listed, flat, Fits, HeldOf}
use Rattle.blocks.specs.Growing.{corner_at}
use Rattle.blocks.specs.Laws.Held.{held_fits, flat_held}
use Rattle.shapes.specs.Corners.{corners_of}
use Rattle.shapes.specs.Laws.Corners.{corners_one, last_listed}
use Rattle.router.specs.Route.{Asked}
use Rattle.paper.specs.declared.Refusal.{Refusal}
use Rattle.shapes.specs.declared.Fault.{Fault}
use Rattle.shapes.specs.Faults.{fault_of, about_none}
use Rattle.shapes.specs.Laws.Fits.{coded}
use Rattle.drawn.specs.Laws.Numbers.{corners_back, item_long}
use Rattle.places.specs.Placing.{AllSay}
use Rattle.drawn.specs.Drawing.{judged_of, long_by, Reached, Over, pins_of}
use Rattle.drawn.specs.Laws.Long.{runs_long}

-- ---- refused

module _ (l : Layout) (ns : List ℕ) where
  pub before_bounds : BeforeBounds l → (f : Fault Refusal) → f ≡ about_none NoBounds → JudgedOn l ns (judged_of (Err f))
  unfolding Gives
  before_bounds z f e = rw e (record { said = inl (z, refl); refused = λ n. refl; accepted = λ x. absurd (omega arith) })

  module _ (b : ¬ (BeforeBounds l)) where
    pub ill_counted : ¬ (CountFits ns) → (f : Fault Refusal) → f ≡ about_none CornerCount → JudgedOn l ns (judged_of (Err f))
    unfolding Gives
    ill_counted c f e = rw e (record { said = inr (b, inl (c, refl)); refused = λ n. refl; accepted = λ x. absurd (omega arith) })

    module _ (c : CountFits ns) where
      pub faulty : (f : Fault Refusal) → Gives (corner_checks l (drawn ns)) (fault_of (Err f)) → (r : Result ℕ (Fault Refusal)) → r ≡ Err f → JudgedOn l ns (judged_of r)
      unfolding Gives
      faulty f g r e = rw e (record { said = inr (b, inr (c, g)); refused = λ n. refl; accepted = λ x. absurd (omega (arith, x, coded f.why)) })

      pub accepted : Gives (corner_checks l (drawn ns)) (plain 0) → (x : ℕ) → Exceeds (grid_of l.size l.items) (drawn ns) x → JudgedOn l ns (judged_of (Ok x))
      unfolding Gives
      accepted g x h = record { said = inr (b, inr (c, g)); refused = λ n. absurd (n refl); accepted = λ e. h }

  pub faultless : Gives (corner_checks l (drawn ns)) (plain 0) → Clear (corner_checks l (drawn ns))
  faultless g = clear_of (corner_checks l (drawn ns)) (plain 0) refl (corner_coded l (drawn ns)) g

-- ---- accepted

all_last : (P : Node → Type 0) (p : Node) (ps : List Node) → All P (p ∷ ps) → P (last_of p ps)
unfolding All last_of
all_last P p [] a = a.0
all_last P p (q ∷ ps) a = all_last P q ps a.1

-- what is known of a wire from s to t that no check refuses
pub record Walked (l : Layout) (s t : Node) (n : ℕ) : Type 0 where
  pub on : OnBoard l.size s × OnBoard l.size t
  pub two : ¬ (s ≡ t)
  pub clear : (¬ (Blocked (blocks_to l.size.clearance wires l.items) (node s))) × (¬ (Blocked (blocks_to l.size.clearance wires l.items) (node t)))
  pub walk : (v : List Dir) × Legal (grid_of l.size l.items) s t v × (length v ≡ n)

walked : (l : Layout) → Laid l → (p q : Node) (ps : List Node) → Clear (corner_checks l (p ∷ q ∷ ps)) → Walked l p (last_of p (q ∷ ps)) (long_of (p ∷ q ∷ ps))
unfolding Clear EndsDiffer
walked l L p q ps c =
    let d = clear_split (shape_checks 1 (runs (p ∷ q ∷ ps))) (run_checks l 1 (p ∷ q ∷ ps)) c.1 in
    let t = turns_of p q ps d.0 in
    let r = runs_clear l L 1 t.0 p q ps t.1 d.1 in
    let f = found l L p q ps d.0 d.1 in
    let e = clear_ends (shut l) p q ps r.1 in
    record {
      on = unfold All in (r.0.0, all_last (OnBoard l.size) p (q ∷ ps) r.0);
      two = c.0;
      clear = (λ h. e.0 (blocked_left _ _ (node p) h), unfold last_of in λ h. e.1 (blocked_left _ _ _ h));
      walk = (f.0, f.1, f.3);
    }

pub walked_item : (l : Layout) → Laid l → (m : Item) (n : ℕ) → length m.xs ≡ most_corners → length m.ys ≡ most_corners → 1 ≤ n → n ≤ most_runs
    → Clear (corner_checks l (corners_of m (n + 1))) → Walked l (corner_at m 0) (corner_at m n) (long_of (corners_of m (n + 1)))
walked_item l L m n lx ly some few c =
    rw (corners_one m lx ly n few)
    (subst (λ t. Walked l (corner_at m 0) t (long_of (listed (corner_at m) 0 (suc n)))) (last_listed (corner_at m) 0 n ∙ ap (corner_at m) (zero-add n))
    (go n some (rw (corners_one m lx ly n few) at c)))
  where
    go : (n : ℕ) → 1 ≤ n → Clear (corner_checks l (listed (corner_at m) 0 (suc n))) → Walked l (corner_at m 0) (last_of (corner_at m 0) (listed (corner_at m) 1 n)) (long_of (listed (corner_at m) 0 (suc n)))
    go zero h c = absurd (omega arith)
    go (suc n) h c = unfold listed in walked l L (corner_at m 0) (corner_at m 1) (listed (corner_at m) 2 n) (unfold listed in c)

-- ---- the router's call

pub excess_asks : (b : Blocks) (l : Layout) (m : Item) (n k : ℕ) → HeldOf b wires l → Laid l → Walked l (corner_at m 0) (corner_at m n) k
    → Fits b × Asked l.size (flat b) (pins_of m n) × Reached (grid_with l.size.w l.size.h (joined (flat b))) (corner_at m 0) (corner_at m n) k
unfolding Reached
excess_asks b l m n k held L w =
    let v = w.walk in (
      held_fits held,
      rw (flat_held held) (record { range = L.range; on = w.on; two = w.two; clear = w.clear }),
      rw (flat_held held) (v.0, (legal_joined l.size l.items (corner_at m 0) (corner_at m n) v.0 L.range.2.0).0 v.1, v.2),
    )

-- by cells as by blocks
over_cells : (l : Layout) → Laid l → (s t : Node) (n x : ℕ) → Over (grid_with l.size.w l.size.h (shut l)) s t n x → Over (grid_of l.size l.items) s t n x
unfolding Over
over_cells l L s t n x o =
    let legal : (w : List Dir) → Legal (grid_of l.size l.items) s t w ↔ Legal (grid_with l.size.w l.size.h (shut l)) s t w
    = λ w. legal_joined l.size l.items s t w L.range.2.0 in
    let g = o.1 in
    (o.0, record { by = g.by; legal = (legal g.by).1 g.legal; long = g.long; least = λ w k. g.least w ((legal w).0 k) }, o.2)

pub over_exceeds : (b : Blocks) (l : Layout) (m : Item) (n x : ℕ) → length m.xs ≡ most_corners → length m.ys ≡ most_corners → n ≤ most_runs → HeldOf b wires l → Laid l
    → Over (grid_with l.size.w l.size.h (joined (flat b))) (corner_at m 0) (corner_at m n) (long_of (corners_of m (n + 1))) x
    → Exceeds (grid_of l.size l.items) (corners_of m (n + 1)) x
unfolding Over
over_exceeds b l m n x lx ly few held L o =
    rw (corners_one m lx ly n few)
    (unfold Exceeds listed in subst (λ t. Over (grid_of l.size l.items) (corner_at m 0) t (long_of (listed (corner_at m) 0 (suc n))) x)
    (sym (last_listed (corner_at m) 0 n ∙ ap (corner_at m) (zero-add n)))
    (over_cells l L (corner_at m 0) (corner_at m n) (long_of (listed (corner_at m) 0 (suc n))) x (rw (flat_held held, corners_one m lx ly n few) at o)))

-- ---- the item that was made of the numbers

pub corners_drawn : (ns : List ℕ) (m : Item) (n : ℕ) → m ≡ item_of (wire 0 (drawn ns)) → length ns ≡ (n + 1) + (n + 1) → corners_of m (n + 1) ≡ drawn ns
corners_drawn ns m n e h = ap (λ m. corners_of m (n + 1)) e ∙ corners_back (drawn ns) (n + 1) (length_drawn ns (n + 1) h)

module _ (b : Blocks) (l : Layout) (ns : List ℕ) (m : Item) (n : ℕ) (made : m ≡ item_of (wire 0 (drawn ns))) (count : length ns ≡ (n + 1) + (n + 1))
    (some : 1 ≤ n) (few : n ≤ most_runs) (held : HeldOf b wires l) (L : Laid l) where
  pub drawn_says : (f : Result (Unit {0}) (Fault Refusal)) → AllSay l.size b m n f → Gives (corner_checks l (drawn ns)) (fault_of f)
  unfolding AllSay
  drawn_says f a = subst (λ ps. Gives (corner_checks l ps) (fault_of f)) (corners_drawn ns m n made count) (a l refl held L.fits.two.each)

  long : (length m.xs ≡ most_corners) × (length m.ys ≡ most_corners)
  long = item_long (drawn ns) m made (omega (arith, length_drawn ns (n + 1) count))

  module _ (p : Pins) (at_ends : p ≡ pins_of m n) (k : ℕ) (summed : k ≡ long_by m n) where
    as_long : k ≡ long_of (corners_of m (n + 1))
    as_long = summed ∙ runs_long m n long.0 long.1 few

    pub drawn_asks : Clear (corner_checks l (drawn ns)) → Fits b × Asked l.size (flat b) p × Reached (grid_with l.size.w l.size.h (joined (flat b))) (source p) (target p) k
    drawn_asks c =
        let w = walked_item l L m n long.0 long.1 some few (subst (λ ps. Clear (corner_checks l ps)) (sym (corners_drawn ns m n made count)) c) in
        rw (at_ends, as_long) (excess_asks b l m n (long_of (corners_of m (n + 1))) held L w)

    pub drawn_exceeds : (x : ℕ) → Over (grid_with l.size.w l.size.h (joined (flat b))) (source p) (target p) k x → Exceeds (grid_of l.size l.items) (drawn ns) x
    drawn_exceeds x o =
        subst (λ ps. Exceeds (grid_of l.size l.items) ps x) (corners_drawn ns m n made count)
        (over_exceeds b l m n x long.0 long.1 few held L (rw (at_ends, as_long) at o))

-- ---- the whole

pub judged_ill : (b : Board) (ns : List ℕ) → ¬ (WellFormed b) → (r : Judged) → r ≡ judged_of (Err (about_none IllFormed)) → Judges b ns r
unfolding Judges
judged_ill b ns n r e = inl (n, e)

pub judged_well : (b : Board) (ns : List ℕ) → WellFormed b → (r : Judged) → JudgedOn (layout_of b) ns r → Judges b ns r
unfolding Judges
judged_well b ns w r j = inr (layout_of b, well_formed b w, j)
