-- The places of the runs: on the board, in no item's way.
-- Assumes nothing.
use Prim.Native.Nat.{ℕ, zero, suc, ◌+◌, ◌-◌, ◌≤◌, ◌<◌}
use native.Mathlib.Omega.{arith}
use Rattle.std.proofs.Common.{add-one, sym}
use Rattle.std.specs.Prelude.{◌≡◌, refl, Bool, Result, Ok, Err, List, ◌++◌, length}
use Rattle.std.proofs.Math.Path.{ap, subst}
use Rattle.std.proofs.Math.Bool.{true, false}
use Rattle.std.proofs.Math.Logic.{inl, inr, ⊎_elim}
use Rattle.paper.specs.declared.Size.{Size}
use Rattle.paper.specs.declared.Item.{Item}
use Rattle.paper.specs.declared.Refusal.TheVariants.{OffBoard, RunInKeepOut, RunNearWire}
use Rattle.paper.specs.declared.Verdict.{Verdict}
use Rattle.paper.specs.Limits.{most_corners, most_runs}
use Rattle.paper.specs.Grid.{Node, Axis, Area, Any, All}
use Rattle.paper.specs.Layout.{Sort, keep_outs, wires, InSeam, OnBoard, Along, across, Turning, ThingFits, Layout}
use Rattle.paper.specs.Answer.{plain, Check, Gives, Bars}
use Rattle.paper.specs.Drawn.{InKeepOut, shape_checks, form_checks, run_check, run_checks}
use Rattle.paper.specs.Laws.Checks.{Coded, Clear, clear_of, gives_first, gives_then}
use Rattle.paper.specs.Laws.Says.{Says, says_as, says_always, said, said_not}
use Rattle.paper.proofs.Bent.{by_turns}
use Rattle.blocks.specs.declared.Blocks.{Blocks}
use Rattle.blocks.specs.declared.Place.{Place}
use Rattle.blocks.specs.declared.Look.TheVariants.{KeepOuts}
use Rattle.blocks.specs.Flat.{place_area, listed, Hit, HeldOf}
use Rattle.blocks.specs.Growing.{corner_at, stretch_at}
use Rattle.blocks.specs.Laws.Lists.{length_listed}
use Rattle.blocks.specs.Laws.Found.{look_for, hit_any}
use Rattle.seams.specs.Seaming.{SeamOf, HitOr}
use Rattle.seams.specs.Laws.Seamed.{in_seam, seam_of}
use Rattle.shapes.specs.Corners.{corners_of}
use Rattle.shapes.specs.Laws.Corners.{corners_one, runs_are}
use Rattle.paper.specs.declared.Refusal.{Refusal}
use Rattle.shapes.specs.declared.Fault.{Fault}
use Rattle.shapes.specs.Faults.{fault_of, fault_at}
use Rattle.shapes.specs.Laws.Fits.{coded, form_coded}
use Rattle.places.specs.Placing.{OnHeld, Straight, RunSays, PlacesSay, AllSay}

-- a fault has a code
a_code : (f : Fault Refusal) → ¬ ((fault_of (Err f)).code ≡ 0)
a_code f z = omega (arith, coded f.why)

-- ---- one run

module _ (s : Size) (b : Blocks) (m : Item) (k : ℕ) where
  -- both of its corners lie on the board
  abbrev On : Size → Type 0
  On s = OnBoard s (corner_at m k) × OnBoard s (corner_at m (k + 1))

  pub off_board : ¬ (On s) → (f : Fault Refusal) → f ≡ fault_at OffBoard k → RunSays s b m k (Err f)
  unfolding RunSays Gives
  off_board n f e l z held fits = inl (λ h. n (subst On z h), ap (λ f. fault_of (Err f)) e)

  module _ (on : On s) (along : Straight m k) (place : Place) (at_place : place_area place ≡ stretch_at m k) where
    on_both : (l : Layout) → l.size ≡ s → ¬ (¬ (On l.size))
    on_both l z n = n (subst On (sym z) on)

    -- by the scans and the rectangles of two: what 20 and 24 ask
    module _ (l : Layout) (z : l.size ≡ s) (held : HeldOf b wires l) (fits : All (ThingFits s) l.items) where
      way : (of : Sort) (f : Bool) → Hit b (look_for of) place f → Says f (Any (Bars l wires of (stretch_at m k)) l.items)
      way of f h = hit_any l wires held place (stretch_at m k) at_place of f h

      seam_found : SeamOf b place → InSeam l.items (stretch_at m k)
      seam_found h =
          let straight : (a : Axis) × Along a (place_area place) = subst (λ r. (a : Axis) × Along a r) (sym at_place) along in
          subst (InSeam l.items) at_place (seam_of held place s straight.0 fits straight.1 h)

      entered_says : (f : Bool) → HitOr b KeepOuts place (SeamOf b place) f → Says f (InKeepOut l (stretch_at m k))
      unfolding HitOr
      entered_says f (a, h, inl g) = subst (λ f. Says f (InKeepOut l (stretch_at m k))) (sym g.1) (says_always (inl (said (way keep_outs a h) g.0)))
      entered_says f (a, h, inr g) =
          let none = said_not (way keep_outs a h) g.0 in
          says_as (λ s. inr (seam_found s))
          (⊎_elim (λ x. absurd (none x)) (λ i. ⊎_elim (λ x. absurd (none (subst (λ r. Any (Bars l wires keep_outs r) l.items) at_place x))) (λ s. s)
          (in_seam held place l (subst (InSeam l.items) (sym at_place) i)))) g.1

    abbrev Entered : Bool → Type 0
    Entered f = HitOr b KeepOuts place (SeamOf b place) f

    pub keep_out_there : Entered true → (f : Fault Refusal) → f ≡ fault_at RunInKeepOut k → RunSays s b m k (Err f)
    unfolding RunSays Gives
    keep_out_there h f e l z held fits = inr (on_both l z, inl ((entered_says l z held fits true h).fact tt, ap (λ f. fault_of (Err f)) e))

    pub wire_there : Entered false → Hit b (look_for wires) place true → (f : Fault Refusal) → f ≡ fault_at RunNearWire k → RunSays s b m k (Err f)
    unfolding RunSays Gives
    wire_there g h f e l z held fits =
        inr (on_both l z, inr ((entered_says l z held fits false g).test, inl ((way l z held fits wires true h).fact tt, ap (λ f. fault_of (Err f)) e)))

    pub none_there : Entered false → Hit b (look_for wires) place false → RunSays s b m k (Ok tt)
    unfolding RunSays Gives
    none_there g h l z held fits =
        inr (on_both l z, inr ((entered_says l z held fits false g).test, inr ((way l z held fits wires false h).test, refl)))

-- ---- the loop

-- whatever the runs from k on give, all of them give
unfoldable pub Left : Size → Blocks → Item → ℕ → ℕ → Type 0
Left s b m n k = OnHeld s b (λ l. (v : Verdict) → Gives (run_checks l (k + 1) (listed (corner_at m) k (suc (n - k)))) v
    → Gives (run_checks l 1 (corners_of m (n + 1))) v)

module _ (s : Size) (b : Blocks) (m : Item) (n : ℕ) where
  pub left_start : length m.xs ≡ most_corners → length m.ys ≡ most_corners → n ≤ most_runs → Left s b m n 0
  unfolding Left
  left_start lx ly h l z held fits v g =
      let e : n - 0 ≡ n = omega arith in
      rw (corners_one m lx ly n h) (subst (λ i. Gives (run_checks l 1 (listed (corner_at m) 0 (suc i))) v) e g)

  module _ (k : ℕ) (t : Left s b m n k) where
    split : (l : Layout) (v : Verdict) → k < n → Gives (run_check l (k + 1) (corner_at m k) (corner_at m (k + 1)) ++ run_checks l (suc (k + 1)) (listed (corner_at m) (k + 1) (suc (n - (k + 1))))) v
        → Gives (run_checks l (k + 1) (listed (corner_at m) k (suc (n - k)))) v
    unfolding listed run_checks
    split l v h g =
        let e : n - k ≡ suc (n - (k + 1)) = omega arith in
        rw e (subst (λ j. Gives (run_check l (k + 1) (corner_at m k) (corner_at m j) ++ run_checks l (suc (k + 1)) (listed (corner_at m) j (suc (n - (k + 1))))) v) (add-one k) g)

    pub left_stop : k < n → (f : Fault Refusal) → RunSays s b m k (Err f) → (r : Result (Unit {0}) (Fault Refusal)) → r ≡ Err f → PlacesSay s b m n r
    unfolding Left RunSays PlacesSay
    left_stop h f g r e l z held fits =
        let v = fault_of (Err f) in
        rw e (t l z held fits v (split l v h (gives_first (run_check l (k + 1) (corner_at m k) (corner_at m (k + 1))) _ v (a_code f) (g l z held fits))))

    one_coded : (l : Layout) (p q : Node) → Coded (run_check l (k + 1) p q)
    unfolding Coded
    one_coded l p q = omega arith

    pub left_next : k < n → RunSays s b m k (Ok tt) → Left s b m n (k + 1)
    unfolding Left RunSays
    left_next h g l z held fits v q =
        t l z held fits v (split l v h (gives_then (run_check l (k + 1) (corner_at m k) (corner_at m (k + 1))) _ v
        (clear_of (run_check l (k + 1) _ _) (plain 0) refl (one_coded l _ _) (g l z held fits))
        (subst (λ i. Gives (run_checks l i (listed (corner_at m) (k + 1) (suc (n - (k + 1))))) v) (add-one (k + 1)) q)))

    pub left_end : n ≤ k → PlacesSay s b m n (Ok tt)
    unfolding Left PlacesSay Gives run_checks listed
    left_end h l z held fits = let q : n - k ≡ 0 = omega arith in t l z held fits (plain 0) (rw q refl)

-- ---- all of it

turning_at : (f : ℕ → Area) (a : Axis) (j n k : ℕ) → Turning a (listed f j n) → k < n → (i : ℕ) → i ≡ j + k → (b : Axis) × Along b (f i)
unfolding Turning listed
turning_at f a j zero k t h i e = absurd (omega arith)
turning_at f a j (suc n) zero t h i e = let z : i ≡ j = omega arith in (a, subst (λ i. Along a (f i)) (sym z) t.0)
turning_at f a j (suc n) (suc k) t h i e = turning_at f (across a) (suc j) n k t.1 (omega arith) i (omega arith)

module _ (m : Item) (n : ℕ) where
  abbrev shape : List Check
  shape = form_checks (corners_of m (n + 1))

  good_shape : Gives shape (plain 0) → Clear shape
  good_shape g = clear_of shape (plain 0) refl (form_coded (corners_of m (n + 1))) g

  -- the runs of a good shape are straight
  pub straight_runs : Gives shape (plain 0) → length m.xs ≡ most_corners → length m.ys ≡ most_corners → n ≤ most_runs → (k : ℕ) → k < n → Straight m k
  unfolding Clear
  straight_runs g lx ly few k h =
      let rs : Clear (shape_checks 1 (listed (stretch_at m) 0 n)) = rw (runs_are m lx ly n few) at (good_shape g).1 in
      let some : 1 ≤ length (listed (stretch_at m) 0 n) = omega (arith, length_listed (stretch_at m) 0 n) in
      let t = by_turns 1 (listed (stretch_at m) 0 n) some rs in
      turning_at (stretch_at m) t.0 0 n k t.1 h k (omega arith)

  module _ (s : Size) (b : Blocks) where
    pub ill_shaped : (f : Fault Refusal) → Gives shape (fault_of (Err f)) → (r : Result (Unit {0}) (Fault Refusal)) → r ≡ Err f → AllSay s b m n r
    unfolding AllSay
    ill_shaped f g r e l z held fits = rw e (gives_first shape _ (fault_of (Err f)) (a_code f) g)

    pub well_shaped : Gives shape (plain 0) → (r : Result (Unit {0}) (Fault Refusal)) → PlacesSay s b m n r → AllSay s b m n r
    unfolding AllSay PlacesSay
    well_shaped g r h l z held fits = gives_then shape _ (fault_of r) (good_shape g) (h l z held fits)
