-- What a scan's answer says of the things that the arrays hold.
-- Assumes nothing.
use Prim.Native.Nat.{ℕ, zero, suc, ◌<◌}
use Rattle.std.proofs.Common.{eq-or-lt_of_le, sym, ap, ⊎_elim}
use native.Mathlib.Omega.{arith}
use Rattle.std.specs.Prelude.{◌≡◌, refl, Bool, true, T, Option, Some, None, is_some}
use Rattle.std.proofs.Math.Path.{subst}
use Rattle.std.proofs.Math.Logic.{inl, inr}
use mathlib.Core.List.{List, [], ◌∷◌}
use Rattle.std.proofs.Math.ListN.{length}
use Rattle.paper.specs.declared.Rect.{Rect}
use Rattle.paper.specs.Grid.{Area, Any, Blocked}
use Rattle.paper.specs.Layout.{Thing, keep_out, wire, Sort, keep_outs, wires, sort_of, blocks_of, Layout}
use Rattle.paper.specs.Answer.{Bars}
use Rattle.paper.specs.Laws.Lists.{any_imp}
use Rattle.paper.specs.Laws.Among.{lt_cases}
use Rattle.paper.specs.Laws.Says.{Says, says_always, says_never}
use Rattle.blocks.specs.declared.Blocks.{Blocks}
use Rattle.blocks.specs.declared.Place.{Place}
use Rattle.blocks.specs.declared.Look.{Look}
use Rattle.blocks.specs.declared.Look.TheVariants.{KeepOuts, Wires}
use Rattle.blocks.specs.Flat.{place_area, looked, Stops, FirstIs, Hit, is_wire, Held, HeldOf}
use Rattle.paper.specs.Laws.Standing.{thing_at}
use Rattle.blocks.specs.Laws.Held.{items_are, held_wire, held_blocks}

-- ---- one answer

pub one_found : (b : Blocks) (look : Look) (p : Place) (r q : Option ℕ) → FirstIs b look p r → FirstIs b look p q → r ≡ q
unfolding FirstIs
one_found b look p (Some i) (Some j) f g =
    ⊎_elim (λ h. absurd (g.1 i h.0 f.0))
    (λ h. ⊎_elim (λ e. ap Some (sym e)) (λ l. absurd (f.1 j l g.0)) (eq-or-lt_of_le h.0)) (lt_cases i j)
one_found b look p (Some i) None f g = absurd (g i f.0)
one_found b look p None (Some j) f g = absurd (f j g.0)
one_found b look p None None f g = refl

-- ---- the first of the things

-- the first thing with the property stands at place i
unfoldable pub FirstOf : (Thing → Type 0) → List Thing → ℕ → Type 0
FirstOf P [] i = ⊥
FirstOf P (t ∷ ts) zero = P t
FirstOf P (t ∷ ts) (suc i) = (¬ (P t)) × FirstOf P ts i

-- that place was found, or no thing has the property
unfoldable pub FoundAmong : (Thing → Type 0) → List Thing → Option ℕ → Type 0
FoundAmong P ts (Some i) = FirstOf P ts i
FoundAmong P ts None = ¬ (Any P ts)

module _ (P : Thing → Type 0) where
  pub first_of : (ts : List Thing) (i : ℕ) → i < length ts → P (thing_at ts i) → ((j : ℕ) → j < i → ¬ (P (thing_at ts j))) → FirstOf P ts i
  unfolding FirstOf
  first_of [] i h p n = absurd (omega arith)
  first_of (t ∷ ts) zero h p n = p
  first_of (t ∷ ts) (suc i) h p n = (n 0 (omega arith), first_of ts i (omega arith) p (λ j l. n (suc j) (omega arith)))

  pub some_at : (ts : List Thing) → Any P ts → (i : ℕ) × (i < length ts) × P (thing_at ts i)
  unfolding Any
  some_at [] a = absurd a
  some_at (t ∷ ts) (inl p) = (0, omega arith, p)
  some_at (t ∷ ts) (inr a) = let s = some_at ts a in (suc s.0, omega (arith, s.1), s.2)

  first_any : (ts : List Thing) (i : ℕ) → FirstOf P ts i → Any P ts
  unfolding FirstOf Any
  first_any [] i f = f
  first_any (t ∷ ts) zero f = inl f
  first_any (t ∷ ts) (suc i) f = inr (first_any ts i f.1)

module _ (P Q : Thing → Type 0) (to : (t : Thing) → P t → Q t) (from : (t : Thing) → Q t → P t) where
  first_imp : (ts : List Thing) (i : ℕ) → FirstOf P ts i → FirstOf Q ts i
  unfolding FirstOf
  first_imp [] i f = f
  first_imp (t ∷ ts) zero f = to t f
  first_imp (t ∷ ts) (suc i) f = (λ q. f.0 (from t q), first_imp ts i f.1)

  found_imp : (ts : List Thing) (r : Option ℕ) → FoundAmong P ts r → FoundAmong Q ts r
  unfolding FoundAmong
  found_imp ts (Some i) f = first_imp ts i f
  found_imp ts None f = λ a. f (any_imp Q P from ts a)

-- the thing counts and blocks the place
unfoldable pub StopsAt : ℕ → Sort → Look → Place → Thing → Type 0
StopsAt c to look p t = (looked look (is_wire t) ≡ true) × Blocked (blocks_of c to t) (place_area p)

module _ {b : Blocks} {c : ℕ} {to : Sort} {ts : List Thing} (held : Held b c to ts) (look : Look) (p : Place) where
  pub stops_thing : (i : ℕ) → Stops b look p i → (i < length ts) × StopsAt c to look p (thing_at ts i)
  unfolding Stops StopsAt
  stops_thing i s =
      let h : i < length ts = rw (held.same, items_are) at s.0 in
      (h, (rw (held_wire held i) at s.1, subst (λ bs. Blocked bs (place_area p)) (held_blocks held i h) s.2))

  pub thing_stops : (i : ℕ) → i < length ts → StopsAt c to look p (thing_at ts i) → Stops b look p i
  unfolding Stops StopsAt
  thing_stops i h s = (
    rw (held.same, items_are) h,
    rw (held_wire held i) s.0,
    subst (λ bs. Blocked bs (place_area p)) (sym (held_blocks held i h)) s.1,
  )

  -- the thing that is found is the first, so that its id can be told
  pub scan_item : (r : Option ℕ) → FirstIs b look p r → FoundAmong (StopsAt c to look p) ts r
  unfolding FirstIs FoundAmong
  scan_item (Some i) f =
      let s = stops_thing i f.0 in
      first_of (StopsAt c to look p) ts i s.0 s.1 (λ j l q. f.1 j l (thing_stops j (omega (arith, s.0)) q))
  scan_item None f = λ a. let s = some_at (StopsAt c to look p) ts a in f s.0 (thing_stops s.0 s.1 s.2)

-- ---- whether something was found

-- an item was found just if P
abbrev Whether : Option ℕ → Type 0 → Type 0
Whether (Some i) P = P
Whether None P = ¬ P

whether_any : (P : Thing → Type 0) (ts : List Thing) (r : Option ℕ) → FoundAmong P ts r → Whether r (Any P ts)
unfolding FoundAmong
whether_any P ts (Some i) f = first_any P ts i f
whether_any P ts None f = f

-- ---- whether something of a sort blocks it

abbrev pub look_for : Sort → Look
look_for keep_outs = KeepOuts
look_for wires = Wires

abbrev pub rect_place : Rect → Place
rect_place r = record { x0 = r.x0; y0 = r.y0; x1 = r.x1; y1 = r.y1 }

pub looked_sort : (s : Sort) (t : Thing) → looked (look_for s) (is_wire t) ≡ true → sort_of t ≡ s
looked_sort keep_outs (keep_out i r) e = refl
looked_sort keep_outs (wire i ps) e = absurd (subst T (sym e) tt)
looked_sort wires (keep_out i r) e = absurd (subst T (sym e) tt)
looked_sort wires (wire i ps) e = refl

pub own_sort : (t : Thing) → looked (look_for (sort_of t)) (is_wire t) ≡ true
own_sort (keep_out i r) = refl
own_sort (wire i ps) = refl

-- by an item of the sort, whatever the place
pub scan_sort : {b : Blocks} (l : Layout) (to : Sort) → HeldOf b to l → (p : Place) (s : Sort) (r : Option ℕ) → FirstIs b (look_for s) p r
    → FoundAmong (Bars l to s (place_area p)) l.items r
unfolding Bars StopsAt
scan_sort l to held p s r f =
    found_imp (StopsAt l.size.clearance to (look_for s) p) _ (λ t h. (looked_sort s t h.0, h.1))
    (λ t h. (subst (λ s. looked (look_for s) (is_wire t) ≡ true) h.0 (own_sort t), h.1)) l.items r (scan_item held (look_for s) p r f)

scan_any : {b : Blocks} (l : Layout) (to : Sort) → HeldOf b to l → (p : Place) (s : Sort) (r : Option ℕ) → FirstIs b (look_for s) p r
    → Whether r (Any (Bars l to s (place_area p)) l.items)
scan_any l to held p s r f = whether_any (Bars l to s (place_area p)) l.items r (scan_sort l to held p s r f)

-- ---- the same of `hit`

says_whether : (f : Option ℕ) (P : Type 0) → Whether f P → Says (is_some f) P
says_whether (Some i) P h = says_always h
says_whether None P h = says_never h

hit_says : (b : Blocks) (look : Look) (p : Place) (P : Type 0) (r : Bool) → ((f : Option ℕ) → FirstIs b look p f → Whether f P) → Hit b look p r → Says r P
unfolding Hit
hit_says b look p P r each h = subst (λ r. Says r P) (sym h.2) (says_whether h.0 P (each h.0 h.1))

-- of the area that the place is
pub hit_any : {b : Blocks} (l : Layout) (to : Sort) → HeldOf b to l → (p : Place) (a : Area) → place_area p ≡ a → (s : Sort) (r : Bool)
    → Hit b (look_for s) p r → Says r (Any (Bars l to s a) l.items)
hit_any l to held p a e s r h = subst (λ a. Says r (Any (Bars l to s a) l.items)) e (hit_says _ (look_for s) p _ r (scan_any l to held p s) h)
