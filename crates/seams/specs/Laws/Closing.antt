-- What the tests of rectangles say of the things that the arrays hold.
-- Assumes nothing.
use Rattle.std.specs.Prelude.{ℕ, zero, suc, ◌+◌, ◌-◌, ◌≤◌, ◌<◌, ◌≡◌, refl, Bool, true, false, not, T, take, get_or}
use native.Mathlib.Omega.{arith}
use Rattle.std.proofs.Math.Path.{sym, ap, subst}
use Rattle.std.proofs.Common.{◌∙◌, inl, inr, length-take-le}
use mathlib.Core.List.{List, [], ◌∷◌, cons-ne-nil, head-eq_of_cons-eq}
use Rattle.std.proofs.Math.ListN.{length}
use Rattle.std.proofs.Math.Seq.{get_or-take}
use Rattle.paper.specs.declared.Rect.{Rect}
use Rattle.paper.specs.declared.Size.{Size}
use Rattle.paper.specs.Limits.{most_blocks}
use Rattle.paper.specs.Grid.{Area, Block, widened, Hits, Any, All, Pairs, Blocked}
use Rattle.paper.specs.Layout.{Thing, keep_out, wire, Sort, keep_outs, wires, sort_of, areas, blocks_of, Apart, ThingFits, Seamless}
use Rattle.paper.specs.Laws.Lists.{any_imp, any_elim, any_image, any_back, any_flip}
use Rattle.paper.specs.Laws.Says.{Says, says_as, says_not}
use Rattle.paper.specs.Laws.Standing.{no_thing, thing_at}
use Rattle.paper.specs.Laws.Joins.{join_of}
use Rattle.paper.specs.Laws.Seams.{solid}
use Rattle.paper.specs.Laws.Joining.{join_imp}
use Rattle.paper.specs.Laws.Closing.{box, hits_flip, Barring, Crossed, Bars, Hampers}
use Rattle.paper.proofs.Closing.{seamless_in, seamless_out}
use Rattle.blocks.specs.declared.Blocks.{Blocks}
use Rattle.blocks.specs.declared.Place.{Place}
use Rattle.blocks.specs.declared.Look.TheVariants.{Wires}
use Rattle.blocks.specs.Flat.{place_at, block_at, listed, first_at, looked, is_wire, Held}
use Rattle.seams.specs.Seaming.{place_box, box_place, Keeps, kept_at, Across, Crosses, CrossesOf, CrossedAt, CrossedAny}
use Rattle.blocks.specs.Laws.Held.{items_are, held_fits, held_wire, held_blocks}
use Rattle.blocks.specs.Laws.Found.{some_at, StopsAt, stops_thing, thing_stops, look_for, looked_sort, own_sort}

-- ---- lists

pub at_any : (P : Thing → Type 0) (ts : List Thing) (i : ℕ) → i < length ts → P (thing_at ts i) → Any P ts
unfolding Any
at_any P [] i h p = absurd (omega arith)
at_any P (t ∷ ts) zero h p = inl p
at_any P (t ∷ ts) (suc i) h p = inr (at_any P ts i (omega arith) p)

head_of : {A : Type 0} (f : ℕ → A) (k n : ℕ) (x : A) → listed f k n ≡ x ∷ [] → (f k ≡ x) × (1 ≤ n)
unfolding listed
head_of f k zero x e = absurd (cons-ne-nil x [] (sym e))
head_of f k (suc n) x e = (head-eq_of_cons-eq e, omega arith)

-- the keep-out at the place
pub record KeptIs (ts : List Thing) (i : ℕ) (k : Block) : Type 0 where
  pub id : ℕ
  pub rect : Rect
  pub thing : thing_at ts i ≡ keep_out id rect
  pub same : k ≡ box rect

pub solid_at : (P : Block → Type 0) (ts : List Thing) (i : ℕ) (k : Block) → i < length ts → KeptIs ts i k → P k → Any P (solid ts)
unfolding Any solid
solid_at P [] i k h e p = absurd (omega arith)
solid_at P (keep_out j r ∷ ts) zero k h e p =
    let z : keep_out j r ≡ keep_out e.id e.rect = e.thing in
    let q : r ≡ e.rect = cc in
    inl (subst P (e.same ∙ ap box (sym q)) p)
solid_at P (keep_out j r ∷ ts) (suc i) k h e p =
    inr (solid_at P ts i k (omega arith) (record { id = e.id; rect = e.rect; thing = e.thing; same = e.same }) p)
solid_at P (wire j ps ∷ ts) zero k h e p = absurd (let z : wire j ps ≡ keep_out e.id e.rect = e.thing in let o : ◌≡◌ {A = ℕ} 0 1 = cc in omega arith)
solid_at P (wire j ps ∷ ts) (suc i) k h e p =
    solid_at P ts i k (omega arith) (record { id = e.id; rect = e.rect; thing = e.thing; same = e.same }) p

pub at_solid : (P : Block → Type 0) (ts : List Thing) → Any P (solid ts) → (i : ℕ) × (j : ℕ) × (r : Rect) × (i < length ts) × (thing_at ts i ≡ keep_out j r) × P (box r)
unfolding Any solid
at_solid P [] h = absurd h
at_solid P (keep_out j r ∷ ts) (inl p) = (0, j, r, omega arith, refl, p)
at_solid P (keep_out j r ∷ ts) (inr h) = let u = at_solid P ts h in (suc u.0, u.1, u.2, omega (arith, u.3), u.4, u.5)
at_solid P (wire j ps ∷ ts) h = let u = at_solid P ts h in (suc u.0, u.1, u.2, omega (arith, u.3), u.4, u.5)

-- ---- a rectangle, and the wires that go across it

abbrev WireOn : List Block → Thing → Type 0
WireOn js u = (sort_of u ≡ wires) × Any (Blocked js) (areas u)

crossed_out : (k : Block) (bs : List Block) (us : List Thing) → Crossed k bs us → Any (λ b. Any (WireOn (join_of b k)) us) bs
unfolding Crossed Barring
crossed_out k bs us h =
    any_flip _ us bs (any_imp _ _ (λ u p. any_imp _ _ (λ b q. (p.0, q)) bs (any_flip (λ a b. Blocked (join_of b k) a) (areas u) bs p.1)) us h)

module _ (k : Block) (u : Thing) where
  own_sort_of : (bs : List Block) → Any (λ b. WireOn (join_of b k) u) bs → sort_of u ≡ wires
  own_sort_of bs h = any_elim (λ b. WireOn (join_of b k) u) (λ b z. z.0) bs h

  own_runs : (bs : List Block) → Any (λ b. WireOn (join_of b k) u) bs → Any (λ a. Any (λ b. Blocked (join_of b k) a) bs) (areas u)
  own_runs bs h = any_flip (λ b a. Blocked (join_of b k) a) bs (areas u) (any_imp (λ b. WireOn (join_of b k) u) _ (λ b q. q.1) bs h)

crossed_in : (k : Block) (bs : List Block) (us : List Thing) → Any (λ b. Any (WireOn (join_of b k)) us) bs → Crossed k bs us
unfolding Crossed Barring
crossed_in k bs us h =
    any_imp (λ u. Any (λ b. WireOn (join_of b k) u) bs) _ (λ u p. (own_sort_of k u bs p, own_runs k u bs p)) us (any_flip (λ b u. WireOn (join_of b k) u) bs us h)

-- a keep-out is one block, which is not widened
pub kept_blocks : (c : ℕ) (to : Sort) (i : ℕ) (r : Rect) → blocks_of c to (keep_out i r) ≡ box r ∷ []
unfolding blocks_of areas
kept_blocks c keep_outs i r = refl
kept_blocks c wires i r = refl

no_wire : (t : Thing) → is_wire t ≡ false → (i : ℕ) × (r : Rect) × (t ≡ keep_out i r)
no_wire (keep_out i r) e = (i, r, refl)
no_wire (wire i ps) e = absurd (subst T e tt)

module _ {b : Blocks} {c : ℕ} {to : Sort} {ts : List Thing} (held : Held b c to ts) where
  pub count_of : b.items ≡ length ts
  count_of = rw held.same (items_are c to ts)

  pub not_a_wire : (i j : ℕ) (r : Rect) → thing_at ts i ≡ keep_out j r → get_or b.wires i false ≡ false
  not_a_wire i j r e = held_wire held i ∙ ap is_wire e

  pub block_is : (i : ℕ) (j : ℕ) (r : Rect) → i < length ts → thing_at ts i ≡ keep_out j r → (kept_at b i ≡ box r) × (first_at b i < most_blocks)
  unfolding block_at
  block_is i j r h e =
      let w = head_of (block_at b) (first_at b i) (first_at b (i + 1) - first_at b i) (box r) (held_blocks held i h ∙ ap (blocks_of c to) e ∙ kept_blocks c to j r) in
      let f : first_at b (i + 1) ≤ most_blocks = (held_fits held).ends_few (i + 1) (omega (arith, count_of)) in
      let p = w.0 in (
        (λ z. record {
          along_x = record { lo = (p z).along_x.lo; hi = (p z).along_x.hi; c = 0 };
          along_y = record { lo = (p z).along_y.lo; hi = (p z).along_y.hi; c = 0 };
        }),
        omega (arith, w.1, f),
      )

  pub kept_is : (i : ℕ) → i < length ts → get_or b.wires i false ≡ false → KeptIs ts i (kept_at b i)
  kept_is i h e =
      let t = no_wire (thing_at ts i) (sym (held_wire held i) ∙ e) in
      record { id = t.0; rect = t.1; thing = t.2; same = (block_is i t.0 t.1 h t.2).0 }

  pub held_keeps : Keeps b
  held_keeps = record {
    fits = held_fits held;
    kept = λ i h e.
        let l : i < length ts = omega (arith, count_of) in
        let k = kept_is i l e in
        (block_is i k.id k.rect l k.thing).1;
  }

-- ---- the wires that the arrays hold, to a keep-out

wire_on : (c : ℕ) (s : Area) (u : Thing) → Blocked (blocks_of c keep_outs u) s → Any (Hits (widened 0 s)) (areas u)
unfolding Blocked blocks_of
wire_on c s (keep_out i r) h = any_imp _ _ (λ a k. hits_flip a s k) _ (any_back (λ q. Hits q s) (widened 0) _ h)
wire_on c s (wire i ps) h = any_imp _ _ (λ a k. hits_flip a s k) _ (any_back (λ q. Hits q s) (widened 0) _ h)

on_wire : (c : ℕ) (s : Area) (u : Thing) → Any (Hits (widened 0 s)) (areas u) → Blocked (blocks_of c keep_outs u) s
unfolding Blocked blocks_of
on_wire c s (keep_out i r) h = any_image (λ q. Hits q s) (widened 0) _ (any_imp _ _ (λ a k. hits_flip s a k) _ h)
on_wire c s (wire i ps) h = any_image (λ q. Hits q s) (widened 0) _ (any_imp _ _ (λ a k. hits_flip s a k) _ h)

abbrev HitOn : Block → Thing → Type 0
HitOn q u = (sort_of u ≡ wires) × Any (Hits q) (areas u)

module _ {b : Blocks} {c : ℕ} {ts : List Thing} (held : Held b c keep_outs ts) where
  across_out : (s : Area) → Across b (widened 0 s) → Any (HitOn (widened 0 s)) ts
  unfolding StopsAt
  across_out s h =
      let u = stops_thing held Wires (box_place (widened 0 s)) h.0 h.1 in
      at_any (HitOn (widened 0 s)) ts h.0 u.0 (looked_sort wires (thing_at ts h.0) u.1.0, wire_on c s (thing_at ts h.0) u.1.1)

  across_in : (s : Area) → Any (HitOn (widened 0 s)) ts → Across b (widened 0 s)
  unfolding StopsAt
  across_in s h =
      let u = some_at (HitOn (widened 0 s)) ts h in (
        u.0,
        thing_stops held Wires (box_place (widened 0 s)) u.0 u.1
            (subst (λ o. looked (look_for o) (is_wire (thing_at ts u.0)) ≡ true) u.2.0 (own_sort (thing_at ts u.0)), on_wire c s (thing_at ts u.0) u.2.1),
      )

  -- the rectangle of two, and a wire of all
  joins_out : (x y : Block) → Any (Across b) (join_of x y) → Any (WireOn (join_of x y)) ts
  unfolding Blocked
  joins_out x y h =
      let g = any_flip HitOn (join_of x y) ts (join_imp (Across b) (λ q. Any (HitOn q) ts) across_out x y h) in
      any_imp (λ u. Any (λ q. HitOn q u) (join_of x y)) (WireOn (join_of x y)) (λ u p. (
        any_elim (λ q. HitOn q u) (λ q z. z.0) (join_of x y) p,
        any_flip (λ q a. Hits q a) (join_of x y) (areas u) (any_imp (λ q. HitOn q u) _ (λ q z. z.1) (join_of x y) p),
      )) ts g

  joins_in : (x y : Block) → Any (WireOn (join_of x y)) ts → Any (Across b) (join_of x y)
  unfolding Blocked
  joins_in x y h =
      join_imp (λ q. Any (HitOn q) ts) (Across b) across_in x y
      (any_flip (λ u q. HitOn q u) ts (join_of x y) (any_imp (WireOn (join_of x y)) (λ u. Any (λ q. HitOn q u) (join_of x y))
      (λ u p. any_imp _ _ (λ q z. (p.0, z)) (join_of x y) (any_flip (λ a q. Hits q a) (areas u) (join_of x y) p.1)) ts h))

  module _ (n : ℕ) (few : n ≤ length ts) (p : Place) where
    length_front : length (take n ts) ≡ n
    length_front = length-take-le n ts few

    pub crosses_out : CrossesOf b n p → Crossed (place_box p) (solid (take n ts)) ts
    unfolding Crosses
    crosses_out h =
        let l : h.0 < length ts = omega (arith, h.1) in
        let k = kept_is held h.0 l h.2.0 in
        crossed_in (place_box p) (solid (take n ts)) ts
        (solid_at (λ b. Any (WireOn (join_of b (place_box p))) ts) (take n ts) h.0 (kept_at b h.0) (omega (arith, h.1, length_front))
        (record { id = k.id; rect = k.rect; thing = get_or-take n ts h.0 no_thing h.1 ∙ k.thing; same = k.same })
        (joins_out (kept_at b h.0) (place_box p) h.2.1))

    pub crosses_in : Crossed (place_box p) (solid (take n ts)) ts → CrossesOf b n p
    unfolding Crosses
    crosses_in h =
        let u = at_solid (λ b. Any (WireOn (join_of b (place_box p))) ts) (take n ts) (crossed_out (place_box p) (solid (take n ts)) ts h) in
        let m : u.0 < n = omega (arith, u.3, length_front) in
        let t : thing_at ts u.0 ≡ keep_out u.1 u.2 = sym (get_or-take n ts u.0 no_thing m) ∙ u.4 in
        let l : u.0 < length ts = omega arith in (
          u.0,
          m,
          (
            not_a_wire held u.0 u.1 u.2 t,
            subst (λ k. Any (Across b) (join_of k (place_box p))) (sym (block_is held u.0 u.1 u.2 l t).0) (joins_in (box u.2) (place_box p) u.5),
          ),
        )

-- ---- code 17

module _ {b : Blocks} {c : ℕ} {ts : List Thing} (held : Held b c keep_outs ts) (z : Size) (f : All (ThingFits z) ts) (d : ℕ) (a : Pairs (Apart d) ts) where
  at_out : (i : ℕ) → i < length ts → CrossedAt b i → Hampers z ts f i
  unfolding CrossedAt Bars Crossed
  at_out i h k =
      let t = kept_is held i h k.0 in
      let w : Crossed (box t.rect) (solid (take i ts)) ts
      = subst (λ q. Crossed q (solid (take i ts)) ts) t.same (crosses_out held i (omega arith) (place_at b (first_at b i)) k.1) in
      subst (λ u. Any (λ v. (sort_of v ≡ wires) × Any (Bars u (solid (take i ts))) (areas v)) ts) (sym t.thing) w

  at_in : (i : ℕ) → i < length ts → (t : Thing) → thing_at ts i ≡ t → Any (λ v. (sort_of v ≡ wires) × Any (Bars t (solid (take i ts))) (areas v)) ts → CrossedAt b i
  unfolding CrossedAt Bars Crossed
  at_in i h (keep_out j r) e k = (
    not_a_wire held i j r e,
    crosses_in held i (omega arith) (place_at b (first_at b i))
        (subst (λ q. Crossed q (solid (take i ts)) ts) (sym (block_is held i j r h e).0) k),
  )
  at_in i h (wire j ps) e k = absurd (any_elim _ (λ v p. none (areas v) p.1) ts k)
    where
      none : (rs : List Area) → ¬ (Any (λ r. ⊥) rs)
      none rs q = any_elim (λ r. ⊥) (λ r x. x) rs q

  -- no wire goes along a seam just if none goes across a rectangle of two keep-outs
  pub seamless_said : (r : Bool) → Says r (CrossedAny b) → Says (not r) (Seamless ts)
  seamless_said r s =
      says_as
      (λ n. seamless_in z ts f d a (λ i h k. n (i, omega (arith, count_of held), at_in i h (thing_at ts i) refl k)))
      (λ n k. let l : k.0 < length ts = omega (arith, k.1, count_of held) in seamless_out z ts f n k.0 l (at_out k.0 l k.2))
      (says_not s)
