-- What the tests of rectangles against the wires that are held say, step by step.
-- Assumes nothing.
use Rattle.std.specs.Prelude.{ℕ, ◌≡◌, Bool, true, false, ◌⊎◌, get_or, Option, Some, None, is_some, MatchOption}
use Rattle.std.proofs.Common.{sym, ◌∙◌, inl, inr}
use Rattle.std.proofs.Math.Path.{ap, subst}
use Rattle.std.proofs.Math.Logic.{⊎_elim}
use mathlib.Core.List.{[], ◌∷◌}
use Rattle.std.proofs.Math.Dec.{T}
use Rattle.paper.specs.Grid.{Any, Hits, Blocked}
use Rattle.paper.specs.Laws.Says.{Says, says_as, says_always, says_never}
use Rattle.paper.specs.Laws.Joins.{join_of}
use Rattle.blocks.specs.declared.Blocks.{Blocks}
use Rattle.blocks.specs.declared.Place.{Place}
use Rattle.blocks.specs.declared.Look.{Look}
use Rattle.blocks.specs.declared.Look.TheVariants.{Wires}
use Rattle.blocks.specs.Flat.{place_area, place_at, first_at, FirstIs, Hit}
use Rattle.blocks.specs.Laws.Found.{one_found}
use Rattle.blocks.specs.Laws.Meeting.{one_said}
use Rattle.seams.specs.Seaming.{place_box, joined_is, kept_at, Across, Crosses, CrossesOf, CrossedAt, SeamAt, HitOr}

-- ---- one scan

hit_across : (b : Blocks) (p : Place) (r : Bool) → Hit b Wires p r → Says r (Across b (place_box p))
unfolding Hit FirstIs
hit_across b p r (Some i, f, e) = rw e (says_always (i, f.0))
hit_across b p r (None, f, e) = rw e (says_never (λ h. f h.0 h.1))

-- ---- one keep-out

-- the rectangle of item m, if it is a keep-out
abbrev pub IsKept : Blocks → ℕ → Option Place → Type 0
IsKept b m o = MatchOption o (get_or b.wires m false ≡ true) (λ q. (get_or b.wires m false ≡ false) × (q ≡ place_at b (first_at b m)))

not_both : {v : Bool} → v ≡ true → v ≡ false → ⊥
not_both e f = subst T (sym e ∙ f) tt

module _ (b : Blocks) (p : Place) (m : ℕ) where
  pub crosses_wire : get_or b.wires m false ≡ true → Says false (Crosses b p m)
  unfolding Crosses
  crosses_wire e = says_never (λ h. not_both e h.0)

  pub crosses_kept : (a : Place) (j : Option Place) (r : Bool) → (get_or b.wires m false ≡ false) × (a ≡ place_at b (first_at b m))
      → join_of (place_box a) (place_box p) ≡ joined_is j → MatchOption j (r ≡ false) (λ q. Hit b Wires q r) → Says r (Crosses b p m)
  unfolding Crosses Any
  crosses_kept a (Some q) r k f s =
      let w : join_of (kept_at b m) (place_box p) ≡ place_box q ∷ [] = rw k.1 at f in
      says_as (λ h. (k.0, rw w (inl h))) (λ h. ⊎_elim (λ x. x) (λ x. absurd x) (rw w at h.1)) (hit_across b q r s)
  crosses_kept a None r k f s =
      let w : join_of (kept_at b m) (place_box p) ≡ [] = rw k.1 at f in
      rw s (says_never (λ h. rw w at h.1))

-- ---- one, and those before it

pub crossed_says : (b : Blocks) (i : ℕ) (o : Option Place) (r : Bool) → IsKept b i o → MatchOption o (r ≡ false) (λ q. Says r (CrossesOf b i q))
    → Says r (CrossedAt b i)
unfolding CrossedAt
crossed_says b i (Some q) r k s = says_as (λ h. (k.0, subst (CrossesOf b i) k.1 h)) (λ h. subst (CrossesOf b i) (sym k.1) h.1) s
crossed_says b i None r k s = rw s (says_never (λ h. not_both k h.0))

-- ---- two keep-outs

module _ (b : Blocks) (p : Place) (m l : ℕ) where
  pub seam_first : get_or b.wires l false ≡ true → Says false (SeamAt b p m l)
  unfolding SeamAt
  seam_first e = says_never (λ h. not_both e h.0)

  pub seam_second : get_or b.wires m false ≡ true → Says false (SeamAt b p m l)
  unfolding SeamAt
  seam_second e = says_never (λ h. not_both e h.1)

  pub seam_kept : (a c : Place) (j : Option Place) (r : Bool) → IsKept b l (Some a) → IsKept b m (Some c)
      → join_of (place_box a) (place_box c) ≡ joined_is j → MatchOption j (r ≡ false) (λ q. Says r (Hits (place_box q) (place_area p))) → Says r (SeamAt b p m l)
  unfolding SeamAt Blocked Any
  seam_kept a c (Some q) r k w f s =
      let z : join_of (kept_at b l) (kept_at b m) ≡ place_box q ∷ [] = rw (k.1, w.1) at f in
      says_as (λ h. (k.0, w.0, rw z (inl h))) (λ h. ⊎_elim (λ x. x) (λ x. absurd x) (rw z at h.2)) s
  seam_kept a c None r k w f s =
      let z : join_of (kept_at b l) (kept_at b m) ≡ [] = rw (k.1, w.1) at f in
      rw s (says_never (λ h. rw z at h.2))

-- ---- what blocks the place, or else P: one answer

pub one_hit_or : (b : Blocks) (look : Look) (p : Place) (P : Type 0) (r q : Bool) → HitOr b look p P r → HitOr b look p P q → r ≡ q
unfolding HitOr Hit
one_hit_or b look p P r q (a, h, f) (c, k, g) = go (h.2 ∙ ap is_some (one_found b look p h.0 k.0 h.1 k.1) ∙ sym k.2) f g
  where
    not_both : true ≡ false → ⊥
    not_both e = subst T e tt

    go : a ≡ c → ((a ≡ true) × (r ≡ true)) ⊎ ((a ≡ false) × Says r P) → ((c ≡ true) × (q ≡ true)) ⊎ ((c ≡ false) × Says q P) → r ≡ q
    go e (inl f) (inl g) = f.1 ∙ sym g.1
    go e (inl f) (inr g) = absurd (not_both (sym f.0 ∙ e ∙ g.0))
    go e (inr f) (inl g) = absurd (not_both (sym g.0 ∙ sym e ∙ f.0))
    go e (inr f) (inr g) = one_said f.1 g.1
