-- The shape of the runs: each goes along the axis that the first one says, by turns.
-- Assumes nothing.
use Prim.Native.Nat.{ℕ, zero, suc, ◌+◌, ◌-◌, ◌≤◌, ◌<◌}
use native.Mathlib.Omega.{arith}
use Rattle.std.proofs.Common.{add-one, sym, inl, inr, ⊎_elim}
use Rattle.std.specs.Prelude.{◌≡◌, refl, Err, Bool, true, false, not, ◌⊎◌, List, [], ◌∷◌, length}
use Rattle.std.proofs.Math.Path.{ap, subst}
use Rattle.paper.specs.declared.Item.{Item}
use Rattle.paper.specs.declared.Refusal.TheVariants.{BadRun}
use Rattle.paper.specs.declared.Verdict.{Verdict}
use Rattle.paper.specs.Limits.{most_corners, most_runs}
use Rattle.paper.specs.Grid.{Axis, level, upright, Area}
use Rattle.paper.specs.Wire.{runs}
use Rattle.paper.specs.Layout.{Along, across}
use Rattle.paper.specs.Answer.{placed, plain, Check, ◌about◌if◌, Gives}
use Rattle.paper.specs.Drawn.{Bent, Unturned, shape_checks}
use Rattle.paper.specs.Laws.Says.{Says}
use Rattle.paper.specs.Laws.Tests.{alongb, along_says}
use Rattle.paper.specs.Laws.Bent.{not_both, straight_not_bent, across_turned}
use Rattle.blocks.specs.Flat.{listed}
use Rattle.blocks.specs.Growing.{stretch_at}
use Rattle.shapes.specs.Corners.{axis_for, corners_of}
use Rattle.shapes.specs.Laws.Corners.{runs_are, other_axis}
use Rattle.paper.specs.declared.Refusal.{Refusal}
use Rattle.shapes.specs.declared.Fault.{Fault}
use Rattle.shapes.specs.Faults.{fault_of, fault_at}

-- the runs, the first of which is run k, go along the axis by turns
unfoldable pub by_turns : Axis → ℕ → List Area → List Check
by_turns a k [] = []
by_turns a k (r ∷ rs) = (23 about k if (¬ (Along a r))) ∷ by_turns (across a) (suc k) rs

-- ---- the same first bad run

which : (a : Axis) (r : Area) → Along a r ⊎ Along (across a) r ⊎ Bent r
which a r = go a (alongb level r) (alongb upright r) (along_says level r) (along_says upright r)
  where
    go : (a : Axis) (p q : Bool) → Says p (Along level r) → Says q (Along upright r) → Along a r ⊎ Along (across a) r ⊎ Bent r
    go level true q x y = inl (x.fact tt)
    go level false true x y = inr (inl (y.fact tt))
    go level false false x y = inr (inr (x.test, y.test))
    go upright p true x y = inl (y.fact tt)
    go upright true false x y = inr (inl (x.fact tt))
    go upright false false x y = inr (inr (x.test, y.test))

bent_not : (a : Axis) (r : Area) → Bent r → ¬ (Along a r)
bent_not level r b = b.0
bent_not upright r b = b.1

bent_turned : (q r : Area) → Bent r → ¬ (Unturned q r)
bent_turned q r b (inl u) = b.0 u.1
bent_turned q r b (inr u) = b.1 u.1

both_axes : (a : Axis) (r : Area) → Along a r → Along (across a) r → ⊥
both_axes level r h k = not_both r h k
both_axes upright r h k = not_both r k h

unturned : (a : Axis) (q r : Area) → Along a q → Along a r → Unturned q r
unturned level q r h k = inl (h, k)
unturned upright q r h k = inr (h, k)

first_bent : (k : ℕ) (q : Area) (rs : List Area) (v : Verdict) → Bent q → v ≡ placed 23 k → Gives (shape_checks k (q ∷ rs)) v
unfolding Gives shape_checks
first_bent k q [] v b e = inl (b, e)
first_bent k q (r ∷ rs) v b e = inl (b, e)

pub shape_by_turns : (a : Axis) (k : ℕ) (q : Area) (rs : List Area) (v : Verdict) → Along a q ⊎ Bent q → Gives (by_turns a k (q ∷ rs)) v → Gives (shape_checks k (q ∷ rs)) v
unfolding Gives by_turns shape_checks
shape_by_turns a k q [] v (inl h) (inl g) = absurd (g.0 h)
shape_by_turns a k q [] v (inl h) (inr g) = inr (straight_not_bent a q h, g.1)
shape_by_turns a k q [] v (inr b) (inl g) = first_bent k q [] v b g.1
shape_by_turns a k q [] v (inr b) (inr g) = absurd (g.0 (bent_not a q b))
shape_by_turns a k q (r ∷ rs) v (inr b) (inl g) = first_bent k q (r ∷ rs) v b g.1
shape_by_turns a k q (r ∷ rs) v (inr b) (inr g) = absurd (g.0 (bent_not a q b))
shape_by_turns a k q (r ∷ rs) v (inl h) (inl g) = absurd (g.0 h)
shape_by_turns a k q (r ∷ rs) v (inl h) (inr g) =
    inr (
      straight_not_bent a q h,
      ⊎_elim
          (λ x. inl (unturned a q r h x, ⊎_elim (λ y. y.1) (λ y. absurd (y.0 (λ z. both_axes a r x z))) g.1))
          (⊎_elim
          (λ x. inr (across_turned a q r h x, shape_by_turns (across a) (suc k) r rs v (inl x) g.1))
          (λ x. inr (bent_turned q r x, shape_by_turns (across a) (suc k) r rs v (inr x) g.1)))
          (which a r),
    )

-- ---- the loop

-- whatever the runs from k on give, all of them give; the run at k is to go along the axis that `flat` says
unfoldable pub Ahead : Item → ℕ → ℕ → Bool → Type 0
Ahead m n k flat = (v : Verdict) → Gives (by_turns (axis_for flat) (k + 1) (listed (stretch_at m) k (n - k))) v
    → Gives (shape_checks 1 (runs (corners_of m (n + 1)))) v

axis_said : (b : Bool) (r : Area) → Says b (Along level r) → Along (axis_for b) r ⊎ Bent r
axis_said true r s = inl (s.fact tt)
axis_said false r s = ⊎_elim (λ x. absurd (s.test x)) (λ x. x) (which level r)

module _ (m : Item) (n : ℕ) where
  pub ahead_start : length m.xs ≡ most_corners → length m.ys ≡ most_corners → n ≤ most_runs → (flat : Bool) → Says flat (Along level (stretch_at m 0))
      → Ahead m n 0 flat
  unfolding Ahead
  ahead_start lx ly h flat s v g =
      let e : n - 0 ≡ n = omega arith in
      rw (runs_are m lx ly n h) (go n (subst (λ i. Gives (by_turns (axis_for flat) 1 (listed (stretch_at m) 0 i)) v) e g))
    where
      go : (n : ℕ) → Gives (by_turns (axis_for flat) 1 (listed (stretch_at m) 0 n)) v → Gives (shape_checks 1 (listed (stretch_at m) 0 n)) v
      go zero g = unfold listed Gives by_turns shape_checks in g
      go (suc n) g = unfold listed in shape_by_turns (axis_for flat) 1 (stretch_at m 0) (listed (stretch_at m) 1 n) v (axis_said flat (stretch_at m 0) s) g

  module _ (k : ℕ) (flat : Bool) (t : Ahead m n k flat) where
    onward : k < n → listed (stretch_at m) k (n - k) ≡ stretch_at m k ∷ listed (stretch_at m) (k + 1) (n - (k + 1))
    unfolding listed
    onward h = let e : n - k ≡ suc (n - (k + 1)) = omega arith in rw (e, add-one)

    pub ahead_next : k < n → Along (axis_for flat) (stretch_at m k) → Ahead m n (k + 1) (not flat)
    unfolding Ahead Gives by_turns
    ahead_next h a v g =
        t v (rw (onward h) (inr (
          λ x. x a,
          subst (λ b. Gives (by_turns b (suc (k + 1)) (listed (stretch_at m) (k + 1) (n - (k + 1)))) v) (sym (other_axis flat))
              (subst (λ i. Gives (by_turns (axis_for (not flat)) i (listed (stretch_at m) (k + 1) (n - (k + 1)))) v) (add-one (k + 1)) g),
        )))

    pub ahead_stop : k < n → ¬ (Along (axis_for flat) (stretch_at m k)) → (f : Fault Refusal) → f ≡ fault_at BadRun k → Gives (shape_checks 1 (runs (corners_of m (n + 1)))) (fault_of (Err f))
    unfolding Ahead Gives by_turns
    ahead_stop h a f e = t (fault_of (Err f)) (rw (onward h) (inl (a, ap (λ f. fault_of (Err f)) e)))

    pub ahead_end : n ≤ k → Gives (shape_checks 1 (runs (corners_of m (n + 1)))) (plain 0)
    unfolding Ahead Gives by_turns listed
    ahead_end h = let z : n - k ≡ 0 = omega arith in t (plain 0) (rw z refl)
