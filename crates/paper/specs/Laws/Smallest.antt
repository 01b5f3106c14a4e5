-- The smallest id of the things with a property: where ids rise, that of the first of them.
-- Assumes nothing.
use Rattle.std.specs.Prelude.{ℕ, ◌≤◌, ◌≡◌, refl, Bool, cond, ◌⊎◌}
use Rattle.std.proofs.Common.{arith, sym, ◌∙◌}
use Rattle.std.proofs.Math.Path.{subst}
use Rattle.std.proofs.Math.Bool.{true, false}
use Rattle.std.proofs.Math.Logic.{inl, inr, ⊎_elim}
use mathlib.Core.List.{List, [], ◌∷◌}
use Rattle.paper.specs.Grid.{Any, All, Pairs}
use Rattle.paper.specs.Layout.{Thing, id_of, Below}
use Rattle.paper.specs.declared.Verdict.{Verdict}
use Rattle.paper.specs.Answer.{named, Check, ◌about◌naming◌, Gives}
use Rattle.paper.specs.Laws.Says.{Says}

-- what the first thing that passes the test gives, by its id; else v
unfoldable pub namedb : (Thing → Bool) → (ℕ → Verdict) → List Thing → Verdict → Verdict
namedb f give [] v = v
namedb f give (t ∷ ts) v = cond (f t) (give (id_of t)) (namedb f give ts v)

module _ (P : Thing → Type 0) where
  -- a thing with the property has the id
  abbrev pub HasId : List Thing → ℕ → Type 0
  HasId ts i = Any (λ t. (id_of t ≡ i) × P t) ts

  pub above : (t : Thing) (ts : List Thing) (k : ℕ) → All (Below t) ts → HasId ts k → id_of t ≤ k
  unfolding All Any
  above t [] k a h = absurd h
  above t (u ∷ ts) k a (inl h) = omega (arith, a.0, h.0)
  above t (u ∷ ts) k a (inr h) = above t ts k a.1 h

  module _ (f : Thing → Bool) (each : (t : Thing) → Says (f t) (P t)) (give : ℕ → Verdict) (v : Verdict) where
    abbrev Picks : List Thing → Type 0
    Picks ts =
        ((j : ℕ) × HasId ts j × ((k : ℕ) → HasId ts k → j ≤ k) × (namedb f give ts v ≡ give j))
        ⊎ (((j : ℕ) → ¬ (HasId ts j)) × (namedb f give ts v ≡ v))

    pick : (ts : List Thing) → Pairs Below ts → Picks ts
    unfolding Any All Pairs namedb
    pick [] r = inr (λ j h. h, refl)
    pick (t ∷ ts) r = go (f t) (each t) (pick ts r.1)
      where
        go : (b : Bool) → Says b (P t) → Picks ts → ((j : ℕ) × HasId (t ∷ ts) j × ((k : ℕ) → HasId (t ∷ ts) k → j ≤ k) × (cond b (give (id_of t)) (namedb f give ts v) ≡ give j))
            ⊎ (((j : ℕ) → ¬ (HasId (t ∷ ts) j)) × (cond b (give (id_of t)) (namedb f give ts v) ≡ v))
        go true s q = inl (id_of t, inl (refl, s.fact tt), λ k h. ⊎_elim (λ e. omega (arith, e.0)) (λ e. above t ts k r.0 e) h, refl)
        go false s q =
            ⊎_elim
            (λ p. inl (p.0, inr p.1, λ k h. ⊎_elim (λ e. absurd (s.test e.1)) (λ e. p.2 k e) h, p.3))
            (λ p. inr (λ j h. ⊎_elim (λ e. s.test e.1) (λ e. p.0 j e) h, p.1))
            q

    pub gives_naming : (n i : ℕ) (cs : List Check) (ts : List Thing) → Pairs Below ts → ((j : ℕ) → give j ≡ named n i j)
        → (((j : ℕ) → ¬ (HasId ts j)) → Gives cs v) → Gives ((n about i naming HasId ts) ∷ cs) (namedb f give ts v)
    unfolding Gives
    gives_naming n i cs ts r e rest =
        ⊎_elim (λ p. inl (p.0, p.1, p.2, p.3 ∙ e p.0)) (λ p. inr (p.0, subst (Gives cs) (sym p.1) (rest p.0))) (pick ts r)
