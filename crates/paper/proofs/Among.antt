-- An item put among the others and taken out again; what holds of all items, and of each two.
-- The definitions and lemmas under it stand in specs/Laws/Among.
use Rattle.std.specs.Prelude.{ℕ, ◌≤◌, ◌<◌, ◌≡◌, refl, List, [], ◌∷◌}
use Rattle.std.proofs.Common.{arith, ap, subst, ◌∙◌, inl, inr, ⊎_elim}
use Rattle.paper.specs.Grid.{Any, All, Pairs}
use Rattle.paper.specs.Layout.{Thing, id_of, block_count, Below, add, without, Has, Used}
use Rattle.paper.specs.Laws.Lists.{all_has}
use Rattle.paper.specs.Laws.Among.{add_cases, add_nil, without_cases, without_nil}

-- ---- all items

pub all_without : (P : Thing → Type 0) (i : ℕ) (ts : List Thing) → All P ts → All P (without i ts)
unfolding All
all_without P i [] a = rw (without_nil i) tt
all_without P i (u ∷ us) a =
    ⊎_elim (λ c. rw c.1 a.1) (λ c. rw c.1 (a.0, all_without P i us a.1)) (without_cases i u us)

-- ---- each two items

pub pairs_without : (R : Thing → Thing → Type 0) (i : ℕ) (ts : List Thing) → Pairs R ts → Pairs R (without i ts)
unfolding Pairs
pairs_without R i [] p = rw (without_nil i) tt
pairs_without R i (u ∷ us) p =
    ⊎_elim (λ c. rw c.1 p.1) (λ c. rw c.1 (all_without (R u) i us p.0, pairs_without R i us p.1)) (without_cases i u us)

-- ---- in and out again

pub without_add : (t : Thing) (ts : List Thing) → ¬ (Used ts (id_of t)) → without (id_of t) (add t ts) ≡ ts
unfolding Any
without_add t [] n = rw (add_nil t) (⊎_elim (λ c. c.1) (λ c. absurd (c.0 refl)) (without_cases (id_of t) t []))
without_add t (u ∷ us) n =
    ⊎_elim (λ c. rw c.1 (⊎_elim (λ d. absurd (n (inl d.0))) (λ d. d.1 ∙ ap (λ l. u ∷ l) (without_add t us (λ h. n (inr h))))
    (without_cases (id_of t) u (add t us))))
    (λ c. rw c.1 (⊎_elim (λ d. d.1) (λ d. absurd (d.0 refl)) (without_cases (id_of t) t (u ∷ us)))) (add_cases t u us)

-- all the others come after t
add_front : (t : Thing) (us : List Thing) → All (Below t) us → add t us ≡ t ∷ us
unfolding All
add_front t [] a = add_nil t
add_front t (u ∷ us) a = ⊎_elim (λ c. absurd (omega (arith, c.0, a.0))) (λ c. c.1) (add_cases t u us)

pub add_without : (t : Thing) (ts : List Thing) → Pairs Below ts → Has ts t → add t (without (id_of t) ts) ≡ ts
unfolding Pairs Any
add_without t [] p h = absurd h
add_without t (u ∷ us) p (inl e) =
    subst (λ v. add v (without (id_of v) (u ∷ us)) ≡ u ∷ us) e
    (⊎_elim (λ c. rw c.1 (add_front u us p.0)) (λ c. absurd (c.0 refl)) (without_cases (id_of u) u us))
add_without t (u ∷ us) p (inr h) =
    let before : id_of u < id_of t = all_has (Below u) us t p.0 h in
    ⊎_elim (λ c. absurd (omega (arith, c.0)))
    (λ c. rw c.1 (⊎_elim (λ d. d.1 ∙ ap (λ l. u ∷ l) (add_without t us p.1 h)) (λ d. absurd (omega (arith, d.0)))
    (add_cases t u (without (id_of t) us))))
    (without_cases (id_of t) u us)

not_used_after : (i : ℕ) (u : Thing) (us : List Thing) → id_of u ≡ i → All (Below u) us → ¬ (Used us i)
unfolding All Any
not_used_after i u [] e a h = h
not_used_after i u (v ∷ vs) e a (inl h) = omega (arith, a.0)
not_used_after i u (v ∷ vs) e a (inr h) = not_used_after i u vs e a.1 h

pub not_used_without : (i : ℕ) (ts : List Thing) → Pairs Below ts → ¬ (Used (without i ts) i)
unfolding Pairs Any
not_used_without i [] p = rw (without_nil i) (λ h. h)
not_used_without i (u ∷ us) p =
    ⊎_elim (λ c. rw c.1 (not_used_after i u us c.0 p.0))
    (λ c. rw c.1 (λ h. ⊎_elim c.0 (not_used_without i us p.1) h)) (without_cases i u us)

-- ---- how many blocks

pub count_without : (i : ℕ) (ts : List Thing) → block_count (without i ts) ≤ block_count ts
unfolding block_count
count_without i [] = rw (without_nil i) (omega arith)
count_without i (u ∷ us) =
    ⊎_elim (λ d. rw d.1 (omega arith)) (λ d. rw d.1 (omega (arith, count_without i us))) (without_cases i u us)
