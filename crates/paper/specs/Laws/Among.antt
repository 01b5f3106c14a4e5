-- An item put among the others and taken out again; what holds of all items, and of each two.
-- Assumes nothing.
use Rattle.std.specs.Prelude.{ℕ, ◌≤◌, ◌<◌, ◌≡◌, refl, Bool, true, false, not, cond, ◌⊎◌, List, [], ◌∷◌, T, ltb, eqb}
use Rattle.std.proofs.Common.{arith, sym, ap, subst, inl, inr, ⊎_elim, ltb→lt, nltb→le, eqb→eq}
use Rattle.std.proofs.Math.Dec.{eqb_refl}
use Rattle.paper.specs.Grid.{Any, All, Pairs}
use Rattle.paper.specs.Layout.{Thing, id_of, block_count, Below, add, without, Used}
use Rattle.paper.specs.Laws.Lists.{all_imp}

-- ---- the tests on numbers by cases

pub lt_cases : (a b : ℕ) → ((a < b) × (ltb a b ≡ true)) ⊎ ((b ≤ a) × (ltb a b ≡ false))
lt_cases a b = go (ltb a b) refl
  where
    go : (k : Bool) → ltb a b ≡ k → ((a < b) × (ltb a b ≡ true)) ⊎ ((b ≤ a) × (ltb a b ≡ false))
    go true e = inl (ltb→lt a b (subst T (sym e) tt), e)
    go false e = inr (nltb→le a b (subst (λ k. T (not k)) (sym e) tt), e)

pub eq_cases : (a b : ℕ) → ((a ≡ b) × (eqb a b ≡ true)) ⊎ ((¬ (a ≡ b)) × (eqb a b ≡ false))
eq_cases a b = go (eqb a b) refl
  where
    go : (k : Bool) → eqb a b ≡ k → ((a ≡ b) × (eqb a b ≡ true)) ⊎ ((¬ (a ≡ b)) × (eqb a b ≡ false))
    go true e = inl (eqb→eq a b (subst T (sym e) tt), e)
    go false e = inr (λ p. subst T e (subst (λ n. T (eqb a n)) p (eqb_refl a)), e)

-- ---- where an item goes

pub add_nil : (t : Thing) → add t [] ≡ t ∷ []
unfolding add
add_nil t = refl

pub add_cases : (t u : Thing) (us : List Thing)
    → ((id_of u < id_of t) × (add t (u ∷ us) ≡ u ∷ add t us)) ⊎ ((id_of t ≤ id_of u) × (add t (u ∷ us) ≡ t ∷ u ∷ us))
unfolding add
add_cases t u us =
    ⊎_elim (λ c. inl (c.0, ap (λ k. cond k (u ∷ add t us) (t ∷ u ∷ us)) c.1))
    (λ c. inr (c.0, ap (λ k. cond k (u ∷ add t us) (t ∷ u ∷ us)) c.1)) (lt_cases (id_of u) (id_of t))

pub without_nil : (i : ℕ) → without i [] ≡ []
unfolding without
without_nil i = refl

pub without_cases : (i : ℕ) (u : Thing) (us : List Thing)
    → ((id_of u ≡ i) × (without i (u ∷ us) ≡ us)) ⊎ ((¬ (id_of u ≡ i)) × (without i (u ∷ us) ≡ u ∷ without i us))
unfolding without
without_cases i u us =
    ⊎_elim (λ c. inl (c.0, ap (λ k. cond k us (u ∷ without i us)) c.1))
    (λ c. inr (c.0, ap (λ k. cond k us (u ∷ without i us)) c.1)) (eq_cases (id_of u) i)

-- ---- all items

pub all_add : (P : Thing → Type 0) (t : Thing) (ts : List Thing) → P t → All P ts → All P (add t ts)
unfolding All
all_add P t [] p a = rw (add_nil t) (p, tt)
all_add P t (u ∷ us) p a =
    ⊎_elim (λ c. rw c.1 (a.0, all_add P t us p a.1)) (λ c. rw c.1 (p, a)) (add_cases t u us)

-- ---- each two items

pub pairs_add : (R : Thing → Thing → Type 0) → ((a b : Thing) → R a b → R b a)
    → (t : Thing) (ts : List Thing) → All (R t) ts → Pairs R ts → Pairs R (add t ts)
unfolding All Pairs
pairs_add R turn t [] a p = rw (add_nil t) (tt, tt)
pairs_add R turn t (u ∷ us) a p =
    ⊎_elim (λ c. rw c.1 (all_add (R u) t us (turn t u a.0) p.0, pairs_add R turn t us a.1 p.1))
    (λ c. rw c.1 (a, p)) (add_cases t u us)

pub rising_add : (t : Thing) (ts : List Thing) → ¬ (Used ts (id_of t)) → Pairs Below ts → Pairs Below (add t ts)
unfolding All Pairs Any
rising_add t [] n p = rw (add_nil t) (tt, tt)
rising_add t (u ∷ us) n p =
    ⊎_elim (λ c. rw c.1 (all_add (Below u) t us c.0 p.0, rising_add t us (λ h. n (inr h)) p.1))
    (λ c. let other : ¬ (id_of u ≡ id_of t) = λ e. n (inl e) in
    let before : id_of t < id_of u = omega (arith, c.0) in
    rw c.1 ((before, all_imp (Below u) (Below t) (λ v h. omega arith) us p.0), p)) (add_cases t u us)

-- ---- how many blocks

pub count_add : (t : Thing) (ts : List Thing) → block_count (add t ts) ≡ block_count (t ∷ ts)
unfolding block_count
count_add t [] = rw (add_nil t)
count_add t (u ∷ us) =
    ⊎_elim (λ d. rw d.1 (omega (arith, count_add t us))) (λ d. rw d.1) (add_cases t u us)
