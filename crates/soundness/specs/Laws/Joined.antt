-- Items that fit, with one more: after the last, or wherever its id belongs.
-- Assumes nothing.
use Rattle.std.specs.Prelude.{ℕ, ◌+◌, ◌≤◌, ◌<◌, ◌≡◌, refl, Bool, ◌⊎◌, length}
use native.Mathlib.Omega.{arith}
use Rattle.std.proofs.Common.{ap, subst, ◌∙◌, inl, ⊎_elim}
use Rattle.std.proofs.Math.Logic.{inr}
use mathlib.Core.List.{List, [], ◌∷◌, ◌++◌}
use Rattle.paper.specs.declared.Size.{Size}
use Rattle.paper.specs.Grid.{Any, All, Pairs}
use Rattle.paper.specs.Layout.{Thing, keep_out, wire, id_of, areas, block_count, Apart, ThingFits, Below, ItemsApart, add, Used}
use Rattle.paper.specs.Laws.Lists.{all_imp, all_join, all_has, any_right}
use Rattle.paper.specs.Laws.Among.{add_nil, add_cases, count_add}
use Rattle.paper.proofs.Apart.{apart_turn}
use Rattle.paper.specs.Laws.Back.{has_add}
use Rattle.paper.proofs.Next.{apart_add}
use Rattle.paper.specs.Laws.Says.{Says, says_as}
use Rattle.soundness.specs.Joining.{Joins}

pub id_fits : (s : Size) (t : Thing) → ThingFits s t → 1 ≤ id_of t
unfolding ThingFits
id_fits s (keep_out i r) f = f.0
id_fits s (wire i ps) f = f.0

-- ---- one more, wherever it belongs

pairs_add_back : (R : Thing → Thing → Type 0) → ((a b : Thing) → R a b → R b a) → (t : Thing) (ts : List Thing) → Pairs R (add t ts) → All (R t) ts
unfolding All Pairs
pairs_add_back R turn t [] p = tt
pairs_add_back R turn t (u ∷ us) p =
    ⊎_elim (λ c. let q : Pairs R (u ∷ add t us) = rw c.1 at p in
    (turn u t (all_has (R u) (add t us) t q.0 (has_add t us)), pairs_add_back R turn t us q.1))
    (λ c. let q : Pairs R (t ∷ u ∷ us) = rw c.1 at p in q.0) (add_cases t u us)

module _ (s : Size) (t : Thing) (ts : List Thing) where
  add_joins : ItemsApart s (add t ts) → Joins s ts t
  unfolding block_count
  add_joins f = record {
    fits = all_has (ThingFits s) (add t ts) t f.each (has_add t ts);
    apart = pairs_add_back (Apart s.clearance) (apart_turn s.clearance) t ts f.apart;
    blocks_few = omega (arith, f.blocks_few, count_add t ts);
  }

  joins_add : ItemsApart s ts → ¬ (Used ts (id_of t)) → Joins s ts t → ItemsApart s (add t ts)
  unfolding block_count
  joins_add f n j = apart_add s t ts f n j.fits j.apart (omega (arith, j.blocks_few))

  -- of the items with one more only that one is held against the others
  pub joins_said : (r : Bool) → ItemsApart s ts → ¬ (Used ts (id_of t)) → Says r (Joins s ts t) → Says r (ItemsApart s (add t ts))
  joins_said r f n = says_as (joins_add f n) add_joins

-- ---- one more after the last

abbrev Lower : Thing → List Thing → Type 0
Lower t ts = All (λ u. Below u t) ts

add_last : (t : Thing) (ts : List Thing) → Lower t ts → add t ts ≡ ts ++ t ∷ []
unfolding All
add_last t [] a = add_nil t
add_last t (u ∷ us) a =
    ⊎_elim (λ c. c.1 ∙ ap (λ l. u ∷ l) (add_last t us a.1)) (λ c. absurd (omega (arith, c.0, a.0))) (add_cases t u us)

lower_free : (t : Thing) (ts : List Thing) → Lower t ts → ¬ (Used ts (id_of t))
unfolding All Any
lower_free t [] a h = h
lower_free t (u ∷ us) a (inl e) = omega (arith, a.0)
lower_free t (u ∷ us) a (inr h) = lower_free t us a.1 h

pub all_mid : {A : Type 0} (P : A → Type 0) (xs : List A) (x : A) (ys : List A) → All P (xs ++ x ∷ ys) → P x
unfolding All
all_mid P [] x ys a = a.0
all_mid P (y ∷ xs) x ys a = all_mid P xs x ys a.1

pairs_mid : {A : Type 0} (R : A → A → Type 0) (xs : List A) (x : A) (ys : List A) → Pairs R (xs ++ x ∷ ys) → All (λ y. R y x) xs
unfolding All Pairs
pairs_mid R [] x ys p = tt
pairs_mid R (y ∷ xs) x ys p = (all_mid (R y) xs x ys p.0, pairs_mid R xs x ys p.1)

pub count_more : (ts : List Thing) (t : Thing) (us : List Thing) → block_count (ts ++ t ∷ us) ≡ block_count ts + length (areas t) + block_count us
unfolding block_count
count_more [] t us = omega arith
count_more (u ∷ ts) t us = omega (arith, count_more ts t us)

module _ (s : Size) (ts : List Thing) (t : Thing) where
  pub fits_more : ItemsApart s ts → Lower t ts → Joins s ts t → ItemsApart s (ts ++ t ∷ [])
  fits_more f l j = subst (ItemsApart s) (add_last t ts l) (joins_add s t ts f (lower_free t ts l) j)

  module _ (us : List Thing) (f : ItemsApart s (ts ++ t ∷ us)) where
    fits_lower : Lower t ts
    fits_lower = pairs_mid Below ts t us f.rising

    pub fits_joins : Joins s ts t
    fits_joins = record {
      fits = all_mid (ThingFits s) ts t us f.each;
      apart = all_imp _ _ (λ u a. apart_turn s.clearance u t a) ts (pairs_mid (Apart s.clearance) ts t us f.apart);
      blocks_few = omega (arith, f.blocks_few, count_more ts t us);
    }

-- ---- the last id

-- no id is above `last`, which is one of them, or 0 where there is none
pub record Tops (last : ℕ) (ts : List Thing) : Type 0 where
  pub above : All (λ u. id_of u ≤ last) ts
  pub met : (last ≡ 0) ⊎ Used ts last

pub tops_none : Tops 0 []
unfolding All
tops_none = record { above = tt; met = inl refl }

module _ (last : ℕ) (ts : List Thing) (t : Thing) (p : Tops last ts) where
  pub tops_lower : last < id_of t → Lower t ts
  tops_lower h = all_imp _ _ (λ u l. omega arith) ts p.above

  pub tops_more : last < id_of t → Tops (id_of t) (ts ++ t ∷ [])
  unfolding All Any
  tops_more h = record {
    above = all_join _ ts (t ∷ []) (all_imp _ _ (λ u l. omega arith) ts p.above) (omega arith, tt);
    met = inr (any_right (λ u. id_of u ≡ id_of t) ts (t ∷ []) (inl refl));
  }

  not_lower : (us : List Thing) → id_of t ≤ last → Used us last → ¬ (Lower t us)
  unfolding All Any
  not_lower [] h u a = u
  not_lower (v ∷ us) h (inl e) a = omega (arith, a.0)
  not_lower (v ∷ us) h (inr u) a = not_lower us h u a.1

  pub tops_stop : (s : Size) (us : List Thing) → id_of t ≤ last → ¬ (ItemsApart s (ts ++ t ∷ us))
  tops_stop s us h f =
      ⊎_elim (λ z. omega (arith, z, id_fits s t (fits_joins s ts t us f).fits)) (λ u. not_lower ts h u (fits_lower s ts t us f)) p.met
