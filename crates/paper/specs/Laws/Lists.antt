-- What holds of some, of each and of each two members of a list.
-- Assumes nothing.
use Rattle.std.specs.Prelude.{ℕ, ◌≡◌, refl, ◌⊎◌, length}
use Rattle.std.proofs.Common.{sym, ap₂, subst, ◌∙◌, inl, inr, ⊎_elim}
use mathlib.Core.List.{List, [], ◌∷◌, ◌++◌, map, reverse, reverse_aux}
use Rattle.std.proofs.lemmas.List.{length-map}
use Rattle.paper.specs.Grid.{Any, All}

-- ---- each

pub all_imp : {A : Type 0} (P Q : A → Type 0) → ((x : A) → P x → Q x) → (xs : List A) → All P xs → All Q xs
unfolding All
all_imp P Q f [] a = tt
all_imp P Q f (x ∷ xs) a = (f x a.0, all_imp P Q f xs a.1)

pub all_join : {A : Type 0} (P : A → Type 0) (xs ys : List A) → All P xs → All P ys → All P (xs ++ ys)
unfolding All
all_join P [] ys a b = b
all_join P (x ∷ xs) ys a b = (a.0, all_join P xs ys a.1 b)

pub all_image : {A B : Type 0} (P : B → Type 0) (f : A → B) (xs : List A) → All (λ x. P (f x)) xs → All P (map f xs)
unfolding All
all_image P f [] a = tt
all_image P f (x ∷ xs) a = (a.0, all_image P f xs a.1)

pub all_both : {A : Type 0} (P Q : A → Type 0) (xs : List A) → All P xs → All Q xs → All (λ x. P x × Q x) xs
unfolding All
all_both P Q [] a b = tt
all_both P Q (x ∷ xs) a b = ((a.0, b.0), all_both P Q xs a.1 b.1)

pub all_always : {A : Type 0} (P : A → Type 0) → ((x : A) → P x) → (xs : List A) → All P xs
unfolding All
all_always P h [] = tt
all_always P h (x ∷ xs) = (h x, all_always P h xs)

all_reverse_aux : {A : Type 0} (P : A → Type 0) (xs r : List A) → All P xs → All P r → All P (reverse_aux xs r)
unfolding All
all_reverse_aux P [] r p q = q
all_reverse_aux P (x ∷ xs) r p q = all_reverse_aux P xs (x ∷ r) p.1 (p.0, q)

pub all_reverse : {A : Type 0} (P : A → Type 0) (xs : List A) → All P xs → All P (reverse xs)
unfolding All
all_reverse P xs p = all_reverse_aux P xs [] p tt

-- g undoes f on each member
pub map_back : {A B : Type 0} (P : A → Type 0) (f : A → B) (g : B → A) → ((x : A) → P x → g (f x) ≡ x)
    → (xs : List A) → All P xs → map g (map f xs) ≡ xs
unfolding All
map_back P f g back [] a = refl
map_back P f g back (x ∷ xs) a = ap₂ ◌∷◌ (back x a.0) (map_back P f g back xs a.1)

-- ---- some

pub any_imp : {A : Type 0} (P Q : A → Type 0) → ((x : A) → P x → Q x) → (xs : List A) → Any P xs → Any Q xs
unfolding Any
any_imp P Q f [] a = a
any_imp P Q f (x ∷ xs) (inl p) = inl (f x p)
any_imp P Q f (x ∷ xs) (inr a) = inr (any_imp P Q f xs a)

-- what follows from whichever member it is
pub any_elim : {A : Type 0} {G : Type 0} (P : A → Type 0) → ((x : A) → P x → G) → (xs : List A) → Any P xs → G
unfolding Any
any_elim P f [] a = absurd a
any_elim P f (x ∷ xs) (inl p) = f x p
any_elim P f (x ∷ xs) (inr a) = any_elim P f xs a

pub any_image : {A B : Type 0} (P : B → Type 0) (f : A → B) (xs : List A) → Any (λ x. P (f x)) xs → Any P (map f xs)
unfolding Any
any_image P f [] a = a
any_image P f (x ∷ xs) (inl p) = inl p
any_image P f (x ∷ xs) (inr a) = inr (any_image P f xs a)

pub any_back : {A B : Type 0} (P : B → Type 0) (f : A → B) (xs : List A) → Any P (map f xs) → Any (λ x. P (f x)) xs
unfolding Any
any_back P f [] a = a
any_back P f (x ∷ xs) (inl p) = inl p
any_back P f (x ∷ xs) (inr a) = inr (any_back P f xs a)

pub any_left : {A : Type 0} (P : A → Type 0) (xs ys : List A) → Any P xs → Any P (xs ++ ys)
unfolding Any
any_left P [] ys a = absurd a
any_left P (x ∷ xs) ys (inl p) = inl p
any_left P (x ∷ xs) ys (inr a) = inr (any_left P xs ys a)

pub any_right : {A : Type 0} (P : A → Type 0) (xs ys : List A) → Any P ys → Any P (xs ++ ys)
unfolding Any
any_right P [] ys a = a
any_right P (x ∷ xs) ys a = inr (any_right P xs ys a)

pub any_split : {A : Type 0} (P : A → Type 0) (xs ys : List A) → Any P (xs ++ ys) → Any P xs ⊎ Any P ys
unfolding Any
any_split P [] ys a = inr a
any_split P (x ∷ xs) ys (inl p) = inl (inl p)
any_split P (x ∷ xs) ys (inr a) = ⊎_elim (λ b. inl (inr b)) (λ b. inr b) (any_split P xs ys a)

-- the x that some y is related to, or the y that some x is
pub any_flip : {A B : Type 0} (R : A → B → Type 0) (xs : List A) (ys : List B) → Any (λ x. Any (R x) ys) xs → Any (λ y. Any (λ x. R x y) xs) ys
unfolding Any
any_flip R [] ys a = absurd a
any_flip R (x ∷ xs) ys (inl p) = any_imp (R x) (λ y. Any (λ x. R x y) (x ∷ xs)) (λ y r. inl r) ys p
any_flip R (x ∷ xs) ys (inr a) = any_imp (λ y. Any (λ x. R x y) xs) (λ y. Any (λ x. R x y) (x ∷ xs)) (λ y r. inr r) ys (any_flip R xs ys a)

-- ---- some against each

pub all_any : {A : Type 0} (P Q : A → Type 0) (xs : List A) → All P xs → Any Q xs → Any (λ x. P x × Q x) xs
unfolding All Any
all_any P Q [] a b = b
all_any P Q (x ∷ xs) a (inl q) = inl (a.0, q)
all_any P Q (x ∷ xs) a (inr b) = inr (all_any P Q xs a.1 b)

pub all_has : {A : Type 0} (P : A → Type 0) (xs : List A) (x : A) → All P xs → Any (λ y. y ≡ x) xs → P x
unfolding All Any
all_has P [] x a h = absurd h
all_has P (y ∷ ys) x a (inl e) = subst P e a.0
all_has P (y ∷ ys) x a (inr h) = all_has P ys x a.1 h

pub none_all : {A : Type 0} (P : A → Type 0) (xs : List A) → ¬ (Any P xs) → All (λ x. ¬ (P x)) xs
unfolding All Any
none_all P [] n = tt
none_all P (x ∷ xs) n = (λ p. n (inl p), none_all P xs (λ a. n (inr a)))

pub all_none : {A : Type 0} (P : A → Type 0) (xs : List A) → All (λ x. ¬ (P x)) xs → ¬ (Any P xs)
unfolding All Any
all_none P [] a h = h
all_none P (x ∷ xs) a (inl p) = a.0 p
all_none P (x ∷ xs) a (inr h) = all_none P xs a.1 h

-- ---- how many

pub length_mapped : (A B : Type 0) (f : A → B) (l : List A) (n : ℕ) → length (map f l) ≡ n → length l ≡ n
length_mapped A B f l n e = sym (length-map l f) ∙ e
