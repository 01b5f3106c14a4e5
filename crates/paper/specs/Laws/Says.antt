-- A test that computes, and the fact that it decides: for numbers, for lists, and for what is said of several facts.
-- Assumes nothing.
use Rattle.std.specs.Prelude.{ℕ, zero, suc, ◌≤◌, ◌<◌, ◌≡◌, refl, ◌⊎◌, Bool, true, false, not, ◌&&◌, ◌||◌, T, leb, eqb}
use Rattle.std.proofs.Common.{eq-or-lt_of_le, le_of_suc-le-suc, arith, sym, ap₂, subst, inl, inr, ⊎_elim, leb→le, le→leb, eqb→eq}
use mathlib.Core.List.{List, [], ◌∷◌, cons-ne-nil, head-eq_of_cons-eq, tail-eq_of_cons-eq}
use Rattle.std.proofs.Math.Dec.{eqb_refl}
use Rattle.paper.specs.Grid.{Any, All, Pairs}

-- the test b passes exactly where P holds
pub record Says (b : Bool) (P : Type 0) : Type 0 where
  pub fact : T b → P
  pub test : P → T b

-- what the test has said
pub said : {b : Bool} {P : Type 0} → Says b P → b ≡ true → P
said s e = s.fact (subst T (sym e) tt)

pub said_not : {b : Bool} {P : Type 0} → Says b P → b ≡ false → ¬ P
said_not s e p = subst T e (s.test p)

pub denied : {b : Bool} {P : Type 0} → Says b P → not b ≡ true → ¬ P
denied {b = true} s e = absurd (subst T (sym e) tt)
denied {b = false} s e = s.test

pub not_denied : {b : Bool} {P : Type 0} → Says b P → not b ≡ false → P
not_denied {b = true} s e = s.fact tt
not_denied {b = false} s e = absurd (subst T e tt)

-- a fact with a test can be decided
pub told : {b : Bool} {P : Type 0} → Says b P → Dec P
told {b = true} s = yes (s.fact tt)
told {b = false} s = no s.test

-- ---- several facts

-- the same fact in other words
pub says_as : {A C : Type 0} {a : Bool} → (A → C) → (C → A) → Says a A → Says a C
says_as f g p = record { fact = λ t. f (p.fact t); test = λ h. p.test (g h) }

-- that the test passes
pub says_self : (b : Bool) → Says b (T b)
says_self b = record { fact = λ t. t; test = λ t. t }

pub says_always : {A : Type 0} → A → Says true A
says_always a = record { fact = λ t. a; test = λ h. tt }

pub says_never : {A : Type 0} → ¬ A → Says false A
says_never n = record { fact = λ t. absurd t; test = n }

pub says_and : {A C : Type 0} {a c : Bool} → Says a A → Says c C → Says (a && c) (A × C)
says_and {a = true} p q = says_as (λ h. (p.fact tt, h)) (λ h. h.1) q
says_and {a = false} p q = says_never (λ h. p.test h.0)

pub says_and₃ : {A C D : Type 0} {a c d : Bool} → Says a A → Says c C → Says d D → Says (a && c && d) (A × C × D)
says_and₃ p q r = says_as (λ h. (h.0.0, h.0.1, h.1)) (λ h. ((h.0, h.1), h.2)) (says_and (says_and p q) r)

pub says_and₄ : {A C D E : Type 0} {a c d e : Bool} → Says a A → Says c C → Says d D → Says e E → Says (a && c && d && e) (A × C × D × E)
says_and₄ p q r s = says_as (λ h. (h.0.0, h.0.1, h.0.2, h.1)) (λ h. ((h.0, h.1, h.2), h.3)) (says_and (says_and₃ p q r) s)

-- a further fact that is tested where the others hold
pub says_then : {A C D E : Type 0} {a c : Bool} → Says a (A × C × D) → (C → Says c E) → Says (a && c) (A × C × D × E)
says_then {a = true} p q = let h = p.fact tt in says_as (λ e. (h.0, h.1, h.2, e)) (λ h. h.3) (q h.1)
says_then {a = false} p q = says_never (λ h. p.test (h.0, h.1, h.2))

pub says_or : {A C : Type 0} {a c : Bool} → Says a A → Says c C → Says (a || c) (A ⊎ C)
says_or {a = true} p q = says_always (inl (p.fact tt))
says_or {a = false} p q = says_as inr (λ h. ⊎_elim (λ x. absurd (p.test x)) (λ y. y) h) q

pub says_not : {A : Type 0} {a : Bool} → Says a A → Says (not a) (¬ A)
says_not {a = true} p = says_never (λ n. n (p.fact tt))
says_not {a = false} p = says_always p.test

pub says_if : {A C : Type 0} {a c : Bool} → Says a A → Says c C → Says (not a || c) (A → C)
says_if {a = true} p q = says_as (λ y x. y) (λ f. f (p.fact tt)) q
says_if {a = false} p q = says_always (λ x. absurd (p.test x))

-- ---- numbers

-- m < n is suc m ≤ n, and is tested so
pub says_le : (m n : ℕ) → Says (leb m n) (m ≤ n)
says_le m n = record { fact = leb→le m n; test = le→leb m n }

pub says_eq : (m n : ℕ) → Says (eqb m n) (m ≡ n)
says_eq m n = record { fact = eqb→eq m n; test = λ e. subst (λ k. T (eqb m k)) e (eqb_refl m) }

pub says_ne : (m n : ℕ) → Says (not (eqb m n)) (¬ (m ≡ n))
says_ne m n = says_not (says_eq m n)

-- each number below n
unfoldable pub belowb : ℕ → (ℕ → Bool) → Bool
belowb zero f = true
belowb (suc n) f = f n && belowb n f

pub says_below : {f : ℕ → Bool} {P : ℕ → Type 0} → ((i : ℕ) → Says (f i) (P i))
    → (n : ℕ) → Says (belowb n f) ((i : ℕ) → i < n → P i)
unfolding belowb
says_below each zero = says_always (λ i h. absurd (omega arith))
says_below {P} each (suc n) =
    says_as
    (λ p i h. ⊎_elim (λ e. subst P (sym e) p.0) (p.1 i) (eq-or-lt_of_le (le_of_suc-le-suc h)))
    (λ f. (f n (omega arith), λ i h. f i (omega arith)))
    (says_and (each n) (says_below each n))

-- ---- lists

unfoldable pub anyb : {A : Type 0} → (A → Bool) → List A → Bool
anyb f [] = false
anyb f (x ∷ xs) = f x || anyb f xs

pub says_any : {A : Type 0} {f : A → Bool} {P : A → Type 0} → ((x : A) → Says (f x) (P x)) → (xs : List A) → Says (anyb f xs) (Any P xs)
unfolding anyb Any
says_any each [] = says_never (λ h. h)
says_any each (x ∷ xs) = says_or (each x) (says_any each xs)

unfoldable pub allb : {A : Type 0} → (A → Bool) → List A → Bool
allb f [] = true
allb f (x ∷ xs) = f x && allb f xs

pub says_all : {A : Type 0} {f : A → Bool} {P : A → Type 0} → ((x : A) → Says (f x) (P x)) → (xs : List A) → Says (allb f xs) (All P xs)
unfolding allb All
says_all each [] = says_always tt
says_all each (x ∷ xs) = says_and (each x) (says_all each xs)

unfoldable pub pairsb : {A : Type 0} → (A → A → Bool) → List A → Bool
pairsb f [] = true
pairsb f (x ∷ xs) = allb (f x) xs && pairsb f xs

pub says_pairs : {A : Type 0} {f : A → A → Bool} {P : A → A → Type 0} → ((x y : A) → Says (f x y) (P x y))
    → (xs : List A) → Says (pairsb f xs) (Pairs P xs)
unfolding pairsb Pairs
says_pairs each [] = says_always tt
says_pairs each (x ∷ xs) = says_and (says_all (each x) xs) (says_pairs each xs)

unfoldable pub emptyb : {A : Type 0} → List A → Bool
emptyb [] = true
emptyb (x ∷ xs) = false

pub says_empty : {A : Type 0} (xs : List A) → Says (emptyb xs) (xs ≡ [])
unfolding emptyb
says_empty [] = says_always refl
says_empty (x ∷ xs) = says_never (cons-ne-nil x xs)

-- the lists are equal, by a test of their members
unfoldable pub listb : {A : Type 0} → (A → A → Bool) → List A → List A → Bool
listb f [] [] = true
listb f [] (y ∷ ys) = false
listb f (x ∷ xs) [] = false
listb f (x ∷ xs) (y ∷ ys) = f x y && listb f xs ys

pub says_list : {A : Type 0} {f : A → A → Bool} → ((x y : A) → Says (f x y) (x ≡ y)) → (xs ys : List A) → Says (listb f xs ys) (xs ≡ ys)
unfolding listb
says_list each [] [] = says_always refl
says_list each [] (y ∷ ys) = says_never (λ e. cons-ne-nil y ys (sym e))
says_list each (x ∷ xs) [] = says_never (cons-ne-nil x xs)
says_list each (x ∷ xs) (y ∷ ys) =
    says_as (λ h. ap₂ ◌∷◌ h.0 h.1) (λ e. (head-eq_of_cons-eq e, tail-eq_of_cons-eq e)) (says_and (each x y) (says_list each xs ys))
