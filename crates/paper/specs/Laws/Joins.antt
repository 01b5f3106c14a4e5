-- Two keep-outs that share a side block, together, the rectangle that spans both where they face each other.
-- Assumes nothing.
use Rattle.std.specs.Prelude.{◌<◌, min, max, ◌≡◌, Bool, true, false, ◌&&◌, ◌⊎◌, T, eqb, ltb}
use Rattle.std.proofs.Common.{arith}
use Rattle.std.proofs.Math.Logic.{inl, inr, ⊎_elim}
use mathlib.Core.List.{List, [], ◌∷◌, ◌++◌}
use Rattle.paper.specs.Grid.{Span, Block, Any, All}
use Rattle.paper.specs.Laws.Lists.{all_join, any_imp, any_left, any_right, any_split}
use Rattle.paper.specs.Laws.Traced.{HasPoint, OpenBox}
use Rattle.paper.specs.Laws.Says.{Says, says_and, says_eq, says_le}

-- ---- of some pair of the list, in its order

unfoldable pub AnyPair : {A : Type 0} → (A → A → Type 0) → List A → Type 0
AnyPair R [] = ⊥
AnyPair R (x ∷ xs) = Any (R x) xs ⊎ AnyPair R xs

pub any_pair_imp : {A : Type 0} (R Q : A → A → Type 0) → ((x y : A) → R x y → Q x y) → (xs : List A) → AnyPair R xs → AnyPair Q xs
unfolding AnyPair
any_pair_imp R Q f [] h = h
any_pair_imp R Q f (x ∷ xs) (inl h) = inl (any_imp (R x) (Q x) (f x) xs h)
any_pair_imp R Q f (x ∷ xs) (inr h) = inr (any_pair_imp R Q f xs h)

-- two members are one, or a pair
pub one_or_pair : {A : Type 0} (P Q : A → Type 0) (xs : List A) → Any P xs → Any Q xs
    → Any (λ x. P x × Q x) xs ⊎ AnyPair (λ x y. (P x × Q y) ⊎ (Q x × P y)) xs
unfolding Any AnyPair
one_or_pair P Q [] p q = absurd p
one_or_pair P Q (x ∷ xs) (inl p) (inl q) = inl (inl (p, q))
one_or_pair P Q (x ∷ xs) (inl p) (inr q) = inr (inl (any_imp _ _ (λ y k. inl (p, k)) xs q))
one_or_pair P Q (x ∷ xs) (inr p) (inl q) = inr (inl (any_imp _ _ (λ y k. inr (q, k)) xs p))
one_or_pair P Q (x ∷ xs) (inr p) (inr q) = ⊎_elim (λ k. inl (inr k)) (λ k. inr (inr k)) (one_or_pair P Q xs p q)

-- ---- the rectangle of two

-- not widened, as a keep-out's; one ends where the other begins; they have more than a point in common
unfoldable pub Touch : Span → Span → Type 0
Touch s t = ((s.c ≡ 0) × (t.c ≡ 0)) × (max s.lo t.lo ≡ min s.hi t.hi)

unfoldable pub Share : Span → Span → Type 0
Share s t = ((s.c ≡ 0) × (t.c ≡ 0)) × (max s.lo t.lo < min s.hi t.hi)

abbrev pub hull : Span → Span → Span
hull s t = record { lo = min s.lo t.lo; hi = max s.hi t.hi; c = 0 }

abbrev pub common : Span → Span → Span
common s t = record { lo = max s.lo t.lo; hi = min s.hi t.hi; c = 0 }

unfoldable pub touchb : Span → Span → Bool
touchb s t = (eqb s.c 0 && eqb t.c 0) && eqb (max s.lo t.lo) (min s.hi t.hi)

unfoldable pub shareb : Span → Span → Bool
shareb s t = (eqb s.c 0 && eqb t.c 0) && ltb (max s.lo t.lo) (min s.hi t.hi)

touch_says : (s t : Span) → Says (touchb s t) (Touch s t)
unfolding touchb Touch
touch_says s t = says_and (says_and (says_eq _ _) (says_eq _ _)) (says_eq _ _)

share_says : (s t : Span) → Says (shareb s t) (Share s t)
unfolding shareb Share
share_says s t = says_and (says_and (says_eq _ _) (says_eq _ _)) (says_le _ _)

-- side by side, and one above the other: whether they are, and what spans both
abbrev pub beam : Block → Block → Block
beam a b = record { along_x = hull a.along_x b.along_x; along_y = common a.along_y b.along_y }

abbrev pub post : Block → Block → Block
post a b = record { along_x = common a.along_x b.along_x; along_y = hull a.along_y b.along_y }

unfoldable pub beamb : Block → Block → Bool
unfolding touchb shareb
beamb a b = touchb a.along_x b.along_x && shareb a.along_y b.along_y

unfoldable pub postb : Block → Block → Bool
unfolding touchb shareb
postb a b = shareb a.along_x b.along_x && touchb a.along_y b.along_y

pub beam_says : (a b : Block) → Says (beamb a b) (Touch a.along_x b.along_x × Share a.along_y b.along_y)
unfolding beamb
beam_says a b = says_and (touch_says _ _) (share_says _ _)

pub post_says : (a b : Block) → Says (postb a b) (Share a.along_x b.along_x × Touch a.along_y b.along_y)
unfolding postb
post_says a b = says_and (share_says _ _) (touch_says _ _)

unfoldable pub given : {A : Type 0} → Bool → A → List A
given true x = x ∷ []
given false x = []

given_in : {A : Type 0} (P : A → Type 0) (x : A) (b : Bool) → T b → P x → Any P (given b x)
unfolding Any given
given_in P x true t p = inl p
given_in P x false t p = absurd t

given_out : {A : Type 0} (P : A → Type 0) (x : A) (b : Bool) → Any P (given b x) → T b × P x
unfolding Any given
given_out P x true (inl p) = (tt, p)
given_out P x true (inr p) = absurd p
given_out P x false p = absurd p

given_all : {A : Type 0} (P : A → Type 0) (x : A) (b : Bool) → (T b → P x) → All P (given b x)
unfolding All given
given_all P x true f = (f tt, tt)
given_all P x false f = tt

unfoldable pub join_of : Block → Block → List Block
unfolding beamb postb given
join_of a b = given (beamb a b) (beam a b) ++ given (postb a b) (post a b)

-- what holds of the rectangle of a and b
pub data Joins (a b : Block) (P : Block → Type 0) : Type 0 where
  sideways : Touch a.along_x b.along_x → Share a.along_y b.along_y → P (beam a b) → Joins a b P
  upwards : Share a.along_x b.along_x → Touch a.along_y b.along_y → P (post a b) → Joins a b P

module _ (P : Block → Type 0) (a b : Block) where
  pub join_in : Joins a b P → Any P (join_of a b)
  unfolding join_of
  join_in (sideways t s p) =
      any_left P (given (beamb a b) (beam a b)) (given (postb a b) (post a b)) (given_in P (beam a b) (beamb a b) ((beam_says a b).test (t, s)) p)
  join_in (upwards s t p) =
      any_right P (given (beamb a b) (beam a b)) (given (postb a b) (post a b)) (given_in P (post a b) (postb a b) ((post_says a b).test (s, t)) p)

  pub join_out : Any P (join_of a b) → Joins a b P
  unfolding join_of
  join_out h =
      ⊎_elim
      (λ k. let r = given_out P (beam a b) (beamb a b) k in let f = (beam_says a b).fact r.0 in sideways f.0 f.1 r.1)
      (λ k. let r = given_out P (post a b) (postb a b) k in let f = (post_says a b).fact r.0 in upwards f.0 f.1 r.1)
      (any_split P (given (beamb a b) (beam a b)) (given (postb a b) (post a b)) h)

-- ---- all of them

unfoldable pub joins_with : Block → List Block → List Block
unfolding join_of
joins_with b [] = []
joins_with b (k ∷ ks) = join_of b k ++ joins_with b ks

unfoldable pub joins : List Block → List Block
unfolding joins_with
joins [] = []
joins (b ∷ bs) = joins_with b bs ++ joins bs

module _ (P : Block → Type 0) where
  pub with_in : (b : Block) (ks : List Block) → Any (λ k. Joins b k P) ks → Any P (joins_with b ks)
  unfolding Any joins_with
  with_in b [] h = h
  with_in b (k ∷ ks) (inl h) = any_left P (join_of b k) _ (join_in P b k h)
  with_in b (k ∷ ks) (inr h) = any_right P (join_of b k) _ (with_in b ks h)

  pub with_out : (b : Block) (ks : List Block) → Any P (joins_with b ks) → Any (λ k. Joins b k P) ks
  unfolding Any joins_with
  with_out b [] h = h
  with_out b (k ∷ ks) h = ⊎_elim (λ i. inl (join_out P b k i)) (λ i. inr (with_out b ks i)) (any_split P (join_of b k) _ h)

  pub joins_in : (bs : List Block) → AnyPair (λ a b. Joins a b P) bs → Any P (joins bs)
  unfolding AnyPair joins
  joins_in [] h = absurd h
  joins_in (b ∷ bs) (inl h) = any_left P (joins_with b bs) _ (with_in b bs h)
  joins_in (b ∷ bs) (inr h) = any_right P (joins_with b bs) _ (joins_in bs h)

  pub joins_out : (bs : List Block) → Any P (joins bs) → AnyPair (λ a b. Joins a b P) bs
  unfolding AnyPair joins Any
  joins_out [] h = absurd h
  joins_out (b ∷ bs) h = ⊎_elim (λ i. inl (with_out b bs i)) (λ i. inr (joins_out bs i)) (any_split P (joins_with b bs) _ h)

-- with the rectangles of each two of them
abbrev pub joined : List Block → List Block
joined bs = bs ++ joins bs

-- ---- the rectangles have an inside

pub join_all : (P : Block → Type 0) (a b : Block) → (Touch a.along_x b.along_x → Share a.along_y b.along_y → P (beam a b))
    → (Share a.along_x b.along_x → Touch a.along_y b.along_y → P (post a b)) → All P (join_of a b)
unfolding join_of
join_all P a b f g =
    all_join P (given (beamb a b) (beam a b)) (given (postb a b) (post a b))
    (given_all P (beam a b) (beamb a b) (λ t. let h = (beam_says a b).fact t in f h.0 h.1))
    (given_all P (post a b) (postb a b) (λ t. let h = (post_says a b).fact t in g h.0 h.1))

module _ (P Q : Block → Type 0) (f : (a b : Block) → P a → P b → All Q (join_of a b)) where
  with_all : (b : Block) (ks : List Block) → P b → All P ks → All Q (joins_with b ks)
  unfolding joins_with All
  with_all b [] p q = tt
  with_all b (k ∷ ks) p q = all_join Q (join_of b k) (joins_with b ks) (f b k p q.0) (with_all b ks p q.1)

  pub joins_all : (bs : List Block) → All P bs → All Q (joins bs)
  unfolding joins All
  joins_all [] p = tt
  joins_all (b ∷ bs) p = all_join Q (joins_with b bs) (joins bs) (with_all b bs p.0 p.1) (joins_all bs p.1)

open_join : (a b : Block) → OpenBox a → OpenBox b → All OpenBox (join_of a b)
unfolding OpenBox HasPoint Touch Share
open_join a b p q = join_all OpenBox a b (λ t s. omega arith) (λ s t. omega arith)

pub open_joined : (bs : List Block) → All OpenBox bs → All OpenBox (joined bs)
open_joined bs o = all_join OpenBox bs (joins bs) o (joins_all OpenBox OpenBox open_join bs o)
