-- Lists by their members, and lists that an array holds from its start: read, one more, one put in, one taken out.
-- Assumes nothing.
use Rattle.std.specs.Prelude.{ℕ, zero, suc, ◌+◌, ◌-◌, ◌≤◌, ◌<◌, ◌≡◌, refl, length, get_or, set, take, drop, replicate}
use Rattle.std.proofs.Common.{arith, sym, ap, ◌∙◌, length-append, length-drop, take-append-drop, length-take-le, take_at, drop_at}
use mathlib.Core.List.{List, [], ◌∷◌, ◌++◌, map, map-append, append_assoc, tail-eq_of_cons-eq}
use Rattle.std.proofs.lemmas.List.{length-map, set_at, take-append-le, drop-append-le, set_split}
use Rattle.std.proofs.Math.ListN.{get_or-map, get_or-append}
use Rattle.std.proofs.Math.Seq.{append_snoc}
use Rattle.paper.specs.Grid.{All}
use Rattle.paper.specs.Padding.{filled}

-- ---- the member at a place

pub all_at : {A : Type 0} (P : A → Type 0) (d : A) (xs : List A) (i : ℕ) → i < length xs → All P xs → P (get_or xs i d)
unfolding All
all_at P d [] i h a = absurd (omega arith)
all_at P d (x ∷ xs) zero h a = a.0
all_at P d (x ∷ xs) (suc i) h a = all_at P d xs i (omega arith) a.1

pub image_at : {A B : Type 0} (f : A → B) (d : A) (e : B) (xs : List A) (i : ℕ) → i < length xs → get_or (map f xs) i e ≡ f (get_or xs i d)
image_at f d e [] i h = absurd (omega arith)
image_at f d e (x ∷ xs) zero h = refl
image_at f d e (x ∷ xs) (suc i) h = image_at f d e xs i (omega arith)

-- ---- an array that is filled up with z

replicate_at : {A : Type 0} (z : A) (n k : ℕ) → get_or (replicate n z) k z ≡ z
replicate_at z zero k = refl
replicate_at z (suc n) zero = refl
replicate_at z (suc n) (suc k) = replicate_at z n k

padded_at : {A : Type 0} (z : A) (n : ℕ) (xs : List A) (k : ℕ) → get_or (xs ++ replicate n z) k z ≡ get_or xs k z
padded_at z n [] k = replicate_at z n k
padded_at z n (x ∷ xs) zero = refl
padded_at z n (x ∷ xs) (suc k) = padded_at z n xs k

-- what is read from it is what is read from the list
pub filled_at : {A : Type 0} (z : A) (n : ℕ) (xs : List A) (k : ℕ) → get_or (filled z n xs) k z ≡ get_or xs k z
filled_at z n xs k = padded_at z (n - length xs) xs k

-- the same of a list's images
pub images_at : {A B : Type 0} (f : A → B) (d : A) (n : ℕ) (xs : List A) (k : ℕ)
    → get_or (filled (f d) n (map f xs)) k (f d) ≡ f (get_or xs k d)
images_at f d n xs k = filled_at (f d) n (map f xs) k ∙ get_or-map f xs k d

-- one more, stored after the list
pub filled_more : {A : Type 0} (z : A) (n : ℕ) (xs : List A) (x : A) (k : ℕ) → length xs ≡ k → k < n
    → set (filled z n xs) k x ≡ filled z n (xs ++ x ∷ [])
filled_more z n xs x k e h =
    let m : n - length xs ≡ suc (n - (k + 1)) = omega arith in
    let l : n - length (xs ++ x ∷ []) ≡ n - (k + 1) = omega (arith, length-append xs (x ∷ [])) in
    rw (m, l) (set_at xs z (replicate (n - (k + 1)) z) x k e ∙ sym (append_snoc xs x (replicate (n - (k + 1)) z)))

pub images_more : {A B : Type 0} (f : A → B) (z : B) (n : ℕ) (xs : List A) (x : A) (k : ℕ) → length xs ≡ k → k < n
    → set (filled z n (map f xs)) k (f x) ≡ filled z n (map f (xs ++ x ∷ []))
images_more f z n xs x k e h = rw map-append (filled_more z n (map f xs) (f x) k (length-map xs f ∙ e) h)

-- a member of the list, read from the array
pub image_in : {A B : Type 0} (f : A → B) (z e : B) (d : A) (n : ℕ) (xs : List A) (k : ℕ) → k < length xs
    → get_or (filled z n (map f xs)) k e ≡ f (get_or xs k d)
image_in f z e d n xs k h =
    get_or-append (map f xs) (replicate (n - length (map f xs)) z) e k (omega (arith, length-map xs f)) ∙ image_at f d e xs k h

-- ---- one put in at a place, one taken out

-- two lists, cut at the same place
seam : {A : Type 0} (p q r s : List A) → length p ≡ length q → p ++ r ≡ q ++ s → (p ≡ q) × (r ≡ s)
seam p q r s l e =
    (sym (take_at p r (length q) l) ∙ ap (take (length q)) e ∙ take_at q s (length q) refl, sym (drop_at p r (length q) l) ∙ ap (drop (length q)) e ∙ drop_at q s (length q) refl)

abbrev pub put_at : {A : Type 0} → List A → ℕ → A → List A
put_at xs k x = take k xs ++ x ∷ drop k xs

abbrev pub left_at : {A : Type 0} → List A → ℕ → List A
left_at xs k = take k xs ++ drop (suc k) xs

pub length_put : {A : Type 0} (xs : List A) (k : ℕ) (x : A) → k ≤ length xs → length (put_at xs k x) ≡ suc (length xs)
length_put xs k x h = omega (arith, length-append (take k xs) (x ∷ drop k xs), length-take-le k xs h, length-drop k xs)

pub length_left : {A : Type 0} (xs : List A) (k : ℕ) → k < length xs → suc (length (left_at xs k)) ≡ length xs
length_left xs k h = omega (arith, length-append (take k xs) (drop (suc k) xs), length-take-le k xs (omega arith), length-drop (suc k) xs)

module _ {A : Type 0} (z : A) (m : ℕ) (xs : List A) (k : ℕ) (h : k ≤ length xs) where
  -- the same in a list that goes on after it
  put_front : (x : A) (ys : List A) → put_at (xs ++ ys) k x ≡ put_at xs k x ++ ys
  put_front x ys = rw (take-append-le k xs ys h, drop-append-le k xs ys h, append_assoc)

  -- out has a z less after the list than the array with the one put in
  pub filled_put : (n : ℕ) (x y : A) (out : List A) → length xs ≡ n → n < m → length out ≡ m
      → take (suc n) out ++ y ∷ drop (suc n) out ≡ put_at (filled z m xs) k x → out ≡ filled z m (put_at xs k x)
  filled_put n x y out e few long p =
      let l : length (take (suc n) out) ≡ length (put_at xs k x) = omega (arith, length-take-le (suc n) out (omega arith), length_put xs k x h) in
      let rest : m - length xs ≡ suc (m - suc n) = omega arith in
      let less : m - length (put_at xs k x) ≡ m - suc n = omega (arith, length_put xs k x h) in
      let q = seam (take (suc n) out) (put_at xs k x) _ _ l (p ∙ put_front x (replicate (m - length xs) z)) in
      let r : drop (suc n) out ≡ replicate (m - suc n) z = tail-eq_of_cons-eq (rw rest at q.1) in
      sym (take-append-drop (suc n) out) ∙ rw (less, q.0, r)

module _ {A : Type 0} (z : A) (m : ℕ) (xs : List A) (k : ℕ) (h : k < length xs) where
  left_front : (ys : List A) → left_at (xs ++ ys) k ≡ left_at xs k ++ ys
  left_front ys = rw (take-append-le k xs ys (omega arith), drop-append-le (suc k) xs ys h, append_assoc)

  -- out with its last member struck out is the array without the one
  pub filled_left : (n : ℕ) (out : List A) → length xs ≡ suc n → suc n ≤ m → length out ≡ m → left_at out n ≡ left_at (filled z m xs) k
      → set out n z ≡ filled z m (left_at xs k)
  filled_left n out e few long p =
      let l : length (take n out) ≡ length (left_at xs k) = omega (arith, length-take-le n out (omega arith), length_left xs k h) in
      let more : m - length (left_at xs k) ≡ suc (m - suc n) = omega (arith, length_left xs k h) in
      let same : m - length xs ≡ m - suc n = omega arith in
      let q = seam (take n out) (left_at xs k) _ _ l (p ∙ left_front (replicate (m - length xs) z)) in
      set_split out n z (omega arith) ∙ rw (more, q.0, q.1, same)
