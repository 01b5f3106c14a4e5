-- Arrays, place by place: what stands in the places that are used, and in the others.
-- Assumes nothing.
use Rattle.std.specs.Prelude.{ℕ, ◌+◌, ◌-◌, ◌≤◌, ◌<◌, ◌≡◌, Bool, List, ◌++◌, map, take, drop, replicate}
use Rattle.std.proofs.Common.{arith, ◌∙◌, ⊎_elim, ap₂, length-append, length-drop, get_or-take, take_at, drop_at, take-append-drop}
use Rattle.std.proofs.Math.Path.{sym, ap}
use Rattle.std.proofs.Math.ListN.{length, get_or, length-map, get_or-eq_default}
use Rattle.std.proofs.lemmas.List.{length-replicate, get_or-replicate, get_or-drop}
use Rattle.std.proofs.Math.Seq.{length-take-le, ext_get_or}
use Rattle.paper.specs.Padding.{filled}
use Rattle.paper.specs.Laws.Among.{lt_cases}
use Rattle.paper.specs.Laws.Filled.{filled_at, image_at}
use Rattle.paper.specs.Laws.Says.{Says, says_as}
use Rattle.soundness.specs.Shape.{ZeroFrom, Slots}

length_filled : {A : Type 0} (z : A) (n : ℕ) (xs : List A) → length xs ≤ n → length (filled z n xs) ≡ n
length_filled z n xs h = omega (arith, length-append xs (replicate (n - length xs) z), length-replicate (n - length xs) z)

-- the first n places hold what f writes
abbrev pub Fronts : {A B : Type 0} → (A → B) → (B → A) → B → ℕ → List B → Type 0
Fronts f g z n xs = (i : ℕ) → i < n → get_or (take n xs) i z ≡ f (g (get_or (take n xs) i z))

-- the others, up to m, hold z
abbrev pub Rests : {B : Type 0} → B → ℕ → ℕ → List B → Type 0
Rests z m n xs = (i : ℕ) → i < m - n → get_or (take (m - n) (drop n xs)) i z ≡ z

rest_at : {B : Type 0} (z : B) (m n : ℕ) (xs : List B) (i : ℕ) → i < m - n → get_or (take (m - n) (drop n xs)) i z ≡ get_or xs (n + i) z
rest_at z m n xs i h = get_or-take (m - n) (drop n xs) i z h ∙ get_or-drop n xs i z

-- ---- zeros from a place on

pub zeros_all : (xs : List ℕ) (k i : ℕ) → length xs ≤ i → ((j : ℕ) → k ≤ j → j < i → get_or xs j 0 ≡ 0) → ZeroFrom k xs
zeros_all xs k i long z j h = ⊎_elim (λ c. z j h c.0) (λ c. get_or-eq_default xs 0 (omega (arith, c.0))) (lt_cases j i)

zeros_of : (xs : List ℕ) (k n : ℕ) → length xs ≡ n → Rests 0 n k xs → ZeroFrom k xs
zeros_of xs k n long r =
    zeros_all xs k n (omega arith)
    (λ j h l. let e : k + (j - k) ≡ j = omega arith in
    ap (λ i. get_or xs i 0) (sym e) ∙ sym (rest_at 0 n k xs (j - k) (omega arith)) ∙ r (j - k) (omega arith))

-- of two arrays, tested place by place
pub zeros_said : (xs ys : List ℕ) (k n : ℕ) {r : Bool} → length xs ≡ n → length ys ≡ n → Says r (Rests 0 n k xs × Rests 0 n k ys)
    → Says r (ZeroFrom k xs × ZeroFrom k ys)
zeros_said xs ys k n lx ly =
    says_as (λ p. (zeros_of xs k n lx p.0, zeros_of ys k n ly p.1))
    (λ p. (λ i h. rest_at 0 n k xs i h ∙ p.0 (k + i) (omega arith), λ i h. rest_at 0 n k ys i h ∙ p.1 (k + i) (omega arith)))

module _ (xs : List ℕ) (k n : ℕ) (long : length xs ≡ n) (few : k ≤ n) where
  corners : length (take k xs) ≡ k
  corners = length-take-le k xs (omega arith)

  pub zeros_filled : ZeroFrom k xs → xs ≡ filled 0 n (take k xs)
  zeros_filled z = ext_get_or 0 xs (filled 0 n (take k xs)) (long ∙ sym (length_filled 0 n (take k xs) (omega (arith, corners)))) at_each
    where
      at_each : (i : ℕ) → i < length xs → get_or xs i 0 ≡ get_or (filled 0 n (take k xs)) i 0
      at_each i h =
          ⊎_elim (λ c. sym (filled_at 0 n (take k xs) i ∙ get_or-take k xs i 0 c.0))
          (λ c. z i c.0 ∙ sym (filled_at 0 n (take k xs) i ∙ get_or-eq_default (take k xs) 0 (omega (arith, corners, c.0))))
          (lt_cases i k)

  pub filled_zeros : xs ≡ filled 0 n (take k xs) → ZeroFrom k xs
  filled_zeros e i h =
      ap (λ l. get_or l i 0) e ∙ filled_at 0 n (take k xs) i ∙ get_or-eq_default (take k xs) 0 (omega (arith, corners))

-- ---- places used, and not used

module _ {A B : Type 0} (f : A → B) (g : B → A) (z : B) (m n : ℕ) (xs : List B) (long : length xs ≡ m) (few : n ≤ m) where
  used : List B
  used = map f (map g (take n xs))

  front : length (take n xs) ≡ n
  front = length-take-le n xs (omega arith)

  used_long : length used ≡ n
  unfolding used
  used_long = length-map (map g (take n xs)) f ∙ length-map (take n xs) g ∙ front

  used_at : (i : ℕ) → i < n → get_or used i z ≡ f (g (get_or (take n xs) i z))
  unfolding used
  used_at i h =
      image_at f (g z) z (map g (take n xs)) i (omega (arith, length-map (take n xs) g, front))
      ∙ ap f (image_at g z (g z) (take n xs) i (omega (arith, front)))

  front_of : Fronts f g z n xs → take n xs ≡ used
  front_of p = ext_get_or z (take n xs) used (front ∙ sym used_long) (λ i h. p i (omega (arith, front)) ∙ sym (used_at i (omega (arith, front))))

  rest_of : Rests z m n xs → drop n xs ≡ replicate (m - n) z
  rest_of p =
      ext_get_or z (drop n xs) (replicate (m - n) z) (omega (arith, length-drop n xs, length-replicate (m - n) z))
      (λ i h. let k : i < m - n = omega (arith, length-drop n xs) in
      sym (get_or-take (m - n) (drop n xs) i z k) ∙ p i k ∙ sym (get_or-replicate (m - n) i z z k))

  pub slots_front : Slots f g z m n xs → take n xs ≡ map f (map g (take n xs))
  unfolding Slots used
  slots_front s = ap (take n) s ∙ take_at used (replicate (m - length used) z) n used_long

  slots_rest : Slots f g z m n xs → drop n xs ≡ replicate (m - n) z
  unfolding Slots used
  slots_rest s = ap (drop n) s ∙ drop_at used (replicate (m - length used) z) n used_long ∙ ap (λ k. replicate (m - k) z) used_long

  slots_of : take n xs ≡ used → drop n xs ≡ replicate (m - n) z → Slots f g z m n xs
  unfolding Slots used
  slots_of p q = sym (take-append-drop n xs) ∙ ap₂ ◌++◌ p (q ∙ ap (λ k. replicate (m - k) z) (sym used_long))

  pub slots_said : {r : Bool} → Says r (Fronts f g z n xs × Rests z m n xs) → Says r (Slots f g z m n xs)
  unfolding used
  slots_said =
      says_as (λ p. slots_of (front_of p.0) (rest_of p.1))
      (λ s. (
        λ i h. ap (λ l. get_or l i z) (slots_front s) ∙ used_at i h,
        λ i h. get_or-take (m - n) (drop n xs) i z h ∙ ap (λ l. get_or l i z) (slots_rest s) ∙ get_or-replicate (m - n) i z z h,
      ))
