-- A length fits 32 bits: a shortest wire comes to no node twice, and a board has at most 30,001 × 30,001 nodes.
-- Assumes nothing.
use Rattle.std.specs.Prelude.{ℕ, zero, suc, ◌+◌, ◌*◌, ◌≤◌, ◌<◌, ◌≡◌, refl, cond, ◌⊎◌, length, eqb}
use Rattle.std.proofs.Common.{arith, sym, ap, subst, inl, inr, ⊎_elim}
use mathlib.Core.List.{List, [], ◌∷◌, map}
use Rattle.std.proofs.lemmas.List.{length-map}
use Rattle.paper.specs.Limits.{most_side}
use Rattle.paper.specs.Grid.{Grid, Node, Dir, step, All, Pairs}
use Rattle.paper.specs.Wire.{Legal}
use Rattle.paper.specs.Laws.Lists.{all_imp}
use Rattle.paper.specs.Laws.Among.{eq_cases}
use Rattle.paper.specs.Laws.Steps.{Inside, free_inside, Shortest, Least}

-- ---- distinct numbers below n are at most n

abbrev Differ : ℕ → ℕ → Type 0
Differ a b = ¬ (a ≡ b)

strike : ℕ → List ℕ → List ℕ
strike k [] = []
strike k (n ∷ ns) = cond (eqb n k) ns (n ∷ strike k ns)

strike_cases : (k n : ℕ) (ns : List ℕ) → ((n ≡ k) × (strike k (n ∷ ns) ≡ ns)) ⊎ ((¬ (n ≡ k)) × (strike k (n ∷ ns) ≡ n ∷ strike k ns))
unfolding strike
strike_cases k n ns =
    ⊎_elim (λ c. inl (c.0, ap (λ b. cond b ns (n ∷ strike k ns)) c.1)) (λ c. inr (c.0, ap (λ b. cond b ns (n ∷ strike k ns)) c.1)) (eq_cases n k)

strike_all : (P : ℕ → Type 0) (k : ℕ) (ns : List ℕ) → All P ns → All P (strike k ns)
unfolding All
strike_all P k [] a = unfold strike in tt
strike_all P k (n ∷ ns) a = ⊎_elim (λ c. rw c.1 a.1) (λ c. rw c.1 (a.0, strike_all P k ns a.1)) (strike_cases k n ns)

strike_pairs : (k : ℕ) (ns : List ℕ) → Pairs Differ ns → Pairs Differ (strike k ns)
unfolding Pairs
strike_pairs k [] a = unfold strike in tt
strike_pairs k (n ∷ ns) a =
    ⊎_elim (λ c. rw c.1 a.1) (λ c. rw c.1 (strike_all (Differ n) k ns a.0, strike_pairs k ns a.1)) (strike_cases k n ns)

below_rest : (k : ℕ) (ns : List ℕ) → All (Differ k) ns → All (λ n. n < suc k) ns → All (λ n. n < k) ns
unfolding All
below_rest k [] d a = tt
below_rest k (n ∷ ns) d a = (let e : ¬ (k ≡ n) = d.0 in omega (arith, a.0), below_rest k ns d.1 a.1)

strike_below : (k : ℕ) (ns : List ℕ) → Pairs Differ ns → All (λ n. n < suc k) ns → All (λ n. n < k) (strike k ns)
unfolding All Pairs
strike_below k [] d a = unfold strike in tt
strike_below k (n ∷ ns) d a =
    ⊎_elim (λ c. rw c.1 (below_rest k ns (subst (λ m. All (Differ m) ns) c.0 d.0) a.1))
    (λ c. rw c.1 (let e : ¬ (n ≡ k) = c.0 in omega (arith, a.0), strike_below k ns d.1 a.1)) (strike_cases k n ns)

strike_length : (k : ℕ) (ns : List ℕ) → length ns ≤ suc (length (strike k ns))
strike_length k [] = omega arith
strike_length k (n ∷ ns) = ⊎_elim (λ c. rw c.1 (omega arith)) (λ c. rw c.1 (omega (arith, strike_length k ns))) (strike_cases k n ns)

pigeons : (n : ℕ) (ns : List ℕ) → Pairs Differ ns → All (λ m. m < n) ns → length ns ≤ n
unfolding All
pigeons zero [] d a = omega arith
pigeons zero (m ∷ ns) d a = absurd (omega (arith, a.0))
pigeons (suc n) ns d a = omega (arith, strike_length n ns, pigeons n (strike n ns) (strike_pairs n ns d) (strike_below n ns d a))

-- ---- the nodes of a word

trail : Node → List Dir → List Node
trail p [] = p ∷ []
trail p (d ∷ w) = p ∷ trail (step d p) w

trail_length : (p : Node) (w : List Dir) → length (trail p w) ≡ suc (length w)
unfolding trail
trail_length p [] = refl
trail_length p (d ∷ w) = ap suc (trail_length (step d p) w)

module _ (G : Grid) (t : Node) where
  -- from the node there is a legal word of at most n steps
  Near : ℕ → Node → Type 0
  Near n p = (v : List Dir) × Legal G p t v × (length v ≤ n)

  trail_near : (p : Node) (w : List Dir) (n : ℕ) → length w ≤ n → Legal G p t w → All (Near n) (trail p w)
  unfolding All trail Legal Near
  trail_near p [] n h l = (([], l, h), tt)
  trail_near p (d ∷ w) n h l = ((d ∷ w, l, h), trail_near (step d p) w n (omega arith) l.1)

  trail_inside : (p : Node) (w : List Dir) → Inside G p → Legal G p t w → All (Inside G) (trail p w)
  unfolding All trail Legal
  trail_inside p [] i l = (i, tt)
  trail_inside p (d ∷ w) i l = (i, trail_inside (step d p) w (free_inside G p d l.0).1 l.1)

  trail_apart : (p : Node) (w : List Dir) → Legal G p t w → Shortest G p t w → Pairs (λ a b. ¬ (a ≡ b)) (trail p w)
  unfolding All Pairs trail Legal Near
  trail_apart p [] l h = (tt, tt)
  trail_apart p (d ∷ w) l h = (
    all_imp (Near (length w)) (λ q. ¬ (p ≡ q))
        (λ q near e. omega (arith, near.2, h near.0 (subst (λ a. Legal G a t near.0) (sym e) near.1)))
        (trail (step d p) w) (trail_near (step d p) w (length w) (omega arith) l.1),
    trail_apart (step d p) w l.1 (λ v k. omega (arith, h (d ∷ v) (l.0, k))),
  )

-- ---- a number for each node of a board

abbrev place : Node → ℕ
place p = 30001 * p.x + p.y

abbrev Small : Node → Type 0
Small p = (p.x ≤ 30000) × (p.y ≤ 30000)

place_inj : (p q : Node) → Small p → Small q → place p ≡ place q → p ≡ q
place_inj p q a b e =
    let k : p.x ≡ q.x = omega (arith, a.1, b.1) in
    let m : p.y ≡ q.y = omega (arith, k) in
    λ i. record { x = k i; y = m i }

places_apart : (ps : List Node) → All Small ps → Pairs (λ a b. ¬ (a ≡ b)) ps → Pairs Differ (map place ps)
unfolding All Pairs
places_apart [] a d = tt
places_apart (p ∷ ps) a d = (go ps a.1 d.0, places_apart ps a.1 d.1)
  where
    go : (qs : List Node) → All Small qs → All (λ q. ¬ (p ≡ q)) qs → All (Differ (place p)) (map place qs)
    go [] b c = tt
    go (q ∷ qs) b c = (λ e. c.0 (place_inj p q a.0 b.0 e), go qs b.1 c.1)

places_below : (ps : List Node) → All Small ps → All (λ m. m < 900060001) (map place ps)
unfolding All
places_below [] a = tt
places_below (p ∷ ps) a = (omega (arith, a.0), places_below ps a.1)

pub length_fits : (G : Grid) (s t : Node) (w : List Dir) → G.wide ≤ most_side → G.high ≤ most_side → Inside G s → Least G s t w → length w ≤ 900060000
length_fits G s t w hw hh i a =
    let small : All Small (trail s w)
    = all_imp (Inside G) Small (λ p k. (omega (arith, k.0), omega (arith, k.1))) (trail s w) (trail_inside G t s w i a.0) in
    omega (
      arith,
      trail_length s w,
      length-map (trail s w) place,
      pigeons 900060001 (map place (trail s w)) (places_apart (trail s w) small (trail_apart G t s w a.0 a.1)) (places_below (trail s w) small),
    )
