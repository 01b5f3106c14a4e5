-- How ranges are found and places marked: a law for each turn of a loop.
-- Assumes nothing.
use Rattle.std.specs.Prelude.{ℕ, suc, ◌+◌, ◌-◌, ◌*◌, ◌≤◌, ◌<◌, ◌≡◌, refl, ◌⊎◌, ◌↔◌, List, length, get_or, set, take, drop, Option, Some, None, MatchOption}
use Rattle.std.proofs.Common.{eq-or-lt_of_le, le_of_suc-le-suc, arith, ap, subst, ◌∙◌, inl, inr, ⊎_elim, length-set, get_or-set_same, get_or-set_other}
use Rattle.std.proofs.Common.{get_or-take, get_or-drop}
use Rattle.std.proofs.Math.Decide.{dec_lt, dec_le}
use Rattle.paper.specs.Grid.{Meets}
use Rattle.edges.specs.declared.Range.{Range}
use Rattle.edges.specs.Ranges.{Rising, Below, Meeting}
use Rattle.edges.specs.Marks.{cell, Filled, In, Boxed}

-- ---- ranges

pub le_or_lt : (a b : ℕ) → (a ≤ b) ⊎ (b < a)
le_or_lt a b = elim (dec_le a b) [ yes h ↦ inl h | no h ↦ inr (omega arith) ]

-- in a rising list the tracks from there on are not below v
pub below_iff : (at : List ℕ) (count v from r : ℕ) → Rising at count → Below at count v from r
    → (i : ℕ) → i < count → from ≤ i → (i < r) ↔ (get_or at i 0 < v)
below_iff at count v from r rise b i h start = (
  λ p. b.under i p start,
  λ p. ⊎_elim (λ q. absurd (omega (arith, past q))) (λ q. q) (le_or_lt r i),
)
  where
    past : r ≤ i → v ≤ get_or at i 0
    past q = ⊎_elim (λ e. omega (arith, b.here (omega arith), ap (λ k. get_or at k 0) e)) (λ k. omega (arith, b.here (omega arith), rise.rise r i k h)) (eq-or-lt_of_le q)

-- what a search for the first that is not below v, from `from` on, says of all of them
module _ (at : List ℕ) (count v from : ℕ) (long : count ≤ length at) (within : from ≤ count) where
  -- the numbers that are looked through
  abbrev pub ahead : ℕ → ℕ
  ahead k = get_or (take (count - from) (drop from at)) k 0

  ahead_is : (k : ℕ) → k < count - from → ahead k ≡ get_or at (from + k) 0
  ahead_is k h = get_or-take (count - from) (drop from at) k 0 h ∙ get_or-drop from at k 0

  ahead_of : (i : ℕ) → from ≤ i → i < count → ahead (i - from) ≡ get_or at i 0
  ahead_of i a b = ahead_is (i - from) (omega arith) ∙ ap (λ j. get_or at j 0) (omega arith)

  abbrev pub Searched : Option ℕ → Type 0
  Searched r = MatchOption r ((k : ℕ) → k < count - from → ¬ (v ≤ ahead k)) (λ i. (i < count - from) × (v ≤ ahead i) × ((k : ℕ) → k < i → ¬ (v ≤ ahead k)))

  pub found_at : (k : ℕ) → Searched (Some k) → Below at count v from (from + k)
  found_at k s = record {
    past = omega arith;
    few = omega (arith, s.0);
    under = λ i a b. omega (arith, s.2 (i - from) (omega arith), ahead_of i b (omega (arith, s.0)));
    here = λ h. omega (arith, s.1, ahead_is k s.0);
  }

  pub found_none : Searched None → Below at count v from count
  found_none s = record {
    past = within;
    few = omega arith;
    under = λ i a b. omega (arith, s (i - from) (omega arith), ahead_of i b a);
    here = λ h. absurd (omega arith);
  }

-- found with a number that is v in other words
pub below_as : {at : List ℕ} {count u from r : ℕ} (v : ℕ) → Below at count u from r → u ≡ v → Below at count v from r
below_as {at} {count} {u} {from} {r} v b e = subst (λ n. Below at count n from r) e b

-- looked for from where one for a number that is not larger was found
pub below_on : {at : List ℕ} {count u v m r : ℕ} → u ≤ v → Below at count u 0 m → Below at count v m r → Below at count v 0 r
below_on {m} h p q = record {
  past = omega arith;
  few = q.few;
  under = λ i k s. ⊎_elim (q.under i k) (λ a. omega (arith, p.under i a s)) (le_or_lt m i);
  here = q.here;
}

-- the low end is `low` less c; the high end was looked for from a place that is not past the low one
pub meeting : (at : List ℕ) (count lo hi c reach low start from to : ℕ) → Rising at count → low + reach ≡ lo + 1
    → Below at count (low - c) 0 from → start ≤ from → Below at count (hi + c) start to
    → Meeting at count lo hi c reach (record { from = from; to = to })
unfolding Meets
meeting at count lo hi c reach low start from to rise e p s q = record {
  starts = p.few;
  ends = q.few;
  those = λ i h.
      let low_iff = below_iff at count (low - c) 0 from rise p i h (omega arith) in
      let high_iff = below_iff at count (hi + c) start to rise q i h in (
        λ m. (let n : ¬ (get_or at i 0 < low - c) = λ z. omega (arith, low_iff.1 z) in omega arith, (high_iff (omega arith)).0 m.1),
        λ m.
            let on : from ≤ i = ⊎_elim (λ z. z) (λ z. absurd (omega (arith, low_iff.0 z, m.0))) (le_or_lt from i) in
            (on, (high_iff (omega arith)).1 m.1),
      );
}

-- ---- a row of marks

pub filled_first : (d : List ℕ) (from : ℕ) → Filled d d from from
filled_first d from = record { long = refl; marked = λ k h j. absurd (omega arith); others = λ k h. refl }

pub filled_more : (d e : List ℕ) (from k : ℕ) → k < length e → from ≤ k → Filled d e from k → Filled d (set e k 1) from (k + 1)
filled_more d e from k h p f = record {
  long = length-set e k 1 ∙ f.long;
  marked = λ j a b. ⊎_elim (λ q. rw q (get_or-set_same e k 1 0 h)) (λ q. get_or-set_other e k j 1 0 (λ z. omega arith) ∙ f.marked j a q)
      (eq-or-lt_of_le (le_of_suc-le-suc (let s : j < suc k = omega arith in s)));
  others = λ j a. get_or-set_other e k j 1 0 (apart j a) ∙ f.others j (⊎_elim inl (λ q. inr (omega arith)) a);
}
  where
    apart : (j : ℕ) → (j < from) ⊎ (k + 1 ≤ j) → ¬ (j ≡ k)
    apart j (inl q) z = omega arith
    apart j (inr q) z = omega arith

-- at the end k is `to`, or nothing was marked
pub filled_end : (d e : List ℕ) (from k to : ℕ) → to ≤ k → (k ≤ to) ⊎ (k ≤ from) → from ≤ k → Filled d e from k → Filled d e from to
filled_end d e from k to h (inl p) q f = let z : k ≡ to = omega arith in subst (λ x. Filled d e from x) z f
filled_end d e from k to h (inr p) q f = record {
  long = f.long;
  marked = λ j a b. absurd (omega arith);
  others = λ j a. f.others j (⊎_elim (λ b. inl b) (λ b. elim (dec_lt j from) [ yes c ↦ inl c | no c ↦ inr (omega arith) ]) a);
}

-- ---- row after row

abbrev pub upto : Range → ℕ → Range
upto y j = record { from = y.from; to = j }

pub boxed_first : (d : List ℕ) (x y : Range) → Boxed d d x (upto y y.from)
boxed_first d x y = record { long = refl; marked = λ i j h p. absurd (omega arith); others = λ i j h p. refl }

module _ (d e f : List ℕ) (x y : Range) (k : ℕ) (narrow : x.to ≤ 96) (on : y.from ≤ k) (b : Boxed d e x (upto y k))
    (r : Filled e f (x.from + k * 96) (x.to + k * 96)) where
  -- a place of another row is not in this one
  row_before : (i j : ℕ) → i < 96 → j < k → get_or f (cell i j) 0 ≡ get_or e (cell i j) 0
  row_before i j h p = r.others (cell i j) (inl (omega arith))

  row_after : (i j : ℕ) → k < j → get_or f (cell i j) 0 ≡ get_or e (cell i j) 0
  row_after i j p = r.others (cell i j) (inr (omega arith))

  boxed_marked : (i j : ℕ) → i < 96 → In x (upto y (k + 1)) i j → get_or f (cell i j) 0 ≡ 1
  boxed_marked i j h p =
      ⊎_elim
      (λ q. rw q (r.marked (cell i k) (omega arith) (omega arith)))
      (λ q. row_before i j h q ∙ b.marked i j h (p.0, (p.1.0, q)))
      (eq-or-lt_of_le (le_of_suc-le-suc (let s : j < suc k = omega arith in s)))

  -- neither in this row nor in one before
  boxed_others : (i j : ℕ) → i < 96 → ¬ (In x (upto y (k + 1)) i j) → get_or f (cell i j) 0 ≡ get_or d (cell i j) 0
  boxed_others i j h n =
      ⊎_elim
      (λ p. row_before i j h p ∙ b.others i j h (λ q. n (q.0, (q.1.0, omega arith))))
      (λ p. ⊎_elim (λ q. same q) (λ q. row_after i j q ∙ b.others i j h (λ z. omega arith)) (eq-or-lt_of_le p))
      (lt_or_le j k)
    where
      lt_or_le : (a c : ℕ) → (a < c) ⊎ (c ≤ a)
      lt_or_le a c = elim (dec_lt a c) [ yes z ↦ inl z | no z ↦ inr (omega arith) ]

      same : k ≡ j → get_or f (cell i j) 0 ≡ get_or d (cell i j) 0
      same q =
          let out : (i < x.from) ⊎ (x.to ≤ i)
          = ⊎_elim (λ z. inl z) (λ z. ⊎_elim (λ w. absurd (n ((z, w), (omega arith, omega arith)))) (λ w. inr w) (lt_or_le i x.to)) (lt_or_le i x.from) in
          r.others (cell i j) (⊎_elim (λ z. inl (omega arith)) (λ z. inr (omega arith)) out) ∙ b.others i j h (λ z. omega arith)

  pub boxed_more : Boxed d f x (upto y (k + 1))
  boxed_more = record { long = r.long ∙ b.long; marked = boxed_marked; others = boxed_others }

pub boxed_end : (d e : List ℕ) (x y : Range) (k : ℕ) → y.to ≤ k → (k ≤ y.to) ⊎ (k ≤ y.from) → y.from ≤ k → Boxed d e x (upto y k) → Boxed d e x y
boxed_end d e x y k h (inl p) q b = let z : k ≡ y.to = omega arith in subst (λ j. Boxed d e x (upto y j)) z b
boxed_end d e x y k h (inr p) q b = record {
  long = b.long;
  marked = λ i j a m. absurd (omega arith);
  others = λ i j a m. b.others i j a (λ z. omega arith);
}
