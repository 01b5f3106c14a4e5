-- A table cut off at a number.
-- Assumes nothing.
use Rattle.std.specs.Prelude.{ℕ, ◌+◌, ◌*◌, ◌/◌, ◌%◌, ◌≤◌, ◌<◌, min, ◌≡◌, refl, List, ◌⊎◌, length, get_or, set}
use Rattle.std.proofs.Common.{div-add-mod', mod-lt, arith, ap, ◌∙◌, inl, inr, ⊎_elim, length-set}
use Rattle.std.proofs.Math.Decide.{dec_lt}
use Rattle.distances.specs.Ways.{cell}
use Rattle.distances.specs.Reached.{after}

-- n numbers from `low` on are cut off at far, the others as they were
pub record CutRow (d e : List ℕ) (low n far : ℕ) : Type 0 where
  pub long : length e ≡ length d
  pub those : (k : ℕ) → k < n → get_or e (low + k) 0 ≡ min (get_or d (low + k) 0) far
  pub others : (c : ℕ) → (c < low) ⊎ (low + n ≤ c) → get_or e c 0 ≡ get_or d c 0

-- the numbers of the crossings are cut off at far, the others as they were
pub record CutTo (d e : List ℕ) (nx ny far : ℕ) : Type 0 where
  pub long : length e ≡ length d
  pub those : (i j : ℕ) → i < nx → j < ny → get_or e (cell i j) 0 ≡ min (get_or d (cell i j) 0) far
  pub others : (i j : ℕ) → i < 96 → (nx ≤ i) ⊎ (ny ≤ j) → get_or e (cell i j) 0 ≡ get_or d (cell i j) 0

-- ---- a row, number by number

pub row_first : (d : List ℕ) (low far : ℕ) → CutRow d d low 0 far
row_first d low far = record { long = refl; those = λ k h. absurd (omega arith); others = λ c h. refl }

module _ (d e : List ℕ) (low n far v : ℕ) (h : low + n < length e) (new : v ≡ min (get_or e (low + n) 0) far) (r : CutRow d e low n far) where
  at : (c : ℕ) → ((c ≡ low + n) × (get_or (set e (low + n) v) c 0 ≡ v)) ⊎ ((¬ (c ≡ low + n)) × (get_or (set e (low + n) v) c 0 ≡ get_or e c 0))
  at c = after e (low + n) v c h

  pub row_more : CutRow d (set e (low + n) v) low (n + 1) far
  row_more = record {
    long = length-set e (low + n) v ∙ r.long;
    those = λ k q.
        ⊎_elim
        (λ s. let z : n ≡ k = omega (arith, s.0) in
        s.1 ∙ new ∙ ap (λ x. min x far) (r.others (low + n) (inr (omega arith))) ∙ ap (λ x. min (get_or d (low + x) 0) far) z)
        (λ s. s.1 ∙ r.those k (omega (arith, s.0)))
        (at (low + k));
    others = λ c q.
        ⊎_elim
        (λ s. absurd (⊎_elim (λ p. omega (arith, s.0)) (λ p. omega (arith, s.0)) q))
        (λ s. s.1 ∙ r.others c (⊎_elim (λ p. inl p) (λ p. inr (omega arith)) q))
        (at c);
  }

-- ---- all crossings, row by row

pub cut_first : (d : List ℕ) (nx far : ℕ) → CutTo d d nx 0 far
cut_first d nx far = record { long = refl; those = λ i j h k. absurd (omega arith); others = λ i j h k. refl }

module _ (d e f : List ℕ) (nx j far : ℕ) (narrow : nx ≤ 96) (c : CutTo d e nx j far) (r : CutRow e f (j * 96) nx far) where
  -- a number of another row stays
  apart : (i k : ℕ) → i < 96 → ¬ (k ≡ j) → get_or f (cell i k) 0 ≡ get_or e (cell i k) 0
  apart i k h n = r.others (cell i k) (elim (dec_lt k j) [ yes p ↦ inl (omega arith) | no p ↦ inr (omega arith) ])

  pub cut_more : CutTo d f nx (j + 1) far
  cut_more = record {
    long = r.long ∙ c.long;
    those = λ i k h q.
        elim (dec_lt k j) [
          | yes p ↦ apart i k (omega arith) (omega arith) ∙ c.those i k h p
          | no p ↦
              let z : j ≡ k = omega arith in
              let s : j * 96 + i ≡ cell i j = omega arith in
              rw (← z) (rw s at (r.those i h) ∙ ap (λ x. min x far) (c.others i j (omega arith) (inr (omega arith))))
        ];
    others = λ i k h o.
        ⊎_elim
        (λ p. r.others (cell i k) (elim (dec_lt k j) [ yes q ↦ inl (omega arith) | no q ↦ inr (omega arith) ]) ∙ c.others i k h (inl p))
        (λ p. apart i k h (omega arith) ∙ c.others i k h (inr (omega arith)))
        o;
  }

-- no number is larger than it was
pub cut_falls : (d e : List ℕ) (nx ny far : ℕ) → CutTo d e nx ny far → (c : ℕ) → get_or e c 0 ≤ get_or d c 0
cut_falls d e nx ny far t c =
    let s : c / 96 * 96 + c % 96 ≡ c = div-add-mod' c 96 in
    let k : cell (c % 96) (c / 96) ≡ c = omega arith in
    rw k at (by_cell (c % 96) (c / 96) (mod-lt c (omega arith)))
  where
    by_cell : (i j : ℕ) → i < 96 → get_or e (cell i j) 0 ≤ get_or d (cell i j) 0
    by_cell i j h =
        elim (dec_lt i nx) [
          | no p ↦ omega (arith, t.others i j h (inl (omega arith)))
          | yes p ↦ elim (dec_lt j ny) [
            | no q ↦ omega (arith, t.others i j h (inr (omega arith)))
            | yes q ↦ omega (arith, t.those i j p q)
          ]
        ]
