-- An even table: no open way lets one end be lowered, below a bound, by way of the other.
-- Assumes nothing.
use Rattle.std.specs.Prelude.{ℕ, ◌+◌, ◌-◌, ◌*◌, ◌≤◌, ◌<◌, min, ◌≡◌, refl, Bool, true, false, ◌&&◌, List, length, set, replicate}
use native.Mathlib.Omega.{arith}
use Rattle.std.proofs.Common.{◌∙◌, ⊎_elim, length-set}
use Rattle.std.proofs.Math.Path.{subst}
use Rattle.std.proofs.lemmas.Bool.{false≢true}
use Rattle.std.proofs.Math.ListN.{get_or, get_or-replicate}
use Rattle.std.proofs.lemmas.List.{length-replicate}
use Rattle.std.specs.List.{AllWithin, range_with_len}
use Rattle.std.proofs.lemmas.List.FromFn.{length-range_with_len, get_or-range_with_len}
use Rattle.std.proofs.Math.Dec.{leb}
use borrow.Author.Tests.{leb-true, eq-eqb}
use Rattle.std.proofs.Math.Decide.{dec_lt}
use Rattle.distances.specs.Lower.{cost_of}
use Rattle.distances.specs.Sweep.{width_of, Widths}
use Rattle.distances.specs.Reached.{after}
use Rattle.distances.specs.Ways.{cell, Map, Way, east, west, north, south}

-- the widths of the slabs between n tracks
pub record WidthsOf (at : List ℕ) (n : ℕ) (r : List ℕ) : Type 0 where
  pub long : length r ≡ 96
  pub each : (k : ℕ) → k + 1 < n → get_or r k 0 ≡ width_of at k

unfoldable pub Slim : List ℕ → ℕ → Type 0
Slim widths n = (k : ℕ) → k < n → get_or widths k 0 ≤ 30000

-- of two ends, a way of width w apart, neither lets the other be lowered to less than far
abbrev pub Level : (far a b w : ℕ) → Type 0
Level far a b w = (min b far ≤ a + w) × (min a far ≤ b + w)

-- of the first n ways of a row: their low ends stand from `low` on, their high ends `apart` further
unfoldable pub EvenRow : (d shut widths : List ℕ) (low apart n far : ℕ) → Type 0
EvenRow d shut widths low apart n far =
    (k : ℕ) → k < n → get_or shut (low + k) 0 ≡ 0 → Level far (get_or d (low + k) 0) (get_or d (low + apart + k) 0) (get_or widths k 0)

-- of the level ways of row j; of the first ny rows
unfoldable pub LevelRow : (d flat xs : List ℕ) (nx far j : ℕ) → Type 0
LevelRow d flat xs nx far j =
    (i : ℕ) → i + 1 < nx → get_or flat (cell i j) 0 ≡ 0 → Level far (get_or d (cell i j) 0) (get_or d (cell (i + 1) j) 0) (width_of xs i)

abbrev pub EvenRows : (d flat xs : List ℕ) (nx ny far : ℕ) → Type 0
EvenRows d flat xs nx ny far = (j : ℕ) → j < ny → LevelRow d flat xs nx far j

-- of the upright ways from row j to the next; from the first `slabs` rows
unfoldable pub UprightRow : (d tall ys : List ℕ) (nx far j : ℕ) → Type 0
UprightRow d tall ys nx far j =
    (i : ℕ) → i < nx → get_or tall (cell i j) 0 ≡ 0 → Level far (get_or d (cell i j) 0) (get_or d (cell i (j + 1)) 0) (width_of ys j)

abbrev pub EvenColumns : (d tall ys : List ℕ) (nx slabs far : ℕ) → Type 0
EvenColumns d tall ys nx slabs far = (j : ℕ) → j < slabs → UprightRow d tall ys nx far j

unfoldable pub Even : Map → List ℕ → ℕ → Type 0
Even m d far = (i j i' j' w : ℕ) → Way m i j i' j' w → min (get_or d (cell i j) 0) far ≤ get_or d (cell i' j') 0 + w

-- ---- both axes

pub even_both : (m : Map) (d : List ℕ) (far : ℕ) → EvenRows d m.flat m.xs m.nx m.ny far
    → EvenColumns d m.tall m.ys m.nx (m.ny - 1) far → Even m d far
unfolding Even LevelRow UprightRow
even_both m d far x y i j i' j' w (east p q r) = (x j q i p r).1
even_both m d far x y i j i' j' w (west p q r) = (x j' q i' p r).0
even_both m d far x y i j i' j' w (north p q r) = (y j (omega arith) i p r).1
even_both m d far x y i j i' j' w (south p q r) = (y j' (omega arith) i' p r).0

-- ---- a row, way by way

-- both halves of a yes
both : (a b : Bool) → (a && b) ≡ true → (a ≡ true) × (b ≡ true)
both true b h = (refl, h)
both false b h = absurd (false≢true h)

module _ (d shut widths : List ℕ) (low apart far : ℕ) where
  pub row_start : {even : Bool} → even ≡ true → EvenRow d shut widths low apart 0 far
  unfolding EvenRow
  row_start r k h = absurd (omega arith)

  -- the way k is looked at, from x and y, the numbers of its high and its low end cut off
  pub row_more : (k x y w : ℕ) (even : Bool) → x ≡ min (get_or d (low + apart + k) 0) far → y ≡ min (get_or d (low + k) 0) far
      → w ≡ cost_of (get_or shut (low + k) 0) (get_or widths k 0) → (even ≡ true → EvenRow d shut widths low apart k far)
      → ((even && leb x (get_or d (low + k) 0 + w)) && leb y (get_or d (low + apart + k) 0 + w)) ≡ true → EvenRow d shut widths low apart (k + 1) far
  unfolding EvenRow
  row_more k x y w even ex ey ew before r i h f =
      let o = both (even && leb x (get_or d (low + k) 0 + w)) (leb y (get_or d (low + apart + k) 0 + w)) r in
      let p = both even (leb x (get_or d (low + k) 0 + w)) o.0 in
      elim (dec_lt i k) [
        | yes q ↦ before p.0 i q f
        | no q ↦
            let z : k ≡ i = omega arith in
            let a = leb-true x (get_or d (low + k) 0 + w) p.1 in
            let b = leb-true y (get_or d (low + apart + k) 0 + w) o.1 in
            subst (λ j. get_or shut (low + j) 0 ≡ 0 → Level far (get_or d (low + j) 0) (get_or d (low + apart + j) 0) (get_or widths j 0)) z
            (λ g. let c : w ≡ get_or widths k 0 = ew ∙ (simp (eq-eqb _ _ g)) in (omega (arith, a, ex, c), omega (arith, b, ey, c))) f
      ]

-- ---- the widths, one by one

pub widths_start : (at : List ℕ) → WidthsOf at 1 (replicate 96 0)
widths_start at = record { long = length-replicate {A = ℕ} 96 0; each = λ k h. absurd (omega arith) }

pub widths_more : (at out : List ℕ) (k v : ℕ) → k < 96 → v ≡ width_of at k → WidthsOf at (k + 1) out → WidthsOf at (k + 1 + 1) (set out k v)
widths_more at out k v h e w = record {
  long = length-set out k v ∙ w.long;
  each = λ i q.
      ⊎_elim
      (λ s. let z : k ≡ i = omega (arith, s.0) in subst (λ j. get_or (set out k v) i 0 ≡ width_of at j) z (s.1 ∙ e))
      (λ s. s.1 ∙ w.each i (omega (arith, s.0)))
      (after out k v i (omega (arith, w.long)));
}

pub widths_end : (at out : List ℕ) (k n : ℕ) → k ≡ n → WidthsOf at k out → WidthsOf at n out
widths_end at out k n e = subst (λ j. WidthsOf at j out) e

-- the widths are slim
pub slim_at : (widths : List ℕ) (n k : ℕ) → Slim widths n → k < n → get_or widths k 0 ≤ 30000
unfolding Slim
slim_at widths n k s h = s k h

pub slim_widths : (at out : List ℕ) (n : ℕ) → Widths at (n - 1) → WidthsOf at n out → Slim out (n - 1)
unfolding Slim
slim_widths at out n r w k h = omega (arith, w.each k (omega arith), r.top (k + 1) (omega arith))

pub slim_alike : (at : List ℕ) (j n slabs v : ℕ) → Widths at slabs → j < slabs → n ≤ 96 → v ≡ width_of at j → Slim (replicate 96 v) n
unfolding Slim
slim_alike at j n slabs v r h few e k q = omega (arith, e, r.top (j + 1) (omega arith), get_or-replicate 96 k v 0 (omega arith))

-- ---- a row of level ways, a row of upright ones, and what holds of each row

pub each_below : (P : ℕ → Type 0) (n : ℕ) → AllWithin P (range_with_len 0 n) 0 (length (range_with_len 0 n)) → (j : ℕ) → j < n → P j
each_below P n a j h =
    let e : get_or (range_with_len 0 n) j 0 ≡ j = omega (arith, get_or-range_with_len 0 n j 0 h) in
    subst P e (a j 0 (omega arith) (rw (length-range_with_len 0 n) h))

pub level_row : (d flat xs out : List ℕ) (nx far j : ℕ) → WidthsOf xs nx out → EvenRow d flat out (j * 96) 1 (nx - 1) far → LevelRow d flat xs nx far j
unfolding LevelRow EvenRow
level_row d flat xs out nx far j w row i h =
    let a : j * 96 + i ≡ cell i j = omega arith in
    let b : j * 96 + 1 + i ≡ cell (i + 1) j = omega arith in
    rw (a, b, w.each i h) at (row i (omega arith))

pub upright_row : (d tall ys : List ℕ) (nx far j v : ℕ) → nx ≤ 96 → v ≡ width_of ys j → EvenRow d tall (replicate 96 v) (j * 96) 96 nx far
    → UprightRow d tall ys nx far j
unfolding UprightRow EvenRow
upright_row d tall ys nx far j v few e row i h =
    let a : j * 96 + i ≡ cell i j = omega arith in
    let b : j * 96 + 96 + i ≡ cell i (j + 1) = omega arith in
    let w : get_or (replicate 96 v) i 0 ≡ width_of ys j = get_or-replicate 96 i v 0 (omega arith) ∙ e in
    rw (a, b, w) at (row i h)
