-- What is counted in two words is what the bits say.
-- Assumes nothing.
use Rattle.std.specs.Prelude.{◌+◌, ◌^◌, ◌≤◌, ◌<◌, ◌≡◌, Bool, List, length, take, drop, eqb}
use Rattle.std.proofs.Common.{arith, sym, length-take, length-drop, pow_mono, eq-eqb, ne_eqb}
use Rattle.std.proofs.Math.Decide.{dec_lt}
use Rattle.std.proofs.Math.Bool.{cond}
use Rattle.index.specs.Bits.{number, opened, unbroken, words_of}
use Rattle.index.specs.Rows.{open_in, stretch_in}
use Rattle.index.specs.Laws.Words.{number_below, ones_number, zeros_number, opened_split, unbroken_le, unbroken_full, unbroken_short}

-- words of at most 128 bits
module _ (bs : List Bool) (few : length bs ≤ 128) where
  low_few : length (take 64 bs) ≤ 64
  low_few = omega (arith, length-take 64 bs)

  high_few : length (drop 64 bs) ≤ 64
  high_few = omega (arith, length-drop 64 bs)

  below : (cs : List Bool) → length cs ≤ 64 → number cs < 2 ^ 64
  below cs h = omega (arith, number_below cs, pow_mono h)

  pub open_words : open_in (words_of bs) ≡ opened bs
  unfolding open_in
  open_words = omega (arith, ones_number (take 64 bs), ones_number (drop 64 bs), opened_split 64 bs)

  pub stretch_words : stretch_in (words_of bs) ≡ unbroken bs
  unfolding stretch_in
  stretch_words =
      let l = zeros_number 64 (take 64 bs) low_few (below (take 64 bs) low_few) in
      let h = zeros_number 64 (drop 64 bs) high_few (below (drop 64 bs) high_few) in
      rw (l, h) (go (dec_lt (unbroken (take 64 bs)) 64))
    where
      go : Dec (unbroken (take 64 bs) < 64)
          → cond (eqb (unbroken (take 64 bs)) 64) (64 + unbroken (drop 64 bs)) (unbroken (take 64 bs)) ≡ unbroken bs
      go (yes h) = let n : ¬ (unbroken (take 64 bs) ≡ 64) = (λ z. omega arith) in rw (ne_eqb _ _ n) (sym (unbroken_short 64 bs n))
      go (no h) = let e : unbroken (take 64 bs) ≡ 64 = omega (arith, unbroken_le 64 bs) in rw (eq-eqb _ _ e) (sym (unbroken_full 64 bs e))
