-- What stands in a lent buffer: texts put one after another, how far they reach, and a number digit by digit.
-- Assumes nothing.
use Rattle.std.specs.Prelude.{ℕ, suc, ◌+◌, ◌*◌, ◌/◌, ◌%◌, ◌≤◌, ◌<◌, ◌≡◌, refl, List, [], ◌∷◌, ◌++◌, length, take, drop, set, replicate, map, ◌^◌}
use Rattle.std.proofs.Common.{add-one, arith, sym, ap, ap₂, subst, ◌∙◌, append_assoc, append-nil, length-append, length-take, length-drop, take-append-drop, take_at, drop_at, drop-drop, length-take-le}
use Rattle.std.proofs.lemmas.List.{drop-append-le, set_split}
use Rattle.std.specs.Fmt.{decimal}
use Rattle.std.proofs.lemmas.Fmt.{decimal_by_steps}
use Rattle.text.specs.Text.{read_on, Decimal, Part, number, byte, Spells, Puts, Writes}
use Rattle.text.specs.Laws.Decimal.{decimal_short, decimal_one, decimal_more}
use Rattle.text.specs.Laws.Spelling.{one_spelling, spells_join, spells_byte, spells_bytes, spells_number, number_spelled}

pub puts_length : {bs b b' : List ℕ} {at r : ℕ} → Puts bs b at b' r → length b' ≡ length b
puts_length {bs} {b} {b'} {at} {r} p =
    ap length p.holds ∙ omega (
      arith,
      length-append (take at b ++ bs) (drop (at + length bs) b),
      length-append (take at b) bs,
      length-take-le at b (omega (arith, p.fits)),
      length-drop (at + length bs) b,
      p.fits,
    )

pub puts_join : {bs cs b b₁ b₂ : List ℕ} {at r₁ r₂ : ℕ} → Puts bs b at b₁ r₁ → Puts cs b₁ r₁ b₂ r₂ → Puts (bs ++ cs) b at b₂ r₂
puts_join {bs} {cs} {b} {b₁} {b₂} {at} {r₁} {r₂} p q = record {
  fits = omega (arith, n, q.fits, p.next, puts_length p);
  holds = q.holds ∙ ap₂ (λ x y. x ++ cs ++ y) front back ∙ ap (λ x. x ++ drop (at + length (bs ++ cs)) b) (append_assoc (take at b) bs cs);
  next = omega (arith, n, q.next, p.next);
}
  where
    n : length (bs ++ cs) ≡ length bs + length cs
    n = length-append bs cs

    -- how long the first part of b₁ is
    long : length (take at b ++ bs) ≡ r₁
    long = omega (arith, length-append (take at b) bs, length-take-le at b (omega (arith, p.fits)), p.next)

    front : take r₁ b₁ ≡ take at b ++ bs
    front = ap (take r₁) p.holds ∙ take_at (take at b ++ bs) (drop (at + length bs) b) r₁ long

    rest : drop r₁ b₁ ≡ drop (at + length bs) b
    rest = ap (drop r₁) p.holds ∙ drop_at (take at b ++ bs) (drop (at + length bs) b) r₁ long

    back : drop (r₁ + length cs) b₁ ≡ drop (at + length (bs ++ cs)) b
    back =
        let e : at + length bs + length cs ≡ at + length (bs ++ cs) = omega (arith, n) in
        sym (drop-drop (length cs) r₁ b₁) ∙ ap (drop (length cs)) rest ∙ drop-drop (length cs) (at + length bs) b ∙ ap (λ k. drop k b) e

-- what was put at a buffer's start lies within it
pub put_within : (bs buffer after : List ℕ) (r : ℕ) → Puts bs buffer 0 after r → r ≡ length (take r after)
put_within bs buffer after r p = sym (length-take-le r after (omega (arith, p.fits, p.next, puts_length p)))

-- what is put into the part of a buffer from `at` on is put into the buffer
pub puts_part : (bs b p : List ℕ) (at k r : ℕ) → at ≤ length b → Puts bs (take k (drop at b)) 0 p r
    → Puts bs b at (take at b ++ (p ++ drop k (drop at b))) (at + r)
puts_part bs b p at k r h q = record {
  fits = omega (arith, q.fits, length-take k (drop at b), length-drop at b);
  holds = ap (λ l. take at b ++ l) (ap (λ l. l ++ drop k (drop at b)) q.holds ∙ append_assoc bs _ _ ∙ ap (λ l. bs ++ l) rest)
      ∙ sym (append_assoc (take at b) bs (drop (at + length bs) b));
  next = omega (arith, q.next);
}
  where
    rest : drop (0 + length bs) (take k (drop at b)) ++ drop k (drop at b) ≡ drop (at + length bs) b
    rest =
        let e : at + (0 + length bs) ≡ at + length bs = omega arith in
        sym (drop-append-le (0 + length bs) (take k (drop at b)) (drop k (drop at b)) q.fits)
        ∙ ap (drop (0 + length bs)) (take-append-drop k (drop at b)) ∙ drop-drop (0 + length bs) at b ∙ ap (λ i. drop i b) e

pub writes_length : {ps : List Part} {b b' : List ℕ} {at r : ℕ} → Writes ps b at b' r → length b' ≡ length b
writes_length w = puts_length w.put

pub writes_join : {ps qs : List Part} {b b₁ b₂ : List ℕ} {at r₁ r₂ : ℕ}
    → Writes ps b at b₁ r₁ → Writes qs b₁ r₁ b₂ r₂ → Writes (ps ++ qs) b at b₂ r₂
writes_join {ps} {qs} v w = record {
  bytes = v.bytes ++ w.bytes;
  spelled = spells_join ps qs v.bytes w.bytes v.spelled w.spelled;
  put = puts_join v.put w.put;
}

-- nothing written
pub writes_none : (b : List ℕ) (at : ℕ) → at ≤ length b → Writes [] b at b at
unfolding Spells
writes_none b at h = record {
  bytes = [];
  spelled = refl;
  put = let e : at + length {A = ℕ} [] ≡ at = omega arith in record { fits = omega arith; holds = sym (ap₂ (λ r k. r ++ drop k b) (append-nil (take at b)) e ∙ take-append-drop at b); next = omega arith };
}

pub writes_byte : (b : List ℕ) (at c : ℕ) → at < length b → Writes (byte c ∷ []) b at (set b at c) (at + 1)
writes_byte b at c h = record {
  bytes = c ∷ [];
  spelled = spells_byte c;
  put = record {
    fits = omega arith;
    holds = set_split b at c h ∙ sym (append_assoc (take at b) (c ∷ []) (drop (suc at) b)) ∙ ap (λ k. take at b ++ c ∷ [] ++ drop k b) (sym (add-one at));
    next = refl;
  };
}

-- what is put is determined, and so is what is written
pub one_put : (b b₁ b₂ : List ℕ) (at r₁ r₂ : ℕ) (x y : List ℕ) → x ≡ y → Puts x b at b₁ r₁ → Puts y b at b₂ r₂ → (b₁ ≡ b₂) × (r₁ ≡ r₂)
one_put b b₁ b₂ at r₁ r₂ x y e p q = (
  p.holds ∙ ap (λ z. take at b ++ z ++ drop (at + length z) b) e ∙ sym q.holds,
  p.next ∙ ap (λ z. at + length z) e ∙ sym q.next,
)

pub one_writing : {ps : List Part} {b b₁ b₂ : List ℕ} {at r₁ r₂ : ℕ} → Writes ps b at b₁ r₁ → Writes ps b at b₂ r₂ → (b₁ ≡ b₂) × (r₁ ≡ r₂)
one_writing {ps} {b} {b₁} {b₂} {at} {r₁} {r₂} v w =
    one_put b b₁ b₂ at r₁ r₂ v.bytes w.bytes (one_spelling ps v.bytes w.bytes v.spelled w.spelled) v.put w.put

-- ---- how far a text reaches

-- the parts are written in at most k places after `at`, and the buffer is as long as it was
pub record Reaches (k : ℕ) (ps : List Part) (b : List ℕ) (at : ℕ) (b' : List ℕ) (r : ℕ) : Type 0 where
  pub writes : Writes ps b at b' r
  pub near : r ≤ at + k
  pub same_length : length b' ≡ length b

pub reaches : {k : ℕ} {ps : List Part} {b b' : List ℕ} {at r : ℕ} → Writes ps b at b' r → r ≤ at + k → Reaches k ps b at b' r
reaches w n = record { writes = w; near = n; same_length = writes_length w }

infixl 20 ◌then◌
pub ◌then◌ : {j k : ℕ} {ps qs : List Part} {b b₁ b₂ : List ℕ} {at r₁ r₂ : ℕ}
    → Reaches j ps b at b₁ r₁ → Reaches k qs b₁ r₁ b₂ r₂ → Reaches (j + k) (ps ++ qs) b at b₂ r₂
v then w = reaches (writes_join v.writes w.writes) (omega (arith, v.near, w.near))

pub byte_reach : {c : ℕ} {b b' : List ℕ} {at r : ℕ} → Writes (byte c ∷ []) b at b' r → Reaches 1 (byte c ∷ []) b at b' r
unfolding Spells
byte_reach w = reaches w (omega (arith, w.put.next, ap length w.spelled.1, ap length w.spelled.2))

-- a number that k nines reach takes k places at most
number_reach : (k : ℕ) {n : ℕ} {b b' : List ℕ} {at r : ℕ} → 1 ≤ k → Writes (number n ∷ []) b at b' r → n ≤ read_on 0 (replicate k 57)
    → Reaches k (number n ∷ []) b at b' r
number_reach k h w l = reaches w (omega (arith, w.put.next, decimal_short k h l (number_spelled w.spelled)))

module _ {n : ℕ} {b b' : List ℕ} {at r : ℕ} (w : Writes (number n ∷ []) b at b' r) where
  pub three_digits : n ≤ 999 → Reaches 3 (number n ∷ []) b at b' r
  unfolding read_on
  three_digits l = number_reach 3 (omega arith) w l

  pub five_digits : n ≤ 99999 → Reaches 5 (number n ∷ []) b at b' r
  unfolding read_on
  five_digits l = number_reach 5 (omega arith) w l

  pub ten_digits : n ≤ 9999999999 → Reaches 10 (number n ∷ []) b at b' r
  unfolding read_on
  ten_digits l = number_reach 10 (omega arith) w l

-- the same after a byte
next_reach : (k : ℕ) {c n : ℕ} {b b' : List ℕ} {at r : ℕ} → 1 ≤ k → Writes (byte c ∷ number n ∷ []) b at b' r → n ≤ read_on 0 (replicate k 57)
    → Reaches (1 + k) (byte c ∷ number n ∷ []) b at b' r
unfolding Spells
next_reach k h w l = reaches w (omega (arith, w.put.next, ap length w.spelled.1, decimal_short k h l (number_spelled w.spelled.2)))

module _ {c n : ℕ} {b b' : List ℕ} {at r : ℕ} (w : Writes (byte c ∷ number n ∷ []) b at b' r) where
  pub next_three : n ≤ 999 → Reaches 4 (byte c ∷ number n ∷ []) b at b' r
  unfolding read_on
  next_three l = next_reach 3 (omega arith) w l

  pub next_five : n ≤ 99999 → Reaches 6 (byte c ∷ number n ∷ []) b at b' r
  unfolding read_on
  next_five l = next_reach 5 (omega arith) w l

  pub next_ten : n ≤ 9999999999 → Reaches 11 (byte c ∷ number n ∷ []) b at b' r
  unfolding read_on
  next_ten l = next_reach 10 (omega arith) w l

-- ---- a number, and a line

pub writes_number : (n : ℕ) {b b' : List ℕ} {at r : ℕ} → n < 2 ^ 64 → Puts (decimal n) b at b' r → Writes (number n ∷ []) b at b' r
writes_number n h p = record {
  bytes = decimal n;
  spelled = spells_number (decimal_by_steps Decimal decimal_one more n h);
  put = p;
}
  where
    more : (n : ℕ) (ds : List ℕ) → 10 ≤ n → Decimal (n / 10) ds → Decimal n (ds ++ (48 + n % 10) ∷ [])
    more n ds l d =
        let s : 10 * (n / 10) + n % 10 ≡ n = omega arith in
        subst (λ m. Decimal m (ds ++ (48 + n % 10) ∷ [])) s (decimal_more (n / 10) (n % 10) ds (omega arith) (omega arith) d)

pub writes_line : {w b b₁ b₂ : List ℕ} {at r₁ r₂ : ℕ} → Puts w b at b₁ r₁ → Writes (byte 10 ∷ []) b₁ r₁ b₂ r₂ → Writes (map byte w ++ byte 10 ∷ []) b at b₂ r₂
writes_line {w} p v = writes_join (record { bytes = w; spelled = spells_bytes w; put = p }) v
