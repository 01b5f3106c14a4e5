-- How a row is shown: the record that the kind can name is the only one to look at.
-- Assumes nothing.
use Rattle.std.specs.Prelude.{ℕ, zero, suc, ◌≡◌, refl, List, length, get_or}
use Rattle.std.proofs.Common.{arith, sym, ap, subst, ◌∙◌, inl, inr, ⊎_elim}
use Rattle.records.specs.declared.Numbers.{Numbers}
use Rattle.records.specs.Row.{with_kind, asked, Row, Blank}
use Rattle.paper.specs.declared.Mode.{Mode}
use Rattle.paper.specs.declared.Mode.TheVariants as mode
use Rattle.paper.specs.declared.Record.{Record}
use Rattle.paper.specs.declared.Record.TheVariants.{Bounds, KeepOut, Lay, Ask, TakeOut, Undo, Malformed}
use Rattle.paper.specs.Reading.{fields, fields_in, lay_kind, ask_kind, fields_of, Plain, Reads, word}
use Rattle.paper.specs.Laws.Read.{by_kind, candidate, candidate_back}

pub row_is : (k : ℕ) (n : Numbers) (r : Record) → Plain r → with_kind k n ≡ fields_of r → Row k n r
unfolding Row
row_is k n r p e = inl (p, e)

pub row_none : (k : ℕ) (n : Numbers) → (Plain (candidate (with_kind k n)) → ¬ (with_kind k n ≡ fields_of (candidate (with_kind k n)))) → Row k n Malformed
unfolding Row
row_none k n h = inr (
  refl,
  λ q p e.
      let same : q ≡ candidate (with_kind k n) = sym (candidate_back q p) ∙ ap candidate (sym e) in
      h (subst Plain same p) (subst (λ r. with_kind k n ≡ fields_of r) same e),
)

-- ---- a row each

pub row_bounds : (n : Numbers) → n.id ≡ 0 → n.d ≡ 0 → Row 1 n (Bounds (record { w = n.a; h = n.b; clearance = n.c }))
unfolding Plain fields_of
row_bounds n i d = row_is 1 n _ tt (λ k. fields 1 (i k) n.a n.b n.c (d k))

pub no_bounds : (n : Numbers) → ¬ ((n.id ≡ 0) × (n.d ≡ 0)) → Row 1 n Malformed
unfolding by_kind fields_of
no_bounds n h = row_none 1 n (λ p e. h (ap (λ f. f.id) e, ap (λ f. f.d) e))

pub row_keep_out : (n : Numbers) → ¬ (n.id ≡ 0) → Row 2 n (KeepOut (record { number = n.id }) (record { x0 = n.a; y0 = n.b; x1 = n.c; y1 = n.d }))
unfolding Plain fields_of
row_keep_out n i = row_is 2 n _ (omega arith) refl

pub no_keep_out : (n : Numbers) → n.id ≡ 0 → Row 2 n Malformed
unfolding by_kind Plain
no_keep_out n z = row_none 2 n (λ p e. omega (arith, p))

pub row_lay : (m : Mode) (n : Numbers) → ¬ (n.id ≡ 0) → Row (lay_kind m) n (Lay (record { number = n.id }) (asked m n))
unfolding Plain fields_of
row_lay m n i = row_is (lay_kind m) n _ (omega arith) refl

pub no_lay : (m : Mode) (n : Numbers) → n.id ≡ 0 → Row (lay_kind m) n Malformed
unfolding by_kind Plain
no_lay mode.Plain n z = row_none 3 n (λ p e. omega arith)
no_lay mode.Fewest n z = row_none 9 n (λ p e. omega arith)

pub row_ask : (m : Mode) (n : Numbers) → n.id ≡ 0 → Row (ask_kind m) n (Ask (asked m n))
unfolding Plain fields_of
row_ask m n i = row_is (ask_kind m) n _ tt (λ k. fields (ask_kind m) (i k) n.a n.b n.c n.d)

pub no_ask : (m : Mode) (n : Numbers) → ¬ (n.id ≡ 0) → Row (ask_kind m) n Malformed
unfolding by_kind fields_of
no_ask mode.Plain n i = row_none 4 n (λ p e. i (ap (λ f. f.id) e))
no_ask mode.Fewest n i = row_none 8 n (λ p e. i (ap (λ f. f.id) e))

-- the fields of a record whose four numbers are 0
pub blank_of : (n : Numbers) (k j : ℕ) → with_kind k n ≡ fields k j 0 0 0 0 → Blank n
blank_of n k j e = (ap (λ f. f.a) e, ap (λ f. f.b) e, ap (λ f. f.c) e, ap (λ f. f.d) e)

pub row_take_out : (n : Numbers) → ¬ (n.id ≡ 0) → Blank n → Row 5 n (TakeOut (record { number = n.id }))
unfolding Plain fields_of
row_take_out n i z = row_is 5 n _ (omega arith) (λ k. fields 5 n.id (z.0 k) (z.1 k) (z.2 k) (z.3 k))

pub no_take_out : (n : Numbers) → ¬ ((¬ (n.id ≡ 0)) × Blank n) → Row 5 n Malformed
unfolding by_kind Plain fields_of
no_take_out n h = row_none 5 n (λ p e. h ((λ z. omega (arith, p)), blank_of n 5 n.id e))

pub row_undo : (n : Numbers) → n.id ≡ 0 → Blank n → Row 6 n Undo
unfolding Plain fields_of
row_undo n i z = row_is 6 n _ tt (λ k. fields 6 (i k) (z.0 k) (z.1 k) (z.2 k) (z.3 k))

pub no_undo : (n : Numbers) → ¬ ((n.id ≡ 0) × Blank n) → Row 6 n Malformed
unfolding by_kind fields_of
no_undo n h = row_none 6 n (λ p e. h (ap (λ f. f.id) e, blank_of n 6 0 e))

-- a kind that is none of 1 to 6, 8 and 9
pub row_zero : (n : Numbers) → Row 0 n Malformed
unfolding by_kind Plain
row_zero n = row_none 0 n (λ p. absurd p)

pub row_seven : (n : Numbers) → Row 7 n Malformed
unfolding by_kind Plain
row_seven n = row_none 7 n (λ p. absurd p)

pub row_rest : (k : ℕ) (n : Numbers) → ¬ (k ≡ 0) → ¬ (k ≡ 1) → ¬ (k ≡ 2) → ¬ (k ≡ 3) → ¬ (k ≡ 4) → ¬ (k ≡ 5) → ¬ (k ≡ 6) → ¬ (k ≡ 7) → ¬ (k ≡ 8)
    → ¬ (k ≡ 9) → Row k n Malformed
unfolding by_kind Plain
row_rest zero n a b c d e f g h i j = absurd (a refl)
row_rest (suc zero) n a b c d e f g h i j = absurd (b refl)
row_rest (suc (suc zero)) n a b c d e f g h i j = absurd (c refl)
row_rest (suc (suc (suc zero))) n a b c d e f g h i j = absurd (d refl)
row_rest (suc (suc (suc (suc zero)))) n a b c d e f g h i j = absurd (e refl)
row_rest (suc (suc (suc (suc (suc zero))))) n a b c d e f g h i j = absurd (f refl)
row_rest (suc (suc (suc (suc (suc (suc zero)))))) n a b c d e f g h i j = absurd (g refl)
row_rest (suc (suc (suc (suc (suc (suc (suc zero))))))) n a b c d e f g h i j = absurd (h refl)
row_rest (suc (suc (suc (suc (suc (suc (suc (suc zero)))))))) n a b c d e f g h i j = absurd (i refl)
row_rest (suc (suc (suc (suc (suc (suc (suc (suc (suc zero))))))))) n a b c d e f g h i j = absurd (j refl)
row_rest (suc (suc (suc (suc (suc (suc (suc (suc (suc (suc k)))))))))) n a b c d e f g h i j = row_none _ n (λ p. absurd p)

-- ---- from the row to the bytes

one_zero : (r : Record) → (fields_of r).zero ≡ 0
unfolding fields_of
one_zero (Bounds s) = refl
one_zero (KeepOut i r) = refl
one_zero (Lay i q) = refl
one_zero (Ask q) = refl
one_zero (TakeOut i) = refl
one_zero Undo = refl
one_zero Malformed = refl

pub short : (bytes : List ℕ) → ¬ (length bytes ≡ 12) → Reads bytes Malformed
unfolding Reads
short bytes n = inr (refl, λ q s. n s.twelve)

pub spoilt : (bytes : List ℕ) → ¬ (get_or bytes 1 0 ≡ 0) → Reads bytes Malformed
unfolding Reads
spoilt bytes n = inr (refl, λ q s. n (ap (λ f. f.zero) s.same ∙ one_zero q))

pub reads_row : (bytes : List ℕ) (n : Numbers) (r : Record) → length bytes ≡ 12 → get_or bytes 1 0 ≡ 0
    → (n.id ≡ word bytes 2) × (n.a ≡ word bytes 4) × (n.b ≡ word bytes 6) × (n.c ≡ word bytes 8) × (n.d ≡ word bytes 10)
    → Row (get_or bytes 0 0) n r → Reads bytes r
unfolding Row Reads
reads_row bytes n r twelve z e row =
    ⊎_elim (λ h. inl (record { twelve = twelve; plain = h.0; same = sym same ∙ h.1 }))
    (λ h. inr (h.0, λ q s. h.1 q s.plain (same ∙ s.same))) row
  where
    same : with_kind (get_or bytes 0 0) n ≡ fields_in bytes
    same = λ i. record { kind = get_or bytes 0 0; zero = sym z i; id = e.0 i; a = e.1 i; b = e.2 i; c = e.3 i; d = e.4 i }
