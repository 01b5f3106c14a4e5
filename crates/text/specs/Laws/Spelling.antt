-- Parts spell one text, and texts one after another spell the parts one after another.
-- Assumes nothing.
use Rattle.std.specs.Prelude.{ℕ, ◌≡◌, refl, List, [], ◌∷◌, ◌++◌, map}
use Rattle.std.proofs.Common.{arith, sym, ap, ap₂, subst, ◌∙◌, append_assoc, append-nil}
use Rattle.text.specs.Text.{Decimal, Part, number, byte, Spells}
use Rattle.text.specs.Laws.Decimal.{one_decimal, digits_of, digits_decimal}

pub one_spelling : (ps : List Part) (a b : List ℕ) → Spells ps a → Spells ps b → a ≡ b
unfolding Spells
one_spelling [] a b p q = p ∙ sym q
one_spelling (number n ∷ ps) a b p q =
    p.3 ∙ ap₂ ◌++◌ (one_decimal p.2 q.2) (one_spelling ps p.1 q.1 p.4 q.4) ∙ sym q.3
one_spelling (byte c ∷ ps) a b p q = p.1 ∙ ap (λ r. c ∷ r) (one_spelling ps p.0 q.0 p.2 q.2) ∙ sym q.1

-- and there is one
unfoldable pub text_of : List Part → List ℕ
text_of [] = []
text_of (number n ∷ ps) = digits_of n n ++ text_of ps
text_of (byte b ∷ ps) = b ∷ text_of ps

pub text_spells : (ps : List Part) → Spells ps (text_of ps)
unfolding Spells text_of
text_spells [] = refl
text_spells (number n ∷ ps) = (digits_of n n, text_of ps, digits_decimal n n (omega arith), refl, text_spells ps)
text_spells (byte b ∷ ps) = (text_of ps, refl, text_spells ps)

pub spells_join : (ps qs : List Part) (a b : List ℕ) → Spells ps a → Spells qs b → Spells (ps ++ qs) (a ++ b)
unfolding Spells
spells_join [] qs a b p q = subst (λ r. Spells qs (r ++ b)) (sym p) q
spells_join (number n ∷ ps) qs a b p q =
    (p.0, p.1 ++ b, p.2, ap (λ r. r ++ b) p.3 ∙ append_assoc p.0 p.1 b, spells_join ps qs p.1 b p.4 q)
spells_join (byte c ∷ ps) qs a b p q = (p.0 ++ b, ap (λ r. r ++ b) p.1, spells_join ps qs p.0 b p.2 q)

pub spells_byte : (b : ℕ) → Spells (byte b ∷ []) (b ∷ [])
unfolding Spells
spells_byte b = ([], refl, refl)

pub spells_bytes : (bs : List ℕ) → Spells (map byte bs) bs
unfolding Spells
spells_bytes [] = refl
spells_bytes (b ∷ bs) = (bs, refl, spells_bytes bs)

pub spells_number : {n : ℕ} {ds : List ℕ} → Decimal n ds → Spells (number n ∷ []) ds
unfolding Spells
spells_number {n} {ds} d = (ds, [], d, sym (append-nil ds), refl)

pub number_spelled : {n : ℕ} {ds : List ℕ} → Spells (number n ∷ []) ds → Decimal n ds
unfolding Spells
number_spelled {n} {ds} s = subst (Decimal n) (sym (s.3 ∙ ap (λ r. s.0 ++ r) s.4 ∙ append-nil s.0)) s.2
