-- Which record was read, by the record's kind.
-- Assumes nothing.
use Rattle.std.specs.Prelude.{ℕ, suc, ◌≤◌, ◌≡◌, refl, ◌⊎◌, List, get_or}
use Rattle.std.proofs.Common.{arith, sym, ap, inl, inr, ⊎_elim}
use Rattle.paper.specs.declared.Mode.{Mode}
use Rattle.paper.specs.declared.Mode.TheVariants.{Plain, Fewest}
use Rattle.paper.specs.declared.Record.{Record}
use Rattle.paper.specs.declared.Record.TheVariants.{Bounds, KeepOut, Lay, Ask, TakeOut, Undo, Malformed}
use Rattle.paper.specs.Reading.{lay_kind, ask_kind, fields_of, Reads}
use Rattle.feed.specs.Feeding.{KindIs, CaseIs}

lay_kinds : (m : Mode) → (lay_kind m ≡ 3) ⊎ (lay_kind m ≡ 9)
lay_kinds Plain = inl refl
lay_kinds Fewest = inr refl

ask_kinds : (m : Mode) → (ask_kind m ≡ 4) ⊎ (ask_kind m ≡ 8)
ask_kinds Plain = inl refl
ask_kinds Fewest = inr refl

-- the case that a record of the kind is
abbrev pub Case : ℕ → ℕ → Type 0
Case k c = ((k ≤ 6) × (k ≡ suc c)) ⊎ ((k ≡ 8) × (c ≡ 3)) ⊎ ((k ≡ 9) × (c ≡ 2))

small : (k c : ℕ) → k ≤ 6 → Case k c → k ≡ suc c
small k c l (inl h) = h.1
small k c l (inr (inl h)) = absurd (omega (arith, h.0))
small k c l (inr (inr h)) = absurd (omega (arith, h.0))

eight : (k c : ℕ) → k ≡ 8 → Case k c → c ≡ 3
eight k c e (inl h) = absurd (omega (arith, h.0))
eight k c e (inr (inl h)) = h.1
eight k c e (inr (inr h)) = absurd (omega (arith, h.0))

nine : (k c : ℕ) → k ≡ 9 → Case k c → c ≡ 2
nine k c e (inl h) = absurd (omega (arith, h.0))
nine k c e (inr (inl h)) = absurd (omega (arith, h.0))
nine k c e (inr (inr h)) = h.1

pub of_kind : (rec : Record) (k c : ℕ) → KindIs k rec → Case k c → CaseIs c rec
unfolding KindIs CaseIs fields_of
of_kind rec k c (inl e) h = inl e
of_kind (Bounds s) k c (inr e) h = inr (omega (arith, e.1, small k c (omega (arith, e.1)) h))
of_kind (KeepOut i r) k c (inr e) h = inr (omega (arith, e.1, small k c (omega (arith, e.1)) h))
of_kind (Lay i q) k c (inr e) h =
    inr (⊎_elim (λ z. omega (arith, e.1, small k c (omega (arith, e.1)) h)) (λ z. sym (nine k c (omega (arith, e.1)) h)) (lay_kinds q.mode))
of_kind (Ask q) k c (inr e) h =
    inr (⊎_elim (λ z. omega (arith, e.1, small k c (omega (arith, e.1)) h)) (λ z. sym (eight k c (omega (arith, e.1)) h)) (ask_kinds q.mode))
of_kind (TakeOut i) k c (inr e) h = inr (omega (arith, e.1, small k c (omega (arith, e.1)) h))
of_kind Undo k c (inr e) h = inr (omega (arith, e.1, small k c (omega (arith, e.1)) h))
of_kind Malformed k c (inr e) h = inl refl

-- what was read is of the kind that the first byte says
pub kind_read : (bytes : List ℕ) (rec : Record) → Reads bytes rec → KindIs (get_or bytes 0 0) rec
unfolding KindIs Reads
kind_read bytes rec (inl s) = inr (s.plain, sym (ap (λ f. f.kind) s.same))
kind_read bytes rec (inr e) = inl e.0

-- bytes of no kind
pub no_kind : (rec : Record) (k : ℕ) → KindIs k rec → ¬ (((1 ≤ k) × (k ≤ 6)) ⊎ (k ≡ 8) ⊎ (k ≡ 9)) → rec ≡ Malformed
unfolding KindIs fields_of
no_kind rec k (inl e) n = e
no_kind (Bounds s) k (inr e) n = absurd (n (inl (omega (arith, e.1), omega (arith, e.1))))
no_kind (KeepOut i r) k (inr e) n = absurd (n (inl (omega (arith, e.1), omega (arith, e.1))))
no_kind (Lay i q) k (inr e) n =
    absurd (n (⊎_elim (λ z. inl (omega (arith, e.1), omega (arith, e.1))) (λ z. inr (inr (omega (arith, e.1)))) (lay_kinds q.mode)))
no_kind (Ask q) k (inr e) n =
    absurd (n (⊎_elim (λ z. inl (omega (arith, e.1), omega (arith, e.1))) (λ z. inr (inl (omega (arith, e.1)))) (ask_kinds q.mode)))
no_kind (TakeOut i) k (inr e) n = absurd (n (inl (omega (arith, e.1), omega (arith, e.1))))
no_kind Undo k (inr e) n = absurd (n (inl (omega (arith, e.1), omega (arith, e.1))))
no_kind Malformed k (inr e) n = refl
