-- Bytes spell at most one record.
-- Assumes nothing.
use Rattle.std.specs.Prelude.{ℕ, zero, suc, ◌≡◌, refl, ◌⊎◌, List}
use Rattle.std.proofs.Common.{sym, ap, ◌∙◌, inl, inr}
use Rattle.paper.specs.declared.Id.{Id}
use Rattle.paper.specs.declared.Pins.{Pins}
use Rattle.paper.specs.declared.Mode.{Mode}
use Rattle.paper.specs.declared.Mode.TheVariants as mode
use Rattle.paper.specs.declared.Question.{Question}
use Rattle.paper.specs.declared.Record.{Record}
use Rattle.paper.specs.declared.Record.TheVariants.{Bounds, KeepOut, Lay, Ask, TakeOut, Undo, Malformed}
use Rattle.paper.specs.Reading.{Fields, fields_in, fields_of, Plain, Spells, Reads}

abbrev pub question_in : Mode → Fields → Question
question_in m f = record { pins = record { sx = f.a; sy = f.b; tx = f.c; ty = f.d }; mode = m }

-- the record that fields of the kind can spell, if they spell one
unfoldable pub by_kind : ℕ → Fields → Record
by_kind zero f = Malformed
by_kind (suc zero) f = Bounds (record { w = f.a; h = f.b; clearance = f.c })
by_kind (suc (suc zero)) f = KeepOut (record { number = f.id }) (record { x0 = f.a; y0 = f.b; x1 = f.c; y1 = f.d })
by_kind (suc (suc (suc zero))) f = Lay (record { number = f.id }) (question_in mode.Plain f)
by_kind (suc (suc (suc (suc zero)))) f = Ask (question_in mode.Plain f)
by_kind (suc (suc (suc (suc (suc zero))))) f = TakeOut (record { number = f.id })
by_kind (suc (suc (suc (suc (suc (suc zero)))))) f = Undo
by_kind (suc (suc (suc (suc (suc (suc (suc zero))))))) f = Malformed
by_kind (suc (suc (suc (suc (suc (suc (suc (suc zero)))))))) f = Ask (question_in mode.Fewest f)
by_kind (suc (suc (suc (suc (suc (suc (suc (suc (suc zero))))))))) f = Lay (record { number = f.id }) (question_in mode.Fewest f)
by_kind (suc (suc (suc (suc (suc (suc (suc (suc (suc (suc n)))))))))) f = Malformed

abbrev pub candidate : Fields → Record
candidate f = by_kind f.kind f

lay_back : (i : Id) (p : Pins) (m : Mode) → candidate (fields_of (Lay i (record { pins = p; mode = m }))) ≡ Lay i (record { pins = p; mode = m })
unfolding by_kind fields_of
lay_back i p mode.Plain = refl
lay_back i p mode.Fewest = refl

ask_back : (p : Pins) (m : Mode) → candidate (fields_of (Ask (record { pins = p; mode = m }))) ≡ Ask (record { pins = p; mode = m })
unfolding by_kind fields_of
ask_back p mode.Plain = refl
ask_back p mode.Fewest = refl

pub candidate_back : (r : Record) → Plain r → candidate (fields_of r) ≡ r
unfolding by_kind fields_of Plain
candidate_back (Bounds s) p = refl
candidate_back (KeepOut i r) p = refl
candidate_back (Lay i q) p = lay_back i q.pins q.mode
candidate_back (Ask q) p = ask_back q.pins q.mode
candidate_back (TakeOut i) p = refl
candidate_back Undo p = refl
candidate_back Malformed p = absurd p

pub spelled : (bytes : List ℕ) (r : Record) → Spells bytes r → r ≡ candidate (fields_in bytes)
spelled bytes r s = sym (candidate_back r s.plain) ∙ ap candidate (sym s.same)

-- where the candidate is not spelled, nothing is
pub malformed : (bytes : List ℕ) → ¬ (Spells bytes (candidate (fields_in bytes))) → Reads bytes Malformed
unfolding Reads
malformed bytes n = inr (refl, λ q s. n (rw (spelled bytes q s) at s))

pub one_record : (bytes : List ℕ) (r q : Record) → Reads bytes r → Reads bytes q → r ≡ q
unfolding Reads
one_record bytes r q (inl a) (inl b) = spelled bytes r a ∙ sym (spelled bytes q b)
one_record bytes r q (inl a) (inr b) = absurd (b.1 r a)
one_record bytes r q (inr a) (inl b) = absurd (a.1 q b)
one_record bytes r q (inr a) (inr b) = a.0 ∙ sym b.0

-- a record that was read has an id from 1 where it needs one
pub read_plain : (bytes : List ℕ) (r : Record) → Reads bytes r → Plain r ⊎ (r ≡ Malformed)
unfolding Reads
read_plain bytes r (inl a) = inl a.plain
read_plain bytes r (inr a) = inr a.0
