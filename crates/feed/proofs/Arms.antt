-- The arms of a match on a record that was read: that for the other kinds.
use Prim.Native.Nat.{ℕ, zero, suc}
use mathlib.Core.Path.{◌≡◌, refl, sym, subst, subst₂}
use mathlib.Core.Logic.{inl, inr}
use mathlib.Core.List.{List}
use Rattle.paper.specs.declared.Size.{Size}
use Rattle.paper.specs.declared.Id.{Id}
use Rattle.paper.specs.declared.Rect.{Rect}
use Rattle.paper.specs.declared.Question.{Question}
use Rattle.paper.specs.declared.Board.{Board}
use Rattle.paper.specs.declared.Reply.{Reply}
use Rattle.paper.specs.declared.Record.{Record}
use Rattle.paper.specs.declared.Record.TheVariants.{Bounds, KeepOut, Lay, Ask, TakeOut, Undo, Malformed}
use Rattle.paper.specs.Padding.{WellFormed}
use Rattle.paper.specs.Answer.{plain, Replies}
use Rattle.paper.specs.Laws.Back.{layout_of}
use Rattle.paper.specs.Laws.Feeds.{refusing}
use Rattle.feed.specs.Feeding.{place, CaseIs, Quietly}
use Rattle.feed.specs.Laws.Replying.{malformed_reply}

-- the records of the case
abbrev pub Of : ℕ → Record → Type 0
Of zero rec = (s : Size) × (rec ≡ Bounds s)
Of (suc zero) rec = (i : Id) × (r : Rect) × (rec ≡ KeepOut i r)
Of (suc (suc zero)) rec = (i : Id) × (q : Question) × (rec ≡ Lay i q)
Of (suc (suc (suc zero))) rec = (q : Question) × (rec ≡ Ask q)
Of (suc (suc (suc (suc zero)))) rec = (i : Id) × (rec ≡ TakeOut i)
Of (suc (suc (suc (suc (suc zero))))) rec = rec ≡ Undo
Of _ rec = rec ≡ Malformed

placed : (rec : Record) → Of (place rec) rec
placed (Bounds s) = (s, refl)
placed (KeepOut i r) = (i, r, refl)
placed (Lay i q) = (i, q, refl)
placed (Ask q) = (q, refl)
placed (TakeOut i) = (i, refl)
placed Undo = refl
placed Malformed = refl

-- what is read of a case, and is none of its records
pub others : (c : ℕ) (rec : Record) → CaseIs c rec → ¬ (Of c rec) → rec ≡ Malformed
unfolding CaseIs
others c rec (inl e) none = e
others c rec (inr e) none = absurd (none (subst (λ c. Of c rec) e (placed rec)))

-- what is none of the case is malformed, and is refused so
pub default : (b : Board) → WellFormed b → (c : ℕ) (rec : Record) → CaseIs c rec → ¬ (Of c rec) → (s : List ℕ) (r : Reply) → r ≡ refusing (plain 1) b
    → Replies (layout_of b) rec s s r
default b w c rec h n s r e = subst₂ (λ rec r. Replies (layout_of b) rec s s r) (sym (others c rec h n)) (sym e) (malformed_reply b w s)

pub default_quiet : (b : Board) → WellFormed b → (c : ℕ) (rec : Record) → CaseIs c rec → ¬ (Of c rec) → (r : Reply) → r ≡ refusing (plain 1) b → Quietly (layout_of b) rec r
unfolding Quietly
default_quiet b w c rec h n r e s = default b w c rec h n s r e
