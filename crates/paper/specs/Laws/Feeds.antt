-- How a reply is shown to be the right one: the first code that applies, and a refusal.
-- Assumes nothing.
use Rattle.std.specs.Prelude.{ℕ, refl, Bool, true, false, cond, List, [], ◌∷◌}
use Rattle.std.proofs.Common.{inl, inr}
use Rattle.paper.specs.declared.Board.{Board}
use Rattle.paper.specs.declared.Reply.{Reply}
use Rattle.paper.specs.declared.Verdict.{Verdict}
use Rattle.paper.specs.Padding.{WellFormed}
use Rattle.paper.specs.Answer.{plain, Check, ◌if◌, ◌unless◌, Gives, flat, Fed}
use Rattle.paper.specs.Laws.Says.{Says}

-- ---- the first code that applies, by a test of each condition

pub gives_none : Gives [] (plain 0)
unfolding Gives
gives_none = refl

pub gives_if : {P : Type 0} {b : Bool} (n : ℕ) (v : Verdict) (cs : List Check) → Says b P → (¬ P → Gives cs v) → Gives ((n if P) ∷ cs) (cond b (plain n) v)
unfolding Gives
gives_if {b = true} n k cs p rest = inl (p.fact tt, refl)
gives_if {b = false} n k cs p rest = inr (p.test, rest p.test)

pub gives_unless : {P : Type 0} {b : Bool} (n : ℕ) (v : Verdict) (cs : List Check) → Says b P → (P → Gives cs v) → Gives ((n unless P) ∷ cs) (cond b v (plain n))
unfolding Gives
gives_unless {b = true} n k cs p rest = inr (p.fact tt, rest (p.fact tt))
gives_unless {b = false} n k cs p rest = inl (p.test, refl)

-- ---- a refusal

abbrev pub refusing : Verdict → Board → Reply
refusing v b = record { code = v.code; pin = v.place; id = v.id; length = 0; detour = 0; corners = 0; board = b }

pub fed_ill : (b : Board) (bytes s : List ℕ) → ¬ (WellFormed b) → Fed b bytes s s (refusing (plain 17) b)
unfolding Fed flat
fed_ill b bytes s n = inl (n, refl, record { length_is = refl; detour_is = refl; corners_are = refl; board_is = refl; slice_is = refl })
