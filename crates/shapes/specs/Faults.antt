-- What is wrong with a wire, as a verdict.
-- Assumes nothing.
use Rattle.std.specs.Prelude.{ℕ, ◌+◌, Result, Ok, Err}
use Rattle.paper.specs.declared.Refusal.{Refusal}
use Rattle.paper.specs.declared.Verdict.{Verdict}
use Rattle.paper.specs.Codes.{code_of}
use Rattle.paper.specs.Answer.{plain, placed}
use Rattle.shapes.specs.declared.Fault.{Fault}

abbrev pub fault_of : Result (Unit {0}) (Fault Refusal) → Verdict
fault_of (Ok u) = plain 0
fault_of (Err f) = placed (code_of f.why) f.run

-- about no run
abbrev pub about_none : Refusal → Fault Refusal
about_none c = record { why = c; run = 0 }

-- the run at k is counted from 1
abbrev pub fault_at : {W : Type 0} → W → ℕ → Fault W
fault_at c k = record { why = c; run = k + 1 }
