-- The run that is named is the first bad one, and it is named with 23, 9, 20 and 24 alone.
-- The definitions and lemmas under it stand in specs/Laws/Named.
use Rattle.std.specs.Prelude.{ℕ}
use Rattle.std.proofs.Math.Logic.{inl, inr, ⊎_elim}
use mathlib.Core.List.{List}
use Rattle.paper.specs.declared.Judged.{Judged}
use Rattle.paper.specs.declared.Verdict.{Verdict}
use Rattle.paper.specs.Wire.{runs}
use Rattle.paper.specs.Layout.{Layout}
use Rattle.paper.specs.Answer.{Gives}
use Rattle.paper.specs.Drawn.{drawn, shape_checks, run_checks, drawn_checks, judgement, JudgedOn}
use Rattle.paper.specs.Laws.Checks.{gives_either}
use Rattle.paper.specs.Laws.Named.{Named, first_bad, first_bent, none, place, shape}

-- ---- the whole

pub run_named : (l : Layout) (ns : List ℕ) (r : Judged) → JudgedOn l ns r → Named l (drawn ns) (judgement r)
unfolding Gives
run_named l ns r j = go (judgement r) j.said
  where
    go : (v : Verdict) → Gives (drawn_checks l ns) v → Named l (drawn ns) v
    go v (inl g) = none (inr (inl g.1))
    go v (inr (a, inl g)) = none (inr (inr (inl g.1)))
    go v (inr (a, inr (b, inl g))) = none (inr (inr (inr g.1)))
    go v (inr (a, inr (b, inr (c, g)))) =
        ⊎_elim (λ s. ⊎_elim shape (λ z. none (inl z)) (first_bent 1 (runs (drawn ns)) v s))
        (λ s. ⊎_elim (place s.0) (λ z. none (inl z)) (first_bad l 1 (drawn ns) v s.1))
        (gives_either (shape_checks 1 (runs (drawn ns))) (run_checks l 1 (drawn ns)) v g)
