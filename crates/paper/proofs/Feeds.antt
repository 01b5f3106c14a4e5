-- How a reply is shown to be the right one: the first code that applies, and a refusal.
-- The definitions and lemmas under it stand in specs/Laws/Feeds.
use Rattle.std.specs.Prelude.{Bool, List}
use Rattle.std.proofs.Common.{subst}
use Rattle.paper.specs.declared.Question.{Question}
use Rattle.paper.specs.Grid.{Dir}
use Rattle.paper.specs.Wire.{AnsweredIn}
use Rattle.paper.specs.Layout.{grid_of, Layout}
use Rattle.paper.specs.Answer.{source, target, TheWire}
use Rattle.paper.proofs.Least.{one_in}
use Rattle.paper.specs.Laws.Says.{Says, says_as}

-- ---- the first code that applies, by a test of each condition

-- what a test says of the one answered wire
pub the_wire_says : (l : Layout) (q : Question) (P : List Dir → Type 0) (v : List Dir) {b : Bool}
    → AnsweredIn q.mode (grid_of l.size l.items) (source q.pins) (target q.pins) v → Says b (P v) → Says b (TheWire l q P)
the_wire_says l q P v a =
    says_as (λ h. (v, a, h)) (λ t. subst P (one_in q.mode (grid_of l.size l.items) (source q.pins) (target q.pins) t.0 v t.1 a) t.2)
