-- Which replies name a pin and an item: those with 11 and 18, and no others.
-- Assumes nothing.
use Rattle.std.specs.Prelude.{ℕ, ◌≡◌, ◌⊎◌, List}
use Rattle.paper.specs.declared.Verdict.{Verdict}
use Rattle.paper.specs.Layout.{Thing, Used}
use Rattle.paper.specs.Answer.{plain}

abbrev pub Blames : ℕ → Type 0
Blames c = (c ≡ 11) ⊎ (c ≡ 18)

-- nothing is named; or a pin, and one of the items
pub data Blamed (ts : List Thing) (v : Verdict) : Type 0 where
  none : ¬ (Blames v.code) → v ≡ plain v.code → Blamed ts v
  pin : Blames v.code → (v.place ≡ 1) ⊎ (v.place ≡ 2) → Used ts v.id → Blamed ts v
