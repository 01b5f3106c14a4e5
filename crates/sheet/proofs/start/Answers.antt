-- `sheet::start` meets its contract: the board before any bounds is well formed.
use mathlib.Core.Path.{refl}
use mathlib.Core.Logic.{inl}
use Rattle.paper.specs.Layout.{fresh, Sound}
use Rattle.paper.specs.Padding.{WellFormed}
use Rattle.sheet.proofs.start.Goals as goal

pub returns : goal.returns
unfolding WellFormed Sound
returns c = (c.begin.ensures, (fresh, record { sound = inl refl; same = c.begin.ensures }))
