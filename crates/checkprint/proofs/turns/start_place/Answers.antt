-- `checkprint::turns::start_place` meets its contract: before any piece nothing is printed.
use mathlib.Core.Path.{refl}
use Rattle.checkprint.specs.Laws.Placed.{stands_start}
use Rattle.checkprint.proofs.turns.start_place.Goals as goal

pub returns : goal.returns
returns c = let s = c.start.ensures in (λ buffer. stands_start _ buffer refl refl refl s.0 s.1, refl)
