-- `checkprint::turns::print` meets its contract: each turn but the last counts a piece more.
use mathlib.Core.Path.{◌≡◌}
use lib.ListN.{length}
use Rattle.checkprint.specs.Checked.{most_bytes}
use Rattle.checkprint.specs.Standing.{Stands}
use Rattle.checkprint.proofs.turns.print.Given as goal

abbrev pub invariant-loop-piece : goal.invariant-loop-piece
invariant-loop-piece g l =
    Stands l.place l.out × (l.place.pieces ≡ l._piece) × (length l.room ≡ most_bytes) × (length l.out ≡ length l.initial.out)
