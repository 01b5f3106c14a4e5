-- `crowdprint::put_lines` meets its contract: a line more at each turn.
use Prim.Native.Nat.{◌+◌, ◌*◌, ◌≤◌}
use mathlib.Core.Path.{◌≡◌}
use lib.ListN.{length}
use Rattle.text.specs.Text.{Writes}
use Rattle.crowdprint.specs.Crowded.{lines_in}
use Rattle.crowdprint.proofs.put_lines.Given as goal

abbrev pub invariant-loop-k : goal.invariant-loop-k
invariant-loop-k l =
    (length l.out ≡ length l.initial.out) × Writes (lines_in l.letter l.sheet l.from l.k) l.initial.out l.at l.out l.next × (l.next ≤ l.at + 35 * l.k)
