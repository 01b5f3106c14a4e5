-- `sheet::put_corners` meets its contract: the first k corners are written.
use Rattle.std.proofs.Common.{◌+◌, ◌*◌, ◌≤◌, take}
use Rattle.text.specs.Text.{Writes}
use Rattle.sheet.specs.Sheet.{corners_in}
use Rattle.sheet.proofs.put_corners.Given as goal

abbrev pub invariant-loop-k : goal.invariant-loop-k
invariant-loop-k l = record {
  near : l.next ≤ l.at + 12 * l.k;
  writes : Writes (corners_in (take (l.k + l.k) l.corners)) l.initial.buffer l.at l.buffer l.next;
}
