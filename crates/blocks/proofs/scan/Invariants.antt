-- `blocks::scan` meets its contract: no item before i stops, and what blocks the place among the blocks of item i stands at k or after it.
use Prim.Native.Nat.{ℕ, ◌-◌, ◌≤◌, ◌<◌}
use Rattle.paper.specs.Limits.{most_blocks}
use Rattle.blocks.specs.Flat.{Stops}
use Rattle.blocks.specs.Laws.Scanned.{Ahead}
use Rattle.blocks.proofs.scan.Given as goal

abbrev pub invariant-loop-k : goal.invariant-loop-k
invariant-loop-k l = (l.k-end ≤ most_blocks) × Ahead l.b l.p l.i l.k-end l.k

abbrev pub invariant-scan : goal.invariant-scan
invariant-scan l = (l.i ≤ l.n) × ((j : ℕ) → j < l.i → ¬ (Stops l.b l.look l.p j))

abbrev pub decreases-scan : goal.decreases-scan
decreases-scan l = l.n - l.i
