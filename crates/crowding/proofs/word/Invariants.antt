-- `crowding::word` meets its contract: w is the number of the bits from t on, before b.
use Rattle.std.proofs.Common.{◌≡◌, ◌-◌, ◌≤◌}
use Rattle.blocks.specs.Flat.{listed}
use Rattle.index.specs.Bits.{number}
use Rattle.crowding.specs.Filling.{is_clear}
use Rattle.crowding.proofs.word.Given as goal

abbrev pub invariant-loop-t : goal.invariant-loop-t
invariant-loop-t l = record { above : l.a ≤ l.t; value : l.w ≡ number (listed (is_clear l.upright l.shut l.k) l.t (l.b - l.t)) }
