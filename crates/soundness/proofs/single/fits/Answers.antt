-- `soundness::single::fits` meets its contract: by whether the item is a keep-out or a wire.
use Rattle.std.proofs.Common.{arith, rules}
use Rattle.soundness.specs.Laws.Whole.{whole_few}
use Rattle.soundness.specs.Laws.Fits.{no_id, fits_keep_out, fits_wire}
use Rattle.soundness.proofs.single.fits.Goals as goal

pub returns-then-item-eq0 : goal.returns-then-item-eq0
returns-then-item-eq0 c = no_id _ _ c.if-item-eq0.true

pub returns-then-runs-eq0 : goal.returns-then-runs-eq0
returns-then-runs-eq0 c =
    fits_keep_out c.args.size c.args.item _ c.if-item-eq0.false (omega (arith, c.from-runs.ensures, c.if-runs-eq0.true)) (rw c.corners.ensures at c.rect_fits.ensures)

pub wire_fits-requires : goal.wire_fits-requires
wire_fits-requires c =
    (omega (arith, c.if-runs-eq0.false), omega (arith, c.from-runs.ensures, whole_few c.args.item (search rules) (search rules) c.requires))

pub returns-else-runs-eq0 : goal.returns-else-runs-eq0
returns-else-runs-eq0 c =
    fits_wire c.args.size c.args.item _ c.if-item-eq0.false (omega (arith, c.from-runs.ensures, c.if-runs-eq0.false)) (rw c.from-runs.ensures at c.wire_fits.ensures)
