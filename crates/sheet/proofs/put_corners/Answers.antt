-- `sheet::put_corners` meets its contract: the first k corners are written.
use Rattle.std.proofs.Common.{◌≡◌, ◌+◌, ◌/◌, ◌<◌, length, arith}
use Rattle.sheet.specs.Sheet.{corners_in}
use Rattle.text.specs.Laws.Written.{writes_none, writes_join}
use Rattle.sheet.specs.Laws.Lines.{corner_more, corners_whole}
use Rattle.sheet.proofs.put_corners.Goals as goal

pub loop-k-init : goal.loop-k-init
unfolding corners_in
loop-k-init c = record { near = omega arith; writes = writes_none c.args.buffer.now c.args.at (omega (arith, c.requires)) }

pub loop-k-preserved : goal.loop-k-preserved
loop-k-preserved c =
    let w = c.put_corner-next.ensures in
    let h : c.loop-k.k + c.loop-k.k + 1 < length c.args.corners.now = omega (arith, c.loop-k-test.true) in
    record {
      near = omega (arith, w.1, c.loop-k.invariant.near);
      writes = rw (corner_more c.loop-k.k c.args.corners.now h) (writes_join c.loop-k.invariant.writes w.0);
    }

pub returns : goal.returns
returns c =
    let e : c.loop-k.k ≡ length c.args.corners.now / 2 = omega arith in
    (rw (corners_whole c.loop-k.k c.args.corners.now e) at c.loop-k.invariant.writes, omega (arith, c.loop-k.invariant.near))
