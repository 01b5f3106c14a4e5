-- `crowdprint::put_all` meets its contract: the lines of the sheet, and the last line after them.
use native.Mathlib.Omega.{arith}
use Rattle.crowdprint.specs.Laws.{crowds_few, writes_after}
use Rattle.crowdprint.proofs.put_all.Goals as goal

pub put_sheet-next-requires : goal.put_sheet-next-requires
put_sheet-next-requires c =
    (crowds_few _ _ _ c.crowd_sheet.ensures, omega (arith, c.requires))

pub returns : goal.returns
returns c =
    let e = writes_after c.put_sheet-next.ensures.0 c.put_last-last.ensures in (
      e.bytes,
      record {
        records = c.feed_all-left.result.records;
        last = c.feed_all-left.result.board;
        left = c.feed_all-left.ensures.0;
        over = c.feed_all-left.ensures.1;
        index = c.feed_all-left.result.index;
        agrees = c.feed_all-left.ensures.2;
        sheet = c.crowd_sheet.result;
        crowds = c.crowd_sheet.ensures;
        printed = e.spelled;
      },
      e.put,
    )
