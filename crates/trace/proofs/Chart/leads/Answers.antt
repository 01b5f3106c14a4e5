-- `Chart::leads` meets its contract: the four directions are the two axes, forth and back.
use Rattle.paper.specs.Laws.Says.{says_as}
use Rattle.trace.specs.Leading.{east_is, north_is, west_is, south_is}
use Rattle.trace.proofs.Chart.leads.Goals as goal

pub returns-in-East : goal.returns-in-East
returns-in-East c =
    let e = east_is _ _ c.args.self.now.charted c.args.q c.requires.0 c.requires.1 in
    rw c.in-East.is (says_as e.0 e.1 (rw c.place-here.ensures at c.along.ensures))

pub returns-in-North : goal.returns-in-North
returns-in-North c =
    let e = north_is _ _ c.args.self.now.charted c.args.q c.requires.0 c.requires.1 in
    rw c.in-North.is (says_as e.0 e.1 (rw c.place-here.ensures at c.along-in-North.ensures))

pub returns-in-West : goal.returns-in-West
returns-in-West c =
    let e = west_is _ _ c.args.self.now.charted c.args.q c.requires.0 c.requires.1 in
    rw c.in-West.is (says_as e.0 e.1 (rw c.place-here.ensures at c.along-in-West.ensures))

pub returns-in-South : goal.returns-in-South
returns-in-South c =
    let e = south_is _ _ c.args.self.now.charted c.args.q c.requires.0 c.requires.1 in
    rw c.in-South.is (says_as e.0 e.1 (rw c.place-here.ensures at c.along-in-South.ensures))
