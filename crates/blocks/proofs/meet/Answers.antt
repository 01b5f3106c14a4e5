-- `blocks::meet` meets its contract: some stretch of u is blocked by t.
use Rattle.std.proofs.Common.{rules, ◌≤◌}
use Rattle.std.proofs.iter.runs.Sources.{ranges}
use Rattle.std.proofs.iter.Serving.{serving}
use Rattle.paper.specs.Limits.{most_runs}
use Rattle.blocks.specs.Meeting.{block_number}
use Rattle.blocks.specs.Laws.Meeting.{number_few, meet_said}
use Rattle.blocks.proofs.meet.Goals as goal

pub any-requires-clause-callable : goal.any-requires-clause-callable
any-requires-clause-callable c =
    let n : block_number c.args.t.runs ≤ most_runs = number_few _ c.requires.0 in
    let m : block_number c.args.u.runs ≤ most_runs = number_few _ c.requires.1 in
    grind serving

pub returns : goal.returns
returns c = meet_said c.args.t c.args.u c.requires.0 c.requires.1 c.args.c (search (rules, ranges))
