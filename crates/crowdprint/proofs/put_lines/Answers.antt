-- `crowdprint::put_lines` meets its contract: a line more at each turn.
use native.Mathlib.Omega.{arith}
use mathlib.Core.Path.{refl, ◌∙◌}
use Rattle.text.specs.Laws.Written.{writes_length, writes_join, writes_none}
use Rattle.crowdprint.specs.Crowded.{lines_in}
use Rattle.crowdprint.specs.Laws.{lines_more}
use Rattle.crowdprint.proofs.put_lines.Goals as goal

pub loop-k-init : goal.loop-k-init
unfolding lines_in
loop-k-init c = (refl, writes_none c.args.out.now c.args.at (omega (arith, c.requires.1)), omega arith)

pub loop-k-preserved : goal.loop-k-preserved
loop-k-preserved c =
    let w = c.put_line-next.ensures in
    let l = c.loop-k.invariant in
    (writes_length w.0 ∙ l.0, rw (← lines_more) (writes_join l.1 w.0), omega (arith, w.1, l.2))
