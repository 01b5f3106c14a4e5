-- `checkprint::lines::wire_line` meets its contract: the numbers are judged, and what is said of them is the line.
use mathlib.Core.Path.{subst}
use Rattle.paper.specs.Drawn.{JudgedOn}
use Rattle.paper.specs.Laws.Back.{layout_of}
use Rattle.drawn.specs.Laws.Judging.{judged_well}
use Rattle.checkprint.proofs.lines.wire_line.Goals as goal

pub returns : goal.returns
returns c =
    let b = c.args.board in
    let r = c.judge_sound-judged.result in
    record {
      said = r;
      judges = judged_well b _ c.requires.0 r (subst (λ ns. JudgedOn (layout_of b) ns r) c.put_words-k.ensures.1 c.judge_sound-judged.ensures);
      writes = c.put_line.ensures;
    }
