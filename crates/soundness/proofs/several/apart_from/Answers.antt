-- `soundness::several::apart_from` meets its contract: item by item.
use Rattle.std.proofs.Common.{rules}
use Rattle.std.proofs.lemmas.Iterator.{YieldsList-from_slice}
use Rattle.std.proofs.lemmas.Iterator.Adapters.{serves_from_places}
use Rattle.blocks.specs.Meeting.{Placed}
use Rattle.paper.specs.Layout.{Apart}
use Rattle.paper.specs.Laws.Back.{thing_of}
use Rattle.soundness.specs.Laws.Front.{all_said, placed_among}
use Rattle.soundness.proofs.several.apart_from.Goals as goal

pub all-requires-clause-callable : goal.all-requires-clause-callable
all-requires-clause-callable c =
    serves_from_places (YieldsList-from_slice c.args.others.now cc) (λ x q k. search rules)
    (λ x k h e. let p : Placed x.now = placed_among c.args.others.now c.requires.0 x.now k h e in search rules)

pub returns : goal.returns
returns c = all_said (Apart c.args.c (thing_of c.args.item)) c.args.others.now (search rules)
