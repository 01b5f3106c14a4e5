-- `feed::feed_sound` meets its contract: each kind by its own function. That no kind at all is malformed is found by the lemmas that it names.
use borrow.Author.Rules.{rules}
use Rattle.feed.specs.Laws.Replying.{fed_by}
use Rattle.feed.proofs.ByKind.{fed_quietly}
use Rattle.feed.proofs.feed_sound.Goals as goal

pub returns-in-1 : goal.returns-in-1
returns-in-1 c = fed_quietly _ _ _ _ _ c.requires c.read-rec.ensures (search rules)

pub returns-in-2 : goal.returns-in-2
returns-in-2 c = fed_quietly _ _ _ _ _ c.requires c.read-rec.ensures (search rules)

pub returns-in-3 : goal.returns-in-3
returns-in-3 c = fed_by _ c.requires _ _ _ _ _ c.read-rec.ensures c.lay.ensures

pub returns-in-4 : goal.returns-in-4
returns-in-4 c = fed_by _ c.requires _ _ _ _ _ c.read-rec.ensures c.ask.ensures

pub returns-in-5 : goal.returns-in-5
returns-in-5 c = fed_quietly _ _ _ _ _ c.requires c.read-rec.ensures (search rules)

pub returns-in-6 : goal.returns-in-6
returns-in-6 c = fed_quietly _ _ _ _ _ c.requires c.read-rec.ensures (search rules)
