-- `soundness::laid` meets its contract: the tests, one after the other, are the clauses of `Laid`.
use Rattle.std.proofs.Common.{rules}
use Rattle.paper.specs.Laws.Lists.{length_mapped}
use Rattle.soundness.specs.Laws.Stands.{stands_whole}
use Rattle.soundness.proofs.laid.Goals as goal

pub items_fit-requires : goal.items_fit-requires
items_fit-requires c = stands_whole c.args.board (search (rules, length_mapped)) (search (rules, length_mapped)) c.requires
