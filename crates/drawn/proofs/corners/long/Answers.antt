-- `drawn::corners::long` meets its contract: 24 runs at most, none of them longer than 131,070.
use native.Mathlib.Omega.{arith}
use borrow.Author.Rules.{rules}
use borrow.Author.Tests.{tests}
use Rattle.std.proofs.lemmas.Iterator.{YieldsList-from_range}
use Rattle.std.proofs.lemmas.Iterator.Adapters.{fits_from_length, at_most_from_yields_List}
use Rattle.std.proofs.lemmas.List.FromFn.{length-range_with_len}
use Rattle.drawn.proofs.corners.long.Goals as goal

pub sum-requires-clause-fits : goal.sum-requires-clause-fits
sum-requires-clause-fits c =
    fits_from_length _ _ 24 _ (at_most_from_yields_List (YieldsList-from_range 0 c.args.n c.args.n (cc) (omega arith)) (rw length-range_with_len c.requires)) c.map.ensures.closure
    (omega arith) (λ x r q k. search (rules, tests))
