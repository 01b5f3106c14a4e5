-- `Chart::first_way` meets its contract: no direction before the one that is found fits.
use borrow.Author.Rules.{rules}
use borrow.Author.Tests.{tests}
use Rattle.std.proofs.lemmas.Iterator.{YieldsList-from_slice, first_from_find}
use Rattle.distances.specs.Ways.{map_of}
use Rattle.trace.specs.Trail.{crossing, way_of, toll_of}
use Rattle.trace.specs.declared.TheConstants.{WAYS}
use Rattle.trace.proofs.First.{Yes, No, first}
use Rattle.trace.proofs.Chart.first_way.Goals as goal

pub returns : goal.returns
returns c =
    let g = c.args in
    let m = map_of g.self.now.map.now in
    let o = toll_of g.turns in
    rw c.copied.ensures (first m g.self.now.d.now o (way_of g.came) g.left (crossing g.q) c.find.result
    (first_from_find _ _ c.find.result (Yes m g.self.now.d.now o (way_of g.came) g.left (crossing g.q)) (No m g.self.now.d.now o (way_of g.came) g.left (crossing g.q))
    c.find.ensures.ran (YieldsList-from_slice WAYS c.iter.ensures.rest) (λ x q k. search (rules, tests)) (λ x q k. search (rules, tests))))
