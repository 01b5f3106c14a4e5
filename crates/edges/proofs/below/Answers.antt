-- `edges::below` meets its contract: every track passed lies below v.
use Rattle.std.proofs.Common.{rules, arith}
use Rattle.edges.specs.Laws.{Searched, found_at, found_none}
use Rattle.edges.proofs.below.Goals as goal

pub returns-in-Some : goal.returns-in-Some
returns-in-Some c =
    let a = c.args in
    let t = a.tracks.now in
    let s : Searched t.at t.count a.v a.from (omega arith) (omega arith) c.position.result = search rules in
    found_at t.at t.count a.v a.from (omega arith) (omega arith) c.in-Some.k (rw c.in-Some.is at s)

pub returns-in-None : goal.returns-in-None
returns-in-None c =
    let a = c.args in
    let t = a.tracks.now in
    let s : Searched t.at t.count a.v a.from (omega arith) (omega arith) c.position.result = search rules in
    found_none t.at t.count a.v a.from (omega arith) (omega arith) (rw c.in-None.is at s)
