-- `distances::even::columns` meets its contract: the ways up from each row are even.
use Rattle.std.proofs.Common.{rules, tests, arith, refl, ℕ, ◌-◌, ◌≡◌}
use Rattle.std.proofs.lemmas.Bool.{MatchBool-at_true}
use Rattle.std.proofs.lemmas.Iterator.{cases_from_all, YieldsList-from_range}
use Rattle.distances.specs.Even.{UprightRow, each_below}
use Rattle.distances.proofs.even.columns.Goals as goal

pub returns : goal.returns
returns c = λ y.
    let m = c.args.map.now in
    let Even : ℕ → Type 0 = UprightRow c.args.d.now m.tall m.y.at m.x.count c.args.far in
    let n : ℕ = m.y.count - 1 in
    let long : n - 0 ≡ n = omega arith in
    let all = cases_from_all _ _ _ Even (λ j. Unit {0}) c.all.ensures.ran (YieldsList-from_range 0 n n refl long) (λ x q k. search (rules, tests)) (λ x q k. tt) in
    each_below Even n (MatchBool-at_true _ _ y all)
