-- `soundness::several::total` meets its contract: item by item.
use Rattle.std.proofs.Common.{◌≡◌, ◌<◌, ◌^◌, ◌∙◌, arith, rules}
use Rattle.soundness.specs.Laws.Front.{counted, total_is, total_few}
use Rattle.soundness.proofs.several.total.Goals as goal

pub sum-requires-clause-fits : goal.sum-requires-clause-fits
sum-requires-clause-fits c =
    let h : counted c.args.items.now < 2 ^ 64 = omega (arith, total_few c.args.items.now c.requires, c.requires.few) in
    search rules

pub returns-clause-value : goal.returns-clause-value
returns-clause-value c =
    let h : c.sum.result ≡ counted c.args.items.now = search rules in
    h ∙ total_is c.args.items.now c.requires

pub returns-clause-few : goal.returns-clause-few
returns-clause-few c =
    let h : c.sum.result ≡ counted c.args.items.now = search rules in
    omega (arith, total_few c.args.items.now c.requires)
