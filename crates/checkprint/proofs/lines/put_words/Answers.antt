-- `checkprint::lines::put_words` meets its contract: the first k numbers stand in the slice.
use Prim.Native.Nat.{◌/◌, ◌<◌}
use native.Mathlib.Omega.{arith}
use mathlib.Core.Path.{◌≡◌, ◌∙◌}
use lib.ListN.{length-set, length}
use lib.Seq.{take_all}
use Rattle.checkprint.specs.Checked.{words_in}
use Rattle.checkprint.specs.Laws.Words.{length_words, word_more}
use Rattle.checkprint.proofs.lines.put_words.Goals as goal

pub loop-k-preserved : goal.loop-k-preserved
loop-k-preserved c =
    let ns = c.loop-k.numbers in
    let k = c.loop-k.k in
    let few : k < length ns = omega (arith, c.loop-k-test.true, c.loop-k.invariant.0, c.requires) in
    let more : k < length (words_in c.args.bytes.now) = omega (arith, c.loop-k-test.true, length_words c.args.bytes.now) in
    (simp length-set c.loop-k.invariant.0, rw c.number.ensures (word_more c.args.bytes.now ns k few more c.loop-k.invariant.1))

pub returns : goal.returns
returns c =
    let ws = words_in c.args.bytes.now in
    let n = length c.args.bytes.now / 2 in
    let e : c.loop-k.k ≡ n = omega (arith, c.loop-k-test.false, c.loop-k.auto.k-end) in
    (omega (arith, c.loop-k.invariant.0, c.requires), (rw e at c.loop-k.invariant.1) ∙ take_all n ws (omega (arith, length_words c.args.bytes.now)))
