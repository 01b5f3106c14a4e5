-- `checkprint::lines::put_words` meets its contract: the first k numbers stand in the slice.
use mathlib.Core.Path.{◌≡◌}
use lib.ListN.{length, take}
use Rattle.checkprint.specs.Checked.{words_in}
use Rattle.checkprint.proofs.lines.put_words.Given as goal

abbrev pub invariant-loop-k : goal.invariant-loop-k
invariant-loop-k l =
    (length l.numbers ≡ length l.initial.numbers) × (take l.k l.numbers ≡ take l.k (words_in l.fn.bytes))
