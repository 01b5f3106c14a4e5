-- `edges::open_map` meets its contract: each table is 0.
use Rattle.std.proofs.Common.{ℕ}
use lib.ListN.{length-replicate, get_or-replicate}
use Rattle.edges.proofs.open_map.Goals as goal

pub returns-clause-blank : goal.returns-clause-blank
returns-clause-blank c =
    (record { long = length-replicate {A = ℕ} 9216 0; each = λ i h. get_or-replicate {A = ℕ} 9216 i 0 0 h }, record { long = length-replicate {A = ℕ} 9216 0; each = λ i h. get_or-replicate {A = ℕ} 9216 i 0 0 h })
