-- `router::index_of` meets its contract: one of the tracks stands at v, so one is found.
use borrow.Author.Rules.{rules}
use borrow.Author.Tests.{tests}
use Rattle.std.specs.Prelude.{ℕ, ◌≤◌, ◌<◌, ◌≡◌, Option, Some, None, IsSome, MatchOption, get_or}
use Rattle.std.proofs.Common.{arith}
use Rattle.std.proofs.lemmas.Iterator.{first_from_Range}
use Rattle.router.proofs.index_of.Goals as goal

some : (n : ℕ) (P Q : ℕ → Type 0) (r : Option ℕ) → MatchOption r ((k : ℕ) → 0 ≤ k → k < n → ¬ (P k)) Q → (j : ℕ) × (j < n) × P j → IsSome r
some n P Q None h j = absurd (h j.0 (omega arith) j.1 j.2)
some n P Q (Some x) h j = search rules

pub unwrap-requires : goal.unwrap-requires
unwrap-requires c =
    let P : ℕ → Type 0 = λ k. get_or c.args.axis.now.at k 0 ≡ c.args.v in
    some c.args.axis.now.count P _ _ (first_from_Range _ _ _ c.find.result P (λ k. ¬ (P k)) c.find.ensures.ran (λ x q k. search (rules, tests)) (λ x q k. search (rules, tests))) c.requires.1
