-- The numbers of a piece, one by one.
-- Assumes nothing.
use Rattle.std.specs.Prelude.{ℕ, zero, suc, ◌+◌, ◌*◌, ◌/◌, ◌<◌, ◌≡◌, refl, List, [], ◌∷◌, ◌++◌, length, get_or, take, set}
use Rattle.std.proofs.Common.{add-one, arith, sym, ap, ap₂, ◌∙◌, take-suc, take-suc-set}
use Rattle.paper.specs.Reading.{word}
use Rattle.checkprint.specs.Checked.{words_in}

pub length_words : (bs : List ℕ) → length (words_in bs) ≡ length bs / 2
unfolding words_in
length_words [] = refl
length_words (low ∷ []) = refl
length_words (low ∷ high ∷ bs) = omega (arith, length_words bs)

-- two bytes more before it
word_later : (low high : ℕ) (bs : List ℕ) (k : ℕ) → word bs (k + k) ≡ word (low ∷ high ∷ bs) (suc k + suc k)
word_later low high bs k =
    let e : suc (suc (k + k)) ≡ suc k + suc k = omega arith in
    let f : suc (suc (k + k + 1)) ≡ suc k + suc k + 1 = omega arith in
    ap₂ (λ i j. get_or (low ∷ high ∷ bs) i 0 + 256 * get_or (low ∷ high ∷ bs) j 0) e f

pub word_at : (bs : List ℕ) (k : ℕ) → k < length (words_in bs) → get_or (words_in bs) k 0 ≡ word bs (k + k)
unfolding words_in
word_at [] k h = absurd (omega arith)
word_at (low ∷ []) k h = absurd (omega arith)
word_at (low ∷ high ∷ bs) zero h = refl
word_at (low ∷ high ∷ bs) (suc k) h = word_at bs k (omega arith) ∙ word_later low high bs k

-- one number more of them stands in ns
pub word_more : (bs ns : List ℕ) (k : ℕ) → k < length ns → k < length (words_in bs) → take k ns ≡ take k (words_in bs)
    → take (k + 1) (set ns k (word bs (k + k))) ≡ take (k + 1) (words_in bs)
word_more bs ns k h l e =
    ap (λ j. take j (set ns k (word bs (k + k)))) (add-one k) ∙ take-suc-set ns k (word bs (k + k)) h
    ∙ ap₂ (λ xs x. xs ++ x ∷ []) e (sym (word_at bs k l)) ∙ sym (take-suc (words_in bs) k 0 l) ∙ ap (λ j. take j (words_in bs)) (sym (add-one k))
