-- Numbers written one after another.
-- Assumes nothing.
use Rattle.std.specs.Prelude.{ℕ, zero, suc, ◌+◌, ◌-◌, ◌≤◌, ◌≡◌, refl, List, [], ◌∷◌, ◌++◌, length, set, replicate}
use Rattle.std.proofs.Common.{add-one, arith, sym, ap, ◌∙◌}
use Rattle.paper.specs.Padding.{filled}
use Rattle.trace.specs.Trail.{over}

-- one number
pub over_one : (at n : ℕ) (s : List ℕ) → over at (n ∷ []) s ≡ set s at n
unfolding over
over_one zero n [] = refl
over_one zero n (x ∷ s) = refl
over_one (suc at) n [] = refl
over_one (suc at) n (x ∷ s) = ap (λ r. x ∷ r) (over_one at n s)

-- past the end nothing
pub over_past : (at n : ℕ) (s : List ℕ) → length s ≤ at → over at (n ∷ []) s ≡ s
unfolding over
over_past zero n [] h = refl
over_past zero n (x ∷ s) h = absurd (omega arith)
over_past (suc at) n [] h = refl
over_past (suc at) n (x ∷ s) h = ap (λ r. x ∷ r) (over_past at n s (omega arith))

none_over : (s : List ℕ) → over zero [] s ≡ s
unfolding over
none_over s = refl

-- and then the others
over_then : (at n : ℕ) (ns s : List ℕ) → over (suc at) ns (over at (n ∷ []) s) ≡ over at (n ∷ ns) s
unfolding over
over_then zero n ns [] = refl
over_then zero n ns (x ∷ s) = refl
over_then (suc at) n ns [] = refl
over_then (suc at) n ns (x ∷ s) = ap (λ r. x ∷ r) (over_then at n ns s)

pub over_more : (at n : ℕ) (ns s : List ℕ) → over (at + 1) ns (over at (n ∷ []) s) ≡ over at (n ∷ ns) s
over_more at n ns s = rw (add-one at) (over_then at n ns s)

pub over_length : (at : ℕ) (ns s : List ℕ) → length (over at ns s) ≡ length s
unfolding over
over_length zero [] s = refl
over_length zero (n ∷ ns) [] = refl
over_length zero (n ∷ ns) (x ∷ s) = ap suc (over_length zero ns s)
over_length (suc at) ns [] = refl
over_length (suc at) ns (x ∷ s) = ap suc (over_length at ns s)

over_cons : (n x : ℕ) (ns s : List ℕ) → over zero (n ∷ ns) (x ∷ s) ≡ n ∷ over zero ns s
unfolding over
over_cons n x ns s = refl

-- over zeros, if there is room
pub over_zeros : (k : ℕ) (ns : List ℕ) → length ns ≤ k → over zero ns (replicate k 0) ≡ filled 0 k ns
over_zeros k [] h = let e : k - 0 ≡ k = omega arith in none_over (replicate k 0) ∙ ap (λ j. replicate j 0) (sym e)
over_zeros zero (n ∷ ns) h = absurd (omega arith)
over_zeros (suc k) (n ∷ ns) h =
    let e : suc k - suc (length ns) ≡ k - length ns = omega arith in
    over_cons n 0 ns (replicate k 0) ∙ ap (λ r. n ∷ r) (over_zeros k ns (omega arith)) ∙ ap (λ j. n ∷ (ns ++ replicate j 0)) (sym e)
