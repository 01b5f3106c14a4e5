-- How a line grows: corner by corner, and the wire before its end.
-- Assumes nothing.
use Rattle.std.specs.Prelude.{ℕ, zero, suc, ◌+◌, ◌≤◌, ◌<◌, ◌≡◌, refl, List, [], ◌∷◌, ◌++◌, length, get_or, take, drop, ◌/◌}
use Rattle.std.proofs.Common.{arith, sym, ap, ap₂, ◌∙◌, append_assoc, append-nil, take-suc, take-append-drop, length-drop, length-take-le}
use Rattle.text.specs.Text.{number, byte}
use Rattle.sheet.specs.Sheet.{space, colon, corners_in, wire_in, blame_in}

corners_join : (k : ℕ) (xs ys : List ℕ) → length xs ≡ k + k → corners_in (xs ++ ys) ≡ corners_in xs ++ corners_in ys
unfolding corners_in
corners_join k [] ys e = refl
corners_join k (x ∷ []) ys e = absurd (omega arith)
corners_join zero (x ∷ y ∷ xs) ys e = absurd (omega arith)
corners_join (suc k) (x ∷ y ∷ xs) ys e =
    ap (λ ps. byte space ∷ number x ∷ byte colon ∷ number y ∷ ps) (corners_join k xs ys (omega arith))

-- two numbers more
two_more : (k : ℕ) (s : List ℕ) → k + k + 1 < length s → take (k + 1 + (k + 1)) s ≡ take (k + k) s ++ get_or s (k + k) 0 ∷ get_or s (k + k + 1) 0 ∷ []
two_more k s h =
    let e : k + 1 + (k + 1) ≡ suc (suc (k + k)) = omega arith in
    let f : suc (k + k) ≡ k + k + 1 = omega arith in
    ap (λ j. take j s) e ∙ take-suc s (suc (k + k)) 0 (omega arith)
    ∙ ap₂ (λ xs j. xs ++ get_or s j 0 ∷ []) (take-suc s (k + k) 0 (omega arith)) f
    ∙ append_assoc (take (k + k) s) (get_or s (k + k) 0 ∷ []) (get_or s (k + k + 1) 0 ∷ [])

-- a corner more
pub corner_more : (k : ℕ) (s : List ℕ) → k + k + 1 < length s
    → corners_in (take (k + 1 + (k + 1)) s) ≡ corners_in (take (k + k) s) ++ corners_in (get_or s (k + k) 0 ∷ get_or s (k + k + 1) 0 ∷ [])
corner_more k s h =
    ap corners_in (two_more k s h) ∙ corners_join k (take (k + k) s) _ (length-take-le (k + k) s (omega arith))

-- a number after the last corner is none
corners_short : (xs : List ℕ) → length xs ≤ 1 → corners_in xs ≡ []
unfolding corners_in
corners_short [] h = refl
corners_short (x ∷ []) h = refl
corners_short (x ∷ y ∷ xs) h = absurd (omega arith)

pub corners_whole : (m : ℕ) (s : List ℕ) → m ≡ length s / 2 → corners_in (take (m + m) s) ≡ corners_in s
corners_whole m s e =
    let front = length-take-le (m + m) s (omega arith) in
    let whole = corners_join m (take (m + m) s) (drop (m + m) s) front in
    sym (
    ap corners_in (sym (take-append-drop (m + m) s)) ∙ whole
    ∙ ap (λ ps. corners_in (take (m + m) s) ++ ps) (corners_short (drop (m + m) s) (omega (arith, length-drop (m + m) s)))
    ∙ append-nil (corners_in (take (m + m) s))
    )

-- a wire that is not told, and one that is
pub wire_none : (long away : ℕ) (ns : List ℕ) → length ns ≡ 0 → wire_in long away ns ≡ []
unfolding wire_in
wire_none long away [] h = refl
wire_none long away (x ∷ ns) h = absurd (omega arith)

pub wire_told : (long away : ℕ) (ns : List ℕ) → 1 ≤ length ns
    → wire_in long away ns ≡ byte space ∷ number long ∷ byte space ∷ number away ∷ corners_in ns
unfolding wire_in
wire_told long away [] h = absurd (omega arith)
wire_told long away (x ∷ ns) h = refl

-- a pin that is named
pub blame_told : (k id : ℕ) → ¬ (k ≡ 0) → blame_in k id ≡ byte space ∷ number k ∷ byte space ∷ number id ∷ []
unfolding blame_in
blame_told zero id n = absurd (n refl)
blame_told (suc k) id n = refl
