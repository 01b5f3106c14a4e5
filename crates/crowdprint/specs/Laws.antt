-- What follows from the definitions: nothing here has to be believed.
-- Assumes nothing.
use Rattle.std.specs.Prelude.{ℕ, zero, suc, ◌+◌, ◌-◌, ◌*◌, ◌≤◌, ◌<◌, ◌≡◌, refl, ◌⊎◌, List, [], ◌∷◌, ◌++◌, length, take, drop, ltb}
use Rattle.std.proofs.Common.{arith, add-one, sym, ap, ap₂, subst, ◌∙◌, inl, inr, ⊎_elim}
use Rattle.paper.specs.declared.Board.{Board}
use Rattle.paper.specs.declared.Reply.{Reply}
use Rattle.paper.specs.Answer.{Fed}
use Rattle.text.specs.Text.{Part, number, byte, Spells, Writes}
use Rattle.text.specs.Laws.Spelling.{one_spelling}
use Rattle.text.specs.Laws.Written.{puts_length, puts_part, writes_join}
use Rattle.sheet.specs.Sheet.{line_end, last_line, most_records, piece_at}
use Rattle.sheet.specs.Laws.Lent.{one_told}
use Rattle.index.specs.declared.Index.{Index}
use Rattle.index.specs.declared.Crowding.{Crowding}
use Rattle.index.specs.Bits.{most_lines}
use Rattle.beside.specs.Beside.{Crowds}
use Rattle.beside.specs.Laws.{agrees_well, one_agrees, built_of, one_crowding}
use Rattle.crowdprint.specs.Crowded.{FedNext, Leaves, none, more, Over, line_in, lines_in, shown_by, shown, CrowdingOf}

-- ---- one text

-- the last of n records begins within the file
begins : {file : List ℕ} {n : ℕ} {b : Board} → Leaves file n b → 12 * n < length file + 12
begins none = omega arith
begins (more p a) = omega (arith, a.there)

-- and no more are fed than may be
pub leaves_few : {file : List ℕ} {n : ℕ} {b : Board} → Leaves file n b → n ≤ most_records
leaves_few none = omega arith
leaves_few (more p a) = omega (arith, a.few)

no_more : {file : List ℕ} {n m : ℕ} {b : Board} → Leaves file n b → Over file m → n ≤ m
no_more {file} {n} {m} p o = let k : ¬ (m < n) = go in omega arith
  where
    go : ¬ (m < n)
    go h = ⊎_elim (λ e. omega (arith, begins p)) (λ e. omega (arith, leaves_few p)) o

-- one record more, from one board
same_board : {file : List ℕ} {n m : ℕ} {b c : Board} {r s : Reply} → n ≡ m → b ≡ c → FedNext file n b r → FedNext file m c s → r.board ≡ s.board
same_board {file} {n} {m} {b} {c} {r} {s} e f p q =
    let fed : Fed c (piece_at file (12 * m)) p.lent p.after r = rw (← e, ← f) p.fed in
    ap (λ x. x.board) (one_told c _ p.lent p.after q.lent q.after r s (p.enough ∙ sym q.enough) fed q.fed).0

-- n records leave one board
one_left : {file : List ℕ} {n m : ℕ} {b c : Board} → Leaves file n b → Leaves file m c → n ≡ m → b ≡ c
one_left none none e = refl
one_left none (more q d) e = absurd (omega arith)
one_left (more p a) none e = absurd (omega arith)
one_left (more {n} p a) (more {n = m} q d) e = let f : n ≡ m = omega arith in same_board f (one_left p q f) a d

pub one_text : (file x y : List ℕ) → CrowdingOf file x → CrowdingOf file y → x ≡ y
one_text file x y p q =
    let n : p.records ≡ q.records = omega (arith, no_more p.left q.over, no_more q.left p.over) in
    let b : p.last ≡ q.last = one_left p.left q.left n in
    let i : p.index ≡ q.index = one_agrees q.last p.index q.index (rw b at p.agrees) q.agrees in
    let c : Crowds q.last q.index p.sheet = rw (← i, ← b) p.crowds in
    let s : p.sheet ≡ q.sheet = one_crowding q.last q.index p.sheet q.sheet c q.crowds in
    one_spelling (shown q.sheet ++ last_line (ltb (12 * q.records) (length file))) x y
    (subst (λ ps. Spells ps x) (ap₂ (λ r k. shown r ++ last_line (ltb (12 * k) (length file))) s n) p.printed) q.printed

-- a code that is shown is 2
pub code_shown : (file text : List ℕ) (c : CrowdingOf file text) → (c.sheet.code ≡ 0) ⊎ (c.sheet.code ≡ 2)
unfolding Crowds
code_shown file text c = go c.crowds
  where
    go : Crowds c.last c.index c.sheet → (c.sheet.code ≡ 0) ⊎ (c.sheet.code ≡ 2)
    go (inl p) = absurd (p.0 (agrees_well c.last c.index c.agrees))
    go (inr (inl p)) = absurd (p.1 c.agrees)
    go (inr (inr (l, h, x, inl p))) = inr (ap (λ r. r.code) p.1)
    go (inr (inr (l, h, x, inr p))) = inl p.1.code_is

-- ---- for the proofs of this crate

-- a line more
pub lines_more : (letter : ℕ) (r : Crowding) (from n : ℕ) → lines_in letter r from n ++ line_in letter r (from + n) ≡ lines_in letter r from (n + 1)
unfolding lines_in
lines_more letter r from n = rw add-one

pub shown_code : (r : Crowding) (k : ℕ) → ¬ (k ≡ 0) → number k ∷ byte line_end ∷ [] ≡ shown_by k r
unfolding shown_by
shown_code r zero n = absurd (n refl)
shown_code r (suc k) n = refl

pub shown_lines : (r : Crowding) → r.code ≡ 0 → lines_in 120 r 0 r.upright ++ lines_in 121 r r.upright r.level ≡ shown r
unfolding shown_by
shown_lines r e = rw e refl

-- a sheet has room for its lines
pub crowds_few : (b : Board) (i : Index) (r : Crowding) → Crowds b i r → r.upright + r.level ≤ most_lines
unfolding Crowds
crowds_few b i r (inl p) = rw p.1 (omega arith)
crowds_few b i r (inr (inl p)) = rw p.2 (omega arith)
crowds_few b i r (inr (inr (l, h, x, inl p))) = rw p.1 (omega arith)
crowds_few b i r (inr (inr (l, h, x, inr p))) =
    let u = built_of l i x p.0 in
    omega (arith, p.1.upright_is, p.1.level_is, u.on_x.few, u.on_y.few)

-- what is written into the rest of a buffer stands after what was written before
pub writes_after : {ps qs : List Part} {b b₁ p : List ℕ} {m n : ℕ} → Writes ps b 0 b₁ m → Writes qs (take (length b₁ - m) (drop m b₁)) 0 p n
    → Writes (ps ++ qs) b 0 (take m b₁ ++ (p ++ drop (length b₁ - m) (drop m b₁))) (m + n)
writes_after {b₁ = b₁} {m = m} v w =
    let inside : m ≤ length b₁ = omega (arith, v.put.fits, v.put.next, puts_length v.put) in
    writes_join v (record { bytes = w.bytes; spelled = w.spelled; put = puts_part _ b₁ _ m (length b₁ - m) _ inside w.put })
