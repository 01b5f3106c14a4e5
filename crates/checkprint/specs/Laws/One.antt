-- What the pieces leave open: nothing. One line for a drawn wire, one thing that a piece does, one text.
-- Assumes nothing.
use Rattle.std.specs.Prelude.{ℕ, ◌+◌, ◌≡◌, refl, length, drop}
use Rattle.std.proofs.Common.{arith, sym, ap, ap₂, subst, subst₂, ◌∙◌, length-append}
use mathlib.Core.List.{List, [], ◌∷◌, ◌++◌, head-eq_of_cons-eq, tail-eq_of_cons-eq}
use Rattle.paper.specs.declared.Board.{Board}
use Rattle.paper.specs.Laws.Drawn.{one_judged}
use Rattle.text.specs.Text.{Spells, Writes}
use Rattle.text.specs.Laws.Spelling.{one_spelling}
use Rattle.text.specs.Laws.Written.{one_writing}
use Rattle.sheet.specs.Laws.Lent.{one_told}
use Rattle.checkprint.specs.Checked.{words_in, line_of, Acts, feeds, judges, JudgedIn}
use Rattle.checkprint.specs.Standing.{Leads, here, further}

-- the line that `wire_line` writes
pub one_line : (b : Board) (n : ℕ) (bytes buffer x y : List ℕ) (i j : ℕ) → JudgedIn b n bytes buffer x i → JudgedIn b n bytes buffer y j
    → (x ≡ y) × (i ≡ j)
one_line b n bytes buffer x y i j p q =
    one_writing (subst (λ r. Writes (line_of n r) buffer 0 x i) (one_judged b (words_in bytes) p.said q.said p.judges q.judges) p.writes) q.writes

pub one_act : (b : Board) (n : ℕ) (piece x y : List ℕ) (i j : ℕ) (c d : Board) → Acts b n piece x i c → Acts b n piece y j d
    → (x ≡ y) × (i ≡ j) × (c ≡ d)
one_act b n piece _ _ _ _ _ _ (feeds s s' r e l f) (feeds t t' q u m g) =
    (refl, refl, ap (λ r. r.board) (one_told b (drop 1 piece) s s' t t' r q (l ∙ sym m) f g).0)
one_act b n piece _ _ _ _ _ _ (feeds s s' r e l f) (judges q y u j p) = absurd (omega (arith, e.0, u.0))
one_act b n piece _ _ _ _ _ _ (judges q y u j p) (feeds s s' r e l f) = absurd (omega (arith, e.0, u.0))
one_act b n piece _ _ _ _ _ _ (judges r x e i p) (judges q y u j s) = (
  one_spelling (line_of (n + 1) q) x y
      (subst (λ r. Spells (line_of (n + 1) r) x) (one_judged b (words_in (drop 2 piece)) r q i j) p) s,
  refl,
  refl,
)

-- ---- the pieces one after another

last_same : (ps qs : List (List ℕ)) (x y : List ℕ) → ps ++ x ∷ [] ≡ qs ++ y ∷ [] → (ps ≡ qs) × (x ≡ y)
last_same [] [] x y e = (refl, head-eq_of_cons-eq e)
last_same [] (q ∷ qs) x y e = absurd (omega (arith, ap length e, length-append qs (y ∷ [])))
last_same (p ∷ ps) [] x y e = absurd (omega (arith, ap length e, length-append ps (x ∷ [])))
last_same (p ∷ ps) (q ∷ qs) x y e =
    let s = last_same ps qs x y (tail-eq_of_cons-eq e) in
    (ap₂ ◌∷◌ (head-eq_of_cons-eq e) s.0, s.1)

pub one_text : {ps qs : List (List ℕ)} {x y : List ℕ} {i j : ℕ} {c d : Board} → Leads ps x i c → Leads qs y j d → ps ≡ qs
    → (x ≡ y) × (i ≡ j) × (c ≡ d)
one_text here here e = (refl, refl, refl)
one_text here (further {ps = qs} {piece = q} l d) e = absurd (omega (arith, ap length e, length-append qs (q ∷ [])))
one_text (further {ps} {piece = p} l d) here e = absurd (omega (arith, ap length e, length-append ps (p ∷ [])))
one_text (further {ps} {piece = p} {line = x} {n' = i} {b = a} {b' = c} k f) (further {ps = qs} {piece = q} {line = y} {n = m} {n' = j} {b} {b' = d} l g) e =
    let s = last_same ps qs p q e in
    let o = one_text k l s.0 in
    let h : Acts b m q x i c = subst (λ b. Acts b m q x i c) o.2 (subst₂ (λ n p. Acts a n p x i c) o.1 s.1 f) in
    let r = one_act b m q x y i j c d h g in
    (ap₂ ◌++◌ o.0 r.0, r.1, r.2)
