-- What a file's bytes leave open: nothing. One line for each record, one step, one sheet.
-- Assumes nothing.
use Rattle.std.specs.Prelude.{ℕ, ◌+◌, ◌*◌, ◌≤◌, ◌<◌, ◌≡◌, refl, length, take, ltb}
use Rattle.std.proofs.Common.{arith, sym, ap, ap₂, subst, ◌∙◌, ⊎_elim, ext_get_or}
use mathlib.Core.List.{List, [], ◌∷◌, ◌++◌, map, cons-ne-nil, head-eq_of_cons-eq, tail-eq_of_cons-eq}
use Rattle.std.proofs.lemmas.List.{length-map}
use Rattle.paper.specs.declared.Board.{Board}
use Rattle.paper.specs.declared.Reply.{Reply}
use Rattle.paper.specs.Limits.{least_slice}
use Rattle.paper.specs.Grid.{All}
use Rattle.paper.specs.Layout.{fresh}
use Rattle.paper.specs.Padding.{board_of}
use Rattle.paper.specs.Answer.{Fed}
use Rattle.paper.specs.History.{Call, FedAll}
use Rattle.sheet.specs.declared.Printed.{Printed}
use Rattle.text.specs.Text.{number, byte, Spells}
use Rattle.sheet.specs.Sheet.{space, line_end, wire_in, blame_in, line_of, last_line, Pieces, lines_from, SheetOf, Steps, StepsIn}
use Rattle.text.specs.Laws.Spelling.{one_spelling}
use Rattle.text.specs.Laws.Written.{one_put}
use Rattle.sheet.specs.Laws.Lent.{count, one_told}

-- ---- one line, one step

same_line : (n : ℕ) (r₁ r₂ : Reply) (s₁ s₂ : List ℕ) → r₁ ≡ r₂ → take (count r₁) s₁ ≡ take (count r₂) s₂ → line_of n r₁ s₁ ≡ line_of n r₂ s₂
same_line n r₁ r₂ s₁ s₂ p q =
    ap₂ (λ r ns. number n ∷ byte space ∷ number r.code ∷ blame_in r.pin r.id ++ wire_in r.length r.detour ns ++ byte line_end ∷ []) p q

pub one_step : (file : List ℕ) (at n : ℕ) (b : Board) (x y : List ℕ) (i j : ℕ) (c d : Board) → Steps file at n b x i c → Steps file at n b y j d
    → (x ≡ y) × (i ≡ j) × (c ≡ d)
one_step file at n b x y i j c d p q =
    let o = one_told b _ p.lent p.after q.lent q.after p.reply q.reply (p.enough ∙ sym q.enough) p.fed q.fed in (
      one_spelling (line_of n q.reply q.after) x y
          (subst (λ ps. Spells ps x) (same_line n p.reply q.reply p.after q.after o.0 o.1) p.printed) q.printed,
      p.next_is ∙ sym q.next_is,
      p.board_is ∙ ap (λ r. r.board) o.0 ∙ sym q.board_is,
    )

-- the same of what `step` returns and leaves in the buffer
pub one_step_in : (file : List ℕ) (at n : ℕ) (b : Board) (buffer x y : List ℕ) (r₁ r₂ : Printed) → StepsIn file at n b buffer x r₁
    → StepsIn file at n b buffer y r₂ → (x ≡ y) × (r₁ ≡ r₂)
one_step_in file at n b buffer x y r₁ r₂ p q =
    let o = one_step file at n b p.line q.line r₁.next r₂.next r₁.board r₂.board p.steps q.steps in
    let u = one_put buffer x y 0 r₁.written r₂.written p.line q.line o.0 p.put q.put in
    (u.0, λ i. record { next = o.1 i; written = u.1 i; board = o.2 i })

-- ---- one list of records

no_more : (file : List ℕ) (ps qs : List (List ℕ)) → Pieces file ps → Pieces file qs → length qs ≤ length ps
no_more file ps qs p q = let k : ¬ (length ps < length qs) = go in omega arith
  where
    go : ¬ (length ps < length qs)
    go h =
        ⊎_elim (λ e. absurd (omega (arith, (q.each (length ps) h).0, e))) (λ e. absurd (omega (arith, e, q.few))) p.all

pub one_pieces : (file : List ℕ) (ps qs : List (List ℕ)) → Pieces file ps → Pieces file qs → ps ≡ qs
one_pieces file ps qs p q =
    let e : length ps ≡ length qs = omega (arith, no_more file ps qs p q, no_more file qs ps q p) in
    ext_get_or [] ps qs e (λ i h. (p.each i h).1 ∙ sym (q.each i (omega arith)).1)

-- ---- one sheet

same_lines : (n : ℕ) (b l₁ l₂ : Board) (cs ds : List Call) → map (λ c. c.bytes) cs ≡ map (λ c. c.bytes) ds
    → FedAll b cs l₁ → FedAll b ds l₂ → All (λ c. length c.lent ≡ least_slice) cs → All (λ c. length c.lent ≡ least_slice) ds
    → lines_from n cs ≡ lines_from n ds
unfolding FedAll All lines_from
same_lines n b l₁ l₂ [] [] e f g p q = refl
same_lines n b l₁ l₂ [] (d ∷ ds) e f g p q = absurd (cons-ne-nil d.bytes (map (λ c. c.bytes) ds) (sym e))
same_lines n b l₁ l₂ (c ∷ cs) [] e f g p q = absurd (cons-ne-nil c.bytes (map (λ c. c.bytes) cs) e)
same_lines n b l₁ l₂ (c ∷ cs) (d ∷ ds) e f g p q =
    let h : Fed b d.bytes c.lent c.after c.reply
    = subst (λ x. Fed b x c.lent c.after c.reply) (head-eq_of_cons-eq e) f.0 in
    let o = one_told b d.bytes c.lent c.after d.lent d.after c.reply d.reply (p.0 ∙ sym q.0) h g.0 in
    ap₂ ◌++◌ (same_line n c.reply d.reply c.after d.after o.0 o.1)
    (same_lines (n + 1) d.reply.board l₁ l₂ cs ds (tail-eq_of_cons-eq e)
    (subst (λ r. FedAll r.board cs l₁) o.0 f.1) g.1 p.1 q.1)

pub one_sheet : (file x y : List ℕ) → SheetOf file x → SheetOf file y → x ≡ y
one_sheet file x y p q =
    let e = one_pieces file (map (λ c. c.bytes) p.calls) (map (λ c. c.bytes) q.calls) p.pieces q.pieces in
    let n : length p.calls ≡ length q.calls
    = sym (length-map p.calls (λ c. c.bytes)) ∙ ap length e ∙ length-map q.calls (λ c. c.bytes) in
    let l = same_lines 1 (board_of fresh) p.last q.last p.calls q.calls e p.fed q.fed p.lent q.lent in
    one_spelling (lines_from 1 q.calls ++ last_line (ltb (12 * length q.calls) (length file))) x y
    (subst (λ ps. Spells ps x) (ap₂ (λ a k. a ++ last_line (ltb (12 * k) (length file))) l n) p.printed) q.printed
