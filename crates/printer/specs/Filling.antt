-- How a buffer fills, line by line, and how the steps of one buffer after another come to print every record.
-- Assumes nothing.
use Rattle.std.specs.Prelude.{ℕ, ◌+◌, ◌-◌, ◌≤◌, ◌<◌, ◌≡◌, refl, ◌⊎◌, List, [], ◌∷◌, ◌++◌, length, take, drop}
use Rattle.std.proofs.Common.{arith, sym, ap, ◌∙◌, inl, inr, append_assoc, append-nil, length-append, length-take, length-drop}
use Rattle.paper.specs.declared.Board.{Board}
use Rattle.paper.specs.Layout.{fresh}
use Rattle.paper.specs.Padding.{board_of}
use Rattle.sheet.specs.declared.Printed.{Printed}
use Rattle.sheet.specs.Sheet.{most_records, line_room, Stepped, Printing, lines_of, StepsIn}
use Rattle.text.specs.Laws.Written.{puts_length, puts_join, puts_part}
use Rattle.printer.specs.declared.Place.{Place}
use Rattle.printer.specs.Filled.{Within, Leads, here, further, Over, Filled, Fills, AllPrinted}

-- ---- a line more

lines_more : (ts : List Stepped) (t : Stepped) → lines_of ts ++ t.line ≡ lines_of (ts ++ t ∷ [])
unfolding lines_of
lines_more [] t = sym (append-nil t.line)
lines_more (s ∷ ts) t = append_assoc s.line (lines_of ts) t.line ∙ ap (λ l. s.line ++ l) (lines_more ts t)

pub fill_none : {file buffer : List ℕ} {at n : ℕ} {b : Board} → Within file at n b → Filled file at n b buffer buffer at n 0 b
unfolding lines_of
fill_none w = record { steps = []; leads = here; put = record { fits = omega arith; holds = refl; next = refl }; within = w }

pub fill_more : {file buffer after part : List ℕ} {at n at' n' waiting : ℕ} {b b' : Board} {r : Printed}
    → Filled file at n b buffer after at' n' waiting b' → at' < length file → n' < most_records
    → StepsIn file at' (n' + 1) b' (take (length after - waiting) (drop waiting after)) part r
    → Filled file at n b buffer (take waiting after ++ (part ++ drop (length after - waiting) (drop waiting after))) r.next (n' + 1)
    (waiting + r.written) r.board
fill_more {file} {buffer} {after} {at' = at'} {waiting = waiting} {r = r} f h k s = record {
  steps = f.steps ++ t ∷ [];
  leads = further f.leads t h k s.steps;
  put = rw (← lines_more) (puts_join f.put (puts_part _ after _ waiting (length after - waiting) _ inside s.put));
  within = record {
    inside = omega (arith, s.steps.next_is, length-take 12 (drop at' file), length-drop at' file);
    few = omega arith;
    well_formed = s.well_formed;
  };
}
  where
    t : Stepped
    t = record { line = s.line; next = r.next; board = r.board }

    inside : waiting ≤ length after
    inside = omega (arith, f.put.fits, f.put.next, puts_length f.put)

-- ---- a buffer more

pub leads_join : {file : List ℕ} {at n at₁ n₁ : ℕ} {b b₁ : Board} {at₂ n₂ : ℕ} {b₂ : Board} {ts us : List Stepped}
    → Leads file at n b ts at₁ n₁ b₁ → Leads file at₁ n₁ b₁ us at₂ n₂ b₂ → Leads file at n b (ts ++ us) at₂ n₂ b₂
leads_join {ts = ts} p here = rw append-nil p
leads_join {ts = ts} p (further {ts = us} q t h k s) = rw (← append_assoc) (further (leads_join p q) t h k s)

pub leads_count : {file : List ℕ} {at n : ℕ} {b : Board} {at' n' : ℕ} {b' : Board} {ts : List Stepped} → Leads file at n b ts at' n' b' → n' ≡ n + length ts
leads_count here = omega arith
leads_count (further {ts = ts} q t h k s) = omega (arith, leads_count q, length-append ts (t ∷ []))

lines_none : (ts : List Stepped) → length ts ≡ 0 → length (lines_of ts) ≡ 0
unfolding lines_of
lines_none [] e = refl
lines_none (t ∷ ts) e = absurd (omega arith)

-- a buffer that no record's line went into, though it has room for one, says that no record is left
pub fills_over : {file buffer after : List ℕ} {p r : Place} → Fills file p buffer after r → line_room ≤ length buffer → r.records ≤ p.records
    → Over file r.at r.records
fills_over {file} {buffer} {p = p} {r = r} f h k = go f.full
  where
    none : r.waiting ≡ 0
    none = omega (arith, f.filled.put.next, lines_none f.filled.steps (omega (arith, leads_count f.filled.leads)))

    go : Over file r.at r.records ⊎ (length buffer < r.waiting + line_room) → Over file r.at r.records
    go (inl o) = o
    go (inr l) = absurd (omega (arith, none))

leads_printing : {file : List ℕ} {at n : ℕ} {b : Board} {at' n' : ℕ} {b' : Board} {ts : List Stepped} (us : List Stepped) (end : ℕ)
    → Leads file at n b ts at' n' b' → Printing file at' n' b' us end → Printing file at n b (ts ++ us) end
unfolding Printing
leads_printing us end here p = p
leads_printing us end (further {ts = ts} q t h k s) p = rw append_assoc (leads_printing (t ∷ us) end q (h, k, s, p))

pub all_printed : {file : List ℕ} {at n : ℕ} {b : Board} {ts : List Stepped} → Leads file 0 0 (board_of fresh) ts at n b → Over file at n
    → AllPrinted file at
unfolding Printing
all_printed {at = at} {ts = ts} l o = (ts ++ [], leads_printing [] at l (refl, o))
