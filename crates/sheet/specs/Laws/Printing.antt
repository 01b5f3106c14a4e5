-- The steps from the fresh board, one after another, and the last line give the sheet.
-- Assumes nothing.
use Rattle.std.specs.Prelude.{ℕ, zero, suc, ◌+◌, ◌-◌, ◌*◌, ◌≤◌, ◌<◌, ◌≡◌, refl, ◌⊎◌, List, [], ◌∷◌, ◌++◌, map, length, get_or, ltb}
use Rattle.std.proofs.Common.{arith, sym, ap, subst, ◌∙◌, inl, inr, ⊎_elim, le-ltb}
use Rattle.std.proofs.lemmas.List.{length-map}
use Rattle.paper.specs.declared.Board.{Board}
use Rattle.paper.specs.Limits.{least_slice}
use Rattle.paper.specs.Grid.{All}
use Rattle.paper.specs.Layout.{fresh}
use Rattle.paper.specs.Padding.{board_of}
use Rattle.paper.specs.History.{Call, FedAll}
use Rattle.text.specs.Text.{Spells}
use Rattle.sheet.specs.Sheet.{line_of, last_line, most_records, piece_at, lines_from, SheetOf, Steps, Stepped, Printing, lines_of}
use Rattle.sheet.specs.Laws.Pieces.{below_or_not, length_piece}
use Rattle.text.specs.Laws.Spelling.{spells_join}

-- where n records end: 12 bytes each, or at the file's end
abbrev EndsAt : List ℕ → ℕ → ℕ → Type 0
EndsAt file n at = (at ≡ 12 * n) ⊎ ((at ≡ length file) × (length file ≤ 12 * n))

-- one record further
ends_next : (file : List ℕ) (n at next : ℕ) → at ≡ 12 * n → at < length file → next ≡ at + length (piece_at file at) → EndsAt file (n + 1) next
ends_next file n at next e h p =
    ⊎_elim (λ l. inr (omega (arith, length_piece file at), omega arith)) (λ l. inl (omega (arith, length_piece file at)))
    (below_or_not (length file - at) 12)

-- a record begins before the end only where those before it are whole
begins : (file : List ℕ) (n at : ℕ) → EndsAt file n at → at < length file → at ≡ 12 * n
begins file n at (inl e) h = e
begins file n at (inr e) h = absurd (omega (arith, e.0))

-- what the steps after n records amount to
record Goes (file : List ℕ) (n : ℕ) (b : Board) (lines : List ℕ) (end : ℕ) : Type 0 where
  calls : List Call
  last : Board
  fed : FedAll b calls last
  lent : All (λ c. length c.lent ≡ least_slice) calls
  printed : Spells (lines_from (n + 1) calls) lines
  each : (k : ℕ) → k < length calls → (12 * (n + k) < length file) × (get_or (map (λ c. c.bytes) calls) k [] ≡ piece_at file (12 * (n + k)))
  few : n + length calls ≤ most_records
  all : (length file ≤ 12 * (n + length calls)) ⊎ (n + length calls ≡ most_records)
  ends : EndsAt file (n + length calls) end

none_left : (file : List ℕ) (n at : ℕ) → EndsAt file n at → (length file ≤ at) ⊎ (n ≡ most_records)
    → (length file ≤ 12 * (n + 0)) ⊎ (n + 0 ≡ most_records)
none_left file n at (inl e) (inl h) = inl (omega arith)
none_left file n at (inr e) (inl h) = inl (omega (arith, e.1))
none_left file n at e (inr h) = inr (omega arith)

-- a step before those
further : (file : List ℕ) (at n : ℕ) (b : Board) (t : Stepped) (lines : List ℕ) (end : ℕ) → at ≡ 12 * n → at < length file
    → Steps file at (n + 1) b t.line t.next t.board → Goes file (n + 1) t.board lines end → Goes file n b (t.line ++ lines) end
unfolding FedAll All lines_from
further file at n b t lines end e h s g = record {
  calls = record { bytes = piece_at file at; lent = s.lent; after = s.after; reply = s.reply } ∷ g.calls;
  last = g.last;
  fed = (s.fed, subst (λ x. FedAll x g.calls g.last) s.board_is g.fed);
  lent = (s.enough, g.lent);
  printed = spells_join (line_of (n + 1) s.reply s.after) (lines_from (n + 1 + 1) g.calls) t.line lines s.printed g.printed;
  each = go;
  few = omega (arith, g.few);
  all = subst (λ m. (length file ≤ 12 * m) ⊎ (m ≡ most_records)) m g.all;
  ends = subst (λ m. EndsAt file m end) m g.ends;
}
  where
    m : n + 1 + length g.calls ≡ n + suc (length g.calls)
    m = omega arith

    go : (k : ℕ) → k < suc (length g.calls)
        → (12 * (n + k) < length file) × (get_or (piece_at file at ∷ map (λ c. c.bytes) g.calls) k [] ≡ piece_at file (12 * (n + k)))
    go zero l = let f : at ≡ 12 * (n + 0) = omega arith in (omega arith, ap (piece_at file) f)
    go (suc k) l =
        let f : n + 1 + k ≡ n + suc k = omega arith in
        subst (λ i. (12 * i < length file) × (get_or (map (λ c. c.bytes) g.calls) k [] ≡ piece_at file (12 * i))) f (g.each k (omega arith))

goes : (file : List ℕ) (at n : ℕ) (b : Board) (ts : List Stepped) (end : ℕ) → n ≤ most_records → EndsAt file n at → Printing file at n b ts end
    → Goes file n b (lines_of ts) end
unfolding Printing lines_of FedAll All lines_from Spells
goes file at n b [] end few e p = record {
  calls = [];
  last = b;
  fed = refl;
  lent = tt;
  printed = refl;
  each = λ k h. absurd (omega arith);
  few = omega arith;
  all = none_left file n at e p.1;
  ends = let m : n ≡ n + 0 = omega arith in subst (λ k. EndsAt file k end) m (subst (EndsAt file n) (sym p.0) e);
}
goes file at n b (t ∷ ts) end few e p =
    let a : at ≡ 12 * n = begins file n at e p.0 in
    further file at n b t (lines_of ts) end a p.0 p.2
    (goes file t.next (n + 1) t.board ts end (omega (arith, p.1)) (ends_next file n at t.next a p.0 p.2.next_is) p.3)

-- the last line says whether input is left
last_same : (file : List ℕ) (n end : ℕ) → EndsAt file n end → ltb end (length file) ≡ ltb (12 * n) (length file)
last_same file n end (inl e) = ap (λ k. ltb k (length file)) e
last_same file n end (inr e) = le-ltb end (length file) (omega (arith, e.0)) ∙ sym (le-ltb (12 * n) (length file) e.1)

pub printed_sheet : (file : List ℕ) (ts : List Stepped) (end : ℕ) (last : List ℕ) → Printing file 0 0 (board_of fresh) ts end
    → Spells (last_line (ltb end (length file))) last → SheetOf file (lines_of ts ++ last)
printed_sheet file ts end last p q = record {
  calls = g.calls;
  last = g.last;
  fed = g.fed;
  pieces = record {
    each = λ k h.
        let f : 0 + k ≡ k = omega arith in
        subst (λ i. (12 * i < length file) × (get_or (map (λ c. c.bytes) g.calls) k [] ≡ piece_at file (12 * i))) f (g.each k (omega (arith, l)));
    few = omega (arith, l, g.few);
    all = subst (λ i. (length file ≤ 12 * i) ⊎ (i ≡ most_records)) m g.all;
  };
  lent = g.lent;
  printed = spells_join (lines_from 1 g.calls) (last_line (ltb (12 * length g.calls) (length file))) (lines_of ts) last g.printed
      (subst (λ x. Spells (last_line x) last) (last_same file (length g.calls) end (subst (λ i. EndsAt file i end) n g.ends)) q);
}
  where
    g : Goes file 0 (board_of fresh) (lines_of ts) end
    g = goes file 0 0 (board_of fresh) ts end (omega arith) (inl (omega arith)) p

    l : length (map (λ c. c.bytes) g.calls) ≡ length g.calls
    l = length-map g.calls (λ c. c.bytes)

    m : 0 + length g.calls ≡ length (map (λ c. c.bytes) g.calls)
    m = omega (arith, l)

    n : 0 + length g.calls ≡ length g.calls
    n = omega arith
