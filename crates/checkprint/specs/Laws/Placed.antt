-- Where the printing stands: at the start, with the lines that waited written, and a piece further; and where it ends.
-- Assumes nothing.
use Rattle.std.specs.Prelude.{ℕ, ◌+◌, ◌-◌, ◌≤◌, ◌<◌, ◌≡◌, refl, ◌⊎◌, Some, Ok, Err, List, [], ◌∷◌, ◌++◌, length, take, drop}
use Rattle.std.proofs.Common.{arith, sym, ap, ◌∙◌, inl, inr, append_assoc, append-nil, length-append, take_at, length-take-le}
use Rattle.std.proofs.Math.Seq.{take-append-add}
use Rattle.paper.specs.declared.Board.{Board}
use Rattle.paper.specs.Layout.{fresh}
use Rattle.paper.specs.Padding.{board_of, WellFormed}
use Rattle.input.specs.declared.Broken.{Broken}
use Rattle.text.specs.Text.{Puts}
use Rattle.text.specs.Laws.Written.{puts_length}
use Rattle.checkprint.specs.declared.Last.{Last}
use Rattle.checkprint.specs.declared.Last.TheVariants.{End, Bad, Cut}
use Rattle.checkprint.specs.declared.Place.{Place}
use Rattle.checkprint.specs.declared.Done.{Done}
use Rattle.checkprint.specs.Checked.{most_pieces, StopFor, StopAfter, Acts, feeds, judges, ActsIn}
use Rattle.checkprint.specs.Standing.{here, further, Stands, with_waiting, EndsAt, Counts}

-- ---- in the buffer

pub nothing_put : (buffer : List ℕ) → Puts [] buffer 0 buffer 0
nothing_put buffer = record { fits = omega arith; holds = refl; next = refl }

-- what is put into the part of a buffer from `at` on stands after what waits before it
put_after : (bs b p : List ℕ) (at k r : ℕ) → at ≤ length b → Puts bs (take k (drop at b)) 0 p r
    → take (at + r) (take at b ++ (p ++ drop k (drop at b))) ≡ take at b ++ bs
put_after bs b p at k r h q =
    ap (λ i. take (i + r) (take at b ++ (p ++ drop k (drop at b)))) (sym (length-take-le at b h))
    ∙ take-append-add (take at b) (p ++ drop k (drop at b)) r ∙ ap (λ l. take at b ++ l) front
  where
    front : take r (p ++ drop k (drop at b)) ≡ bs
    front =
        ap (λ l. take r (l ++ drop k (drop at b))) q.holds ∙ ap (take r) (append_assoc bs (drop (0 + length bs) (take k (drop at b))) (drop k (drop at b)))
        ∙ take_at bs _ r (omega (arith, q.next))

-- ---- from piece to piece

-- before any piece
pub stands_start : (p : Place) (buffer : List ℕ) → p.pieces ≡ 0 → p.wires ≡ 0 → p.waiting ≡ 0 → p.board ≡ board_of fresh
    → WellFormed p.board → Stands p buffer
stands_start p buffer e w n f h = record {
  pieces = [];
  text = [];
  leads = rw (w, f) here;
  count = sym e;
  few = omega arith;
  written = [];
  waits = rw n refl;
  inside = omega arith;
  well_formed = h;
}

-- the lines that waited wait on, or are written
pub stands_spare : (p : Place) (buffer : List ℕ) (at : ℕ) → (at ≡ p.waiting) ⊎ (at ≡ 0) → Stands p buffer → Stands (with_waiting p at) buffer
stands_spare p buffer at (inl e) s = rw e s
stands_spare p buffer at (inr e) s = record {
  pieces = s.pieces;
  text = s.text;
  leads = s.leads;
  count = s.count;
  few = s.few;
  written = s.text;
  waits = rw (e, append-nil) refl;
  inside = omega arith;
  well_formed = s.well_formed;
}

-- a drawn wire more at most
acts_few : {b b' : Board} {n n' : ℕ} {piece line : List ℕ} → Acts b n piece line n' b' → n' ≤ n + 1
acts_few (feeds lent after reply i l f) = omega arith
acts_few (judges r line i j s) = omega arith

-- a piece further
pub stands_more : (p : Place) (buffer part piece : List ℕ) (d : Done) → Stands p buffer
    → ActsIn p.board p.wires piece (take (length buffer - p.waiting) (drop p.waiting buffer)) part d
    → Stands (record { pieces = p.pieces + 1; wires = d.wires; waiting = p.waiting + d.written; board = d.board })
    (take p.waiting buffer ++ (part ++ drop (length buffer - p.waiting) (drop p.waiting buffer)))
stands_more p buffer part piece d s r = record {
  pieces = s.pieces ++ piece ∷ [];
  text = s.text ++ r.line;
  leads = further s.leads r.acts;
  count = length-append s.pieces (piece ∷ []) ∙ ap (λ n. n + 1) s.count;
  few = omega (arith, s.few, acts_few r.acts);
  written = s.written;
  waits = ap (λ l. l ++ r.line) s.waits ∙ append_assoc s.written (take at buffer) r.line
      ∙ ap (λ l. s.written ++ l) (sym (put_after r.line buffer part at (length buffer - at) d.written s.inside r.put));
  inside = within;
  well_formed = r.well_formed;
}
  where
    at : ℕ
    at = p.waiting

    within : at + d.written ≤ length (take at buffer ++ (part ++ drop (length buffer - at) (drop at buffer)))
    within = omega (
      arith,
      length-append (take at buffer) (part ++ drop (length buffer - at) (drop at buffer)),
      length-append part (drop (length buffer - at) (drop at buffer)),
      length-take-le at buffer s.inside,
      puts_length r.put,
      r.put.fits,
      r.put.next,
    )

-- ---- where it ends

pub counts_end : (n m : ℕ) (l : Last) → Counts n (Ok (Some l)) m → EndsAt (Ok l) m
counts_end n m l c = c

pub counts_broken : (n m : ℕ) (b : Broken) → Counts n (Err b) m → EndsAt (Err b) m
counts_broken n m b c = c

-- by what was read for a piece
pub for_ends : (bs : List ℕ) (n : ℕ) (l : Last) → n < most_pieces → StopFor bs (Some l) → Counts n (Ok (Some l)) n
for_ends bs n End h a = omega arith
for_ends bs n Bad h a = h
for_ends bs n Cut h a = absurd a

-- and after the last piece
pub after_ends : (bs : List ℕ) (l : Last) → StopAfter bs l → EndsAt (Ok l) most_pieces
after_ends bs End a = omega arith
after_ends bs Bad a = absurd a
after_ends bs Cut a = refl
