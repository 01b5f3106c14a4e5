-- A board once well formed stays so: every accepted record leaves a sound layout.
-- Assumes nothing.
use Rattle.std.specs.Prelude.{ℕ, zero, suc, ◌≤◌, ◌<◌, ◌≡◌, refl, List, ◌∷◌, length}
use Rattle.std.proofs.Common.{arith, ap, inl, inr, ⊎_elim}
use Rattle.paper.specs.declared.Pins.{Pins}
use Rattle.paper.specs.declared.Question.{Question}
use Rattle.paper.specs.declared.Id.{Id}
use Rattle.paper.specs.declared.Rect.{Rect}
use Rattle.paper.specs.declared.Board.{Board}
use Rattle.paper.specs.declared.Reply.{Reply}
use Rattle.paper.specs.declared.Record.{Record}
use Rattle.paper.specs.declared.Record.TheVariants.{Bounds, KeepOut, Lay, Ask, TakeOut, Undo, Malformed}
use Rattle.paper.specs.Limits.{most_runs}
use Rattle.paper.specs.Grid.{Node, level, upright, Dir, Block, All, Blocked, grid_with}
use Rattle.paper.specs.Wire.{AnsweredIn, runs}
use Rattle.paper.specs.Layout.{keep_out, wire, Sort, keep_outs, wires, areas, InSeam, Seamed, Seamless, blocks_to, grid_of, ThingFits, Layout, Laid, Sound}
use Rattle.paper.specs.Padding.{Holds, WellFormed}
use Rattle.paper.specs.Reading.{Plain, Reads}
use Rattle.paper.specs.Answer.{Closes, verdict, source, target, way, checks, add_to, Outcome, Does, Replies, Fed}
use Rattle.paper.specs.Copper.{OnWire, Inside}
use Rattle.paper.specs.Laws.Steps.{Least}
use Rattle.paper.specs.Laws.Least.{in_least}
use Rattle.paper.specs.Laws.Read.{read_plain}
use Rattle.paper.specs.Laws.Lists.{all_imp, all_none, none_all, any_imp}
use Rattle.paper.specs.Laws.Covering.{seamed_more, seamless_fewer, wire_covers}
use Rattle.paper.specs.Laws.Apart.{blocked_left}
use Rattle.paper.proofs.Apart.{wire_apart, keep_out_apart}
use Rattle.paper.specs.Laws.Checks.{Spared}
use Rattle.paper.specs.Laws.Joins.{joins, joined, open_joined}
use Rattle.paper.proofs.Seams.{least_joined, run_in}
use Rattle.paper.specs.Laws.Seams.{runs_outside}
use Rattle.paper.specs.Laws.Next.{Spares, spares, laid, laid_undo, laid_empty}
use Rattle.paper.proofs.Next.{laid_add, laid_take}
use Rattle.paper.specs.Laws.Traced.{OpenBox}
use Rattle.paper.proofs.Traced.{least_turning, open_boxes, least_clear, least_fits}

-- ---- by kind

-- the blocks of a board that is laid, and their rectangles
abbrev blocks_in : Layout → List Block
blocks_in l = blocks_to l.size.clearance wires l.items

open_blocks : (l : Layout) → Laid l → All OpenBox (joined (blocks_in l))
open_blocks l L = open_joined (blocks_in l) (open_boxes l.size l.size.clearance l.items L.range.2.0 L.fits.two.each)

by_blocks : (l : Layout) (p : Pins) (w : List Dir) → Laid l → Least (grid_of l.size l.items) (source p) (target p) w
    → Least (grid_with l.size.w l.size.h (joined (blocks_in l))) (source p) (target p) w
by_blocks l p w L a = least_joined l.size l.items (source p) (target p) w L.range.2.0 a

-- a shortest wire on a board that is laid is blocked nowhere
pub laid_joined : (l : Layout) (p : Pins) (w : List Dir) → Laid l → Least (grid_of l.size l.items) (source p) (target p) w
    → All (λ r. ¬ (Blocked (joined (blocks_in l)) r)) (runs (way p w))
laid_joined l p w L a =
    least_clear l.size.w l.size.h (joined (blocks_in l)) (source p) (target p) w (open_blocks l L) (by_blocks l p w L a)

pub laid_clear : (l : Layout) (p : Pins) (w : List Dir) → Laid l → Least (grid_of l.size l.items) (source p) (target p) w
    → All (λ r. ¬ (Blocked (blocks_to l.size.clearance wires l.items) r)) (runs (way p w))
laid_clear l p w L a =
    all_imp _ _ (λ r n h. n (blocked_left (blocks_in l) (joins (blocks_in l)) r h)) (runs (way p w)) (laid_joined l p w L a)

pub laid_outside : (l : Layout) (p : Pins) (w : List Dir) (n : ℕ) (q : Node) → Laid l → Least (grid_of l.size l.items) (source p) (target p) w
    → OnWire n q (way p w) → ¬ (Inside n q l.items)
laid_outside l p w n q L a o =
    let clear = all_imp _ (λ r. ¬ (InSeam l.items r)) (λ r f h. f (run_in l.size.clearance l.items L.range.2.0 level r h)) (runs (way p w)) (laid_joined l p w L a) in
    ⊎_elim (λ t. runs_outside l.items n q level (runs (way p w)) t clear o) (λ t. runs_outside l.items n q upright (runs (way p w)) t clear o)
    (least_turning l.size.w l.size.h (joined (blocks_in l)) (source p) (target p) w (open_blocks l L) (by_blocks l p w L a))

-- a wire that is blocked nowhere goes along no seam, and no other does because of it
wire_seamless : (l : Layout) (i : ℕ) (ps : List Node) → Laid l → All (λ r. ¬ (Blocked (joined (blocks_in l)) r)) (runs ps)
    → Seamless (wire i ps ∷ l.items)
unfolding All
wire_seamless l i ps L a = (
  λ s. own (seamed_more (wire i ps ∷ l.items) l.items (wire_covers i ps l.items) (wire i ps) s),
  seamless_fewer (wire i ps ∷ l.items) l.items (wire_covers i ps l.items) l.items L.fits.seamless,
)
  where
    own : Seamed l.items (wire i ps) → ⊥
    own s = unfold Seamed areas in all_none (Blocked (joined (blocks_in l))) (runs ps) a
        (any_imp (InSeam l.items) _ (λ r h. run_in l.size.clearance l.items L.range.2.0 level r h) (runs ps) s.1)

-- a keep-out that closes no seam over a wire
keep_out_seamless : (l : Layout) (i : ℕ) (r : Rect) → ¬ (Closes l (keep_out i r)) → Seamless (keep_out i r ∷ l.items)
unfolding All Closes Seamed
keep_out_seamless l i r n = (λ s. other s.0, none_all (Seamed (keep_out i r ∷ l.items)) l.items n)
  where
    other : ◌≡◌ {A = Sort} keep_outs wires → ⊥
    other e = let z : ◌≡◌ {A = ℕ} 0 1 = ap (λ s. elim s [ keep_outs ↦ 0 | wires ↦ 1 ]) e in omega arith

next_lay : (l : Layout) (i : Id) (q : Question) (n : ℕ) (w : List Dir) → Sound l → 1 ≤ i.number → Spares l (Lay i q) n
    → AnsweredIn q.mode (grid_of l.size l.items) (source q.pins) (target q.pins) w → Laid (add_to l (wire i.number (way q.pins w)))
unfolding Spared checks
next_lay l i q n w s one h a =
    let p : Pins = q.pins in
    let b = in_least q.mode (grid_of l.size l.items) (source p) (target p) w a in
    let L : Laid l = laid l s (h 2) in
    let few : length (runs (way p w)) ≤ most_runs
    = let k : ¬ (most_runs < length (runs (way p w))) = λ k. h 13 (w, a, k) in omega arith in
    let f = least_fits l.size (joined (blocks_in l)) (source p) (target p) w (open_blocks l L) (by_blocks l p w L b) (h 10) few in
    laid_add l (wire i.number (way p w)) L (h 4) (unfold ThingFits in (one, f))
    (wire_apart l.size.clearance i.number (way p w) l.items (laid_clear l p w L b))
    (wire_seamless l i.number (way p w) L (laid_joined l p w L b))
    (λ k. h 14 (w, a, k))

pub next : (l : Layout) (rec : Record) (n : ℕ) (o : Outcome) → Sound l → Plain rec → Spares l rec n → Does l rec o → Sound o.layout
unfolding Does Plain Sound Spared checks
next l Malformed n o z m h d = absurd d
next l (Bounds b) n o z m h d = rw d (inr (laid_empty b (h 3)))
next l (KeepOut i r) n o z m h d =
    rw d (inr (laid_add l (keep_out i.number r) (laid l z (h 2)) (h 4) (unfold ThingFits in (m, h 6))
    (keep_out_apart l i.number r (h 7) (λ e. h 8 (inl e)))
    (keep_out_seamless l i.number r (λ e. h 8 (inr e))) (h 14)))
next l (Lay i q) n o z m h d = rw d.2 (inr (next_lay l i q n d.0 z m h d.1))
next l (Ask q) n o z m h d = rw d.2 z
next l (TakeOut i) n o z m h d = rw d.3 (inr (laid_take l d.0 (laid l z (h 2)) d.1))
next l Undo n o z m h d = rw d.3 (inr (laid_undo l d.0 d.1 (laid l z (h 2)) d.2))

-- ---- all kinds

does_plain : (l : Layout) (bytes : List ℕ) (rec : Record) (o : Outcome) → Reads bytes rec → Does l rec o → Plain rec
unfolding Does
does_plain l bytes rec o r d = ⊎_elim (λ p. p) (λ e. absurd (rw e at d)) (read_plain bytes rec r)

-- accepted bytes leave a sound layout
pub sound_next : (l : Layout) (bytes : List ℕ) (rec : Record) (n : ℕ) (o : Outcome) → Sound l → Reads bytes rec → Spares l rec n
    → Does l rec o → Sound o.layout
sound_next l bytes rec n o z r h d = next l rec n o z (does_plain l bytes rec o r d) h d

-- the reply to a board that holds l leaves a board that holds a layout too
pub replied : (b : Board) (l : Layout) (bytes : List ℕ) (rec : Record) (s s' : List ℕ) (r : Reply) → Holds b l → Reads bytes rec
    → Replies l rec s s' r → WellFormed r.board
unfolding WellFormed
replied b l bytes rec s s' r h k f = go r.code refl
  where
    go : (n : ℕ) → r.code ≡ n → (m : Layout) × Holds r.board m
    go zero e = let a = f.accepted e in
        (a.0.layout, record { sound = sound_next l bytes rec (length s) a.0 h.sound k (spares l rec (length s) (verdict r) e f.code) a.1; same = a.2.board_is })
    go (suc n) e = let a = f.refused (λ z. omega arith) in (l, record { sound = h.sound; same = a.board_is })

-- feeding keeps boards well formed
pub fed_well_formed : (b : Board) (bytes s s' : List ℕ) (r : Reply) → WellFormed b → Fed b bytes s s' r → WellFormed r.board
unfolding Fed
fed_well_formed b bytes s s' r h (inl f) = absurd (f.0 h)
fed_well_formed b bytes s s' r h (inr f) = replied b f.0 bytes f.1 s s' r f.2 f.3 f.4
