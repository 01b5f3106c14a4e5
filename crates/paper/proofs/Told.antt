-- Demand 2 for every wire that is told: each point of it is where it may be, the distance falls, length and detour are true and fit.
-- The definitions and lemmas under it stand in specs/Laws/Told.
use Rattle.std.specs.Prelude.{ℕ, ◌≡◌, List, length}
use Rattle.std.proofs.Common.{arith, ap, subst, inl, inr}
use Rattle.paper.specs.declared.Pins.{Pins}
use Rattle.paper.specs.declared.Question.{Question}
use Rattle.paper.specs.declared.Board.{Board}
use Rattle.paper.specs.declared.Reply.{Reply}
use Rattle.paper.specs.declared.Record.{Record}
use Rattle.paper.specs.declared.Record.TheVariants.{Lay, Ask}
use Rattle.paper.specs.Grid.{Grid, Dir}
use Rattle.paper.specs.Wire.{AnsweredIn}
use Rattle.paper.specs.Layout.{wire, grid_of, OnBoard, Layout, Laid, Sound}
use Rattle.paper.specs.Padding.{board_of, Holds}
use Rattle.paper.specs.Reading.{Reads}
use Rattle.paper.specs.Answer.{source, target, way, checks, verdict, add_to, Outcome, told, Does, Tells, Replies, Fed}
use Rattle.paper.specs.Copper.{Routes, lay, ask, Copper}
use Rattle.paper.specs.Laws.Read.{one_record}
use Rattle.paper.specs.Laws.Checks.{Spared}
use Rattle.paper.specs.Laws.Next.{Spares, spares, laid}
use Rattle.paper.proofs.Kept.{laid_clear, laid_outside}
use Rattle.paper.proofs.Points.{clear_points}
use Rattle.paper.specs.Laws.Detour.{length_detour}
use Rattle.paper.specs.Laws.Length.{length_fits}
use Rattle.paper.specs.Laws.Steps.{Least}
use Rattle.paper.specs.Laws.Least.{in_least}
use Rattle.paper.specs.Laws.Told.{least_falls}

-- ---- an accepted lay or ask

-- an outcome that tells of the answered wire w on the layout l, whatever layout it leaves
copper : (l m : Layout) (q : Question) (o : Outcome) (s s' : List ℕ) (r : Reply) (w : List Dir) → Laid l → OnBoard l.size (source q.pins)
    → AnsweredIn q.mode (grid_of l.size l.items) (source q.pins) (target q.pins) w → o ≡ told q.pins w m
    → Tells o.long o.away o.turned (board_of o.layout) s s' r → Copper l q s s' r w
copper l m q o s s' r w L on a e f =
    let p : Pins = q.pins in
    let G : Grid = grid_of l.size l.items in
    let b : Least G (source p) (target p) w = in_least q.mode G (source p) (target p) w a in
    let t : Tells (told p w m).long (told p w m).away (told p w m).turned (board_of m) s s' r = rw e at f in
    record {
      answered = a;
      corners = t.slice_is;
      long = t.length_is;
      away = t.detour_is;
      clear = λ k q o. clear_points k l.size.clearance q (way p w) l.items (laid_clear l p w L b) o;
      outside = λ k q o. laid_outside l p w k q L b o;
      falls = least_falls G (source p) (target p) w b;
      sum = rw (t.length_is, t.detour_is) (length_detour G (source p) (target p) w b.0);
      bits = omega (arith, t.length_is, length_fits G (source p) (target p) w L.range.0.1 L.range.1.1 on b);
    }

told_copper : (l : Layout) (rec : Record) (q : Question) (s s' : List ℕ) (r : Reply) → Routes rec q → Sound l → Replies l rec s s' r → r.code ≡ 0
    → (w : List Dir) × Copper l q s s' r w
unfolding Does Spared checks
told_copper l rec q s s' r ask z f e =
    let n : Spares l (Ask q) (length s) = spares l (Ask q) (length s) (verdict r) e f.code in
    let a = f.accepted e in
    (a.1.0, copper l l q a.0 s s' r a.1.0 (laid l z (n 2)) (n 9).0 a.1.1 a.1.2 a.2)
told_copper l rec q s s' r (lay {i = i}) z f e =
    let n : Spares l (Lay i q) (length s) = spares l (Lay i q) (length s) (verdict r) e f.code in
    let a = f.accepted e in
    let m : Layout = add_to l (wire i.number (way q.pins a.1.0)) in
    (a.1.0, copper l m q a.0 s s' r a.1.0 (laid l z (n 2)) (n 9).0 a.1.1 a.1.2 a.2)

-- whatever the board and the bytes: an accepted lay or ask tells of such a wire
pub fed_copper : (b : Board) (bytes s s' : List ℕ) (r : Reply) (rec : Record) (q : Question) → Fed b bytes s s' r → r.code ≡ 0 → Reads bytes rec
    → Routes rec q → (l : Layout) × Holds b l × (w : List Dir) × Copper l q s s' r w
unfolding Fed
fed_copper b bytes s s' r rec q (inl f) e k o = absurd (omega (arith, ap (λ v. v.code) f.1))
fed_copper b bytes s s' r rec q (inr f) e k o =
    let same : f.1 ≡ rec = one_record bytes f.1 rec f.3 k in
    let c = told_copper f.0 rec q s s' r o f.2.sound (subst (λ x. Replies f.0 x s s' r) same f.4) e in
    (f.0, f.2, c.0, c.1)
