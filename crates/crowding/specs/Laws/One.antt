-- There is one index of a layout, and one sheet of an index; and what `sheet` counts is that sheet.
-- Assumes nothing.
use Rattle.std.specs.Prelude.{ℕ, ◌≤◌, ◌<◌, ◌≡◌, refl, Bool, true, false, List, length, get_or}
use Rattle.std.proofs.Common.{arith, sym, ap, subst, subst₂, ◌∙◌, inl, inr, ext_get_or}
use Rattle.std.proofs.Math.Decide.{dec_lt}
use Rattle.paper.specs.Grid.{Grid, Axis, level, upright, Block}
use Rattle.paper.specs.Layout.{Layout}
use Rattle.tracks.specs.declared.Tracks.{Tracks}
use Rattle.tracks.specs.Tracks.{most_tracks}
use Rattle.tracks.specs.Laws.{one_tracks}
use Rattle.index.specs.declared.Edges.{Edges}
use Rattle.index.specs.Bits.{words_of, no_edges, opened, unbroken}
use Rattle.index.specs.Rows.{open_in, stretch_in, Shows, Counted, Same, Long}
use Rattle.index.specs.declared.Index.{Index}
use Rattle.index.specs.declared.Crowding.{Crowding}
use Rattle.crowding.specs.Crowding.{Lane, Lanes, BuiltOn, Built, IndexOf, Line, Lines}
use Rattle.index.specs.Laws.Counts.{open_words, stretch_words}
use Rattle.index.specs.Laws.One.{same_sheet}

-- ---- one index

same_bit : (b c : Bool) → (b ≡ true → c ≡ true) → (c ≡ true → b ≡ true) → b ≡ c
same_bit true c f g = sym (f refl)
same_bit false true f g = g refl
same_bit false false f g = refl

pub one_lane : {G : Grid} {a : Axis} {t : Tracks} {v : ℕ} {bs cs : List Bool} → Lane G a t v bs → Lane G a t v cs → bs ≡ cs
one_lane {bs} {cs} p q =
    let e : length bs ≡ length cs = omega (arith, p.long, q.long) in
    ext_get_or false bs cs e (λ k h.
    let f = p.each k h in
    let g = q.each k (omega arith) in
    same_bit (get_or bs k false) (get_or cs k false) (λ z. g.1 (f.0 z)) (λ z. f.1 (g.0 z)))

one_lanes : {G : Grid} {a : Axis} {t u : Tracks} {es fs : List Edges} → Lanes G a t u es → Lanes G a t u fs → es ≡ fs
one_lanes {u} {es} {fs} p q = ext_get_or no_edges es fs (p.room ∙ sym q.room) (λ k h. place k (dec_lt k u.count))
  where
    place : (k : ℕ) → Dec (k < u.count) → get_or es k no_edges ≡ get_or fs k no_edges
    place k (yes h) = let f = p.each k h in let g = q.each k h in f.2 ∙ ap words_of (one_lane f.1 g.1) ∙ sym g.2
    place k (no n) = p.rest k (omega arith) ∙ sym (q.rest k (omega arith))

one_built : {G : Grid} {bs : List Block} {i j : Index} → BuiltOn G bs i → BuiltOn G bs j → i ≡ j
one_built {G} {i} {j} p q =
    let x = one_tracks p.on_x q.on_x in
    let y = one_tracks p.on_y q.on_y in
    let u = one_lanes p.upright_are (subst (λ t. Lanes G upright t i.x j.upright) (sym y) (subst (λ t. Lanes G upright j.y t j.upright) (sym x) q.upright_are)) in
    let l = one_lanes p.level_are (subst (λ t. Lanes G level t i.y j.level) (sym x) (subst (λ t. Lanes G level j.x t j.level) (sym y) q.level_are)) in
    λ k. record { x = x k; y = y k; upright = u k; level = l k }

pub one_index : (l : Layout) (i j : Index) → IndexOf l i → IndexOf l j → i ≡ j
unfolding IndexOf
one_index l i j (inl p) (inl q) = p.1 ∙ sym q.1
one_index l i j (inl p) (inr q) = absurd (q.0 p.0)
one_index l i j (inr p) (inl q) = absurd (p.0 q.0)
one_index l i j (inr p) (inr q) = one_built p.1 q.1

-- ---- the sheet that is counted

line_of : {G : Grid} {a : Axis} {t : Tracks} {v : ℕ} {r : Crowding} {k : ℕ} {e : Edges} → t.count ≤ most_tracks → Shows r k v e
    → (bs : List Bool) × Lane G a t v bs × (e ≡ words_of bs) → Line G a t v r k
line_of few h (bs, lane, e) =
    let n : length bs ≤ 128 = omega (arith, lane.long) in
    record {
      at_is = h.at_is;
      bits = bs;
      lane = lane;
      free_is = h.free_is ∙ ap open_in e ∙ open_words bs n;
      stretch_is = h.stretch_is ∙ ap stretch_in e ∙ stretch_words bs n;
    }

pub counted_lines : (l : Layout) (i : Index) (r : Crowding) → Built l i → Counted i r → Lines l i r
counted_lines l i r b c = record {
  code_is = c.code_is;
  upright_is = c.upright_is;
  level_is = c.level_is;
  uprights = λ k h. line_of b.on_y.few (c.uprights k h) (b.upright_are.each k h);
  levels = λ k h. line_of b.on_x.few (c.levels k h) (b.level_are.each k h);
  rest = c.rest;
  room = (c.long.at_long, c.long.free_long, c.long.stretch_long);
}

-- ---- one sheet

same_line : {G : Grid} {a : Axis} {t : Tracks} {v k : ℕ} {r s : Crowding} → Line G a t v r k → Line G a t v s k → Same s r k
same_line p q = let e = one_lane p.lane q.lane in record {
  at_is = p.at_is ∙ sym q.at_is;
  free_is = p.free_is ∙ ap opened e ∙ sym q.free_is;
  stretch_is = p.stretch_is ∙ ap unbroken e ∙ sym q.stretch_is;
}

long : {l : Layout} {i : Index} {r : Crowding} → Lines l i r → Long r
long p = record { at_long = p.room.0; free_long = p.room.1; stretch_long = p.room.2 }

pub one_lines : (l : Layout) (i : Index) (r s : Crowding) → Lines l i r → Lines l i s → r ≡ s
one_lines l i r s p q =
    same_sheet i r s (p.code_is ∙ sym q.code_is) (p.upright_is ∙ sym q.upright_is) (p.level_is ∙ sym q.level_is) (long p) (long q)
    (λ k h. same_line (p.uprights k h) (q.uprights k h)) (λ k h. same_line (p.levels k h) (q.levels k h))
    (λ k h. let f = p.rest k h in let g = q.rest k h in record { at_is = f.0 ∙ sym g.0; free_is = f.1 ∙ sym g.1; stretch_is = f.2 ∙ sym g.2 })

-- ---- by the items alone

pub items_alone : (l m : Layout) (i : Index) → l.size ≡ m.size → l.items ≡ m.items → IndexOf l i → IndexOf m i
unfolding IndexOf
items_alone l m i e f h = subst₂ (λ s ts. IndexOf (record { size = s; items = ts; kept = m.kept }) i) e f h
