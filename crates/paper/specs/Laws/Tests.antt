-- A test for each definition of the grid and of well-formed layouts, and that it says what the definition says.
-- The line `unfolding` of a test names what it computes with: to unfold the test is to unfold all of that.
-- Assumes nothing.
use Rattle.std.specs.Prelude.{ℕ, ◌+◌, ◌≡◌, Bool, true, false, ◌&&◌, ◌||◌, length, eqb}
use Rattle.std.proofs.Common.{arith, ap}
use Rattle.std.proofs.Math.Bool.{not}
use mathlib.Core.List.{List, [], ◌∷◌}
use Rattle.std.proofs.Math.Dec.{leb, ltb}
use Rattle.paper.specs.declared.Size.{Size}
use Rattle.paper.specs.declared.Rect.{Rect}
use Rattle.paper.specs.Limits.{most_side, most_clearance, most_blocks, most_runs, most_kept}
use Rattle.paper.specs.Grid.{Node, Dir, E, N, W, S, step, Axis, level, upright, Edge, Area, Span, Meets, Block, Hits, Blocked, edge, grid_with}
use Rattle.paper.specs.Wire.{runs}
use Rattle.paper.specs.Layout.{Thing, keep_out, wire, id_of, sort_of, areas, blocks_of, block_count, Covers, Covered, Sealed, add, without, Meet, RectFits, OnBoard, Along, across, Turning, last_of, EndsDiffer, WireFits, ThingFits, Turn, added, taken, Has, Used, undo, CanUndo, Layout, InRange, no_bounds, fresh}
use Rattle.paper.specs.Laws.Joins.{joins, joined}
use Rattle.paper.specs.Laws.Seams.{solid}
use Rattle.paper.specs.Laws.Says.{Says, says_as, says_always, says_never, says_and, says_and₃, says_and₄, says_or, says_not, says_le, says_eq, anyb, says_any, allb, says_all, pairsb, emptyb, says_empty, listb, says_list}

-- ---- equality

unfoldable pub nodeb : Node → Node → Bool
nodeb p q = eqb p.x q.x && eqb p.y q.y

pub node_says : (p q : Node) → Says (nodeb p q) (p ≡ q)
unfolding nodeb
node_says p q =
    says_as (λ h i. record { x = h.0 i; y = h.1 i }) (λ e. (ap (λ p. p.x) e, ap (λ p. p.y) e)) (says_and (says_eq _ _) (says_eq _ _))

unfoldable pub rectb : Rect → Rect → Bool
rectb r q = eqb r.x0 q.x0 && eqb r.y0 q.y0 && eqb r.x1 q.x1 && eqb r.y1 q.y1

pub rect_says : (r q : Rect) → Says (rectb r q) (r ≡ q)
unfolding rectb
rect_says r q =
    says_as (λ h i. record { x0 = h.0 i; y0 = h.1 i; x1 = h.2 i; y1 = h.3 i })
    (λ e. (ap (λ r. r.x0) e, ap (λ r. r.y0) e, ap (λ r. r.x1) e, ap (λ r. r.y1) e))
    (says_and₄ (says_eq _ _) (says_eq _ _) (says_eq _ _) (says_eq _ _))

unfoldable pub sizeb : Size → Size → Bool
sizeb s z = eqb s.w z.w && eqb s.h z.h && eqb s.clearance z.clearance

pub size_says : (s z : Size) → Says (sizeb s z) (s ≡ z)
unfolding sizeb
size_says s z =
    says_as (λ h i. record { w = h.0 i; h = h.1 i; clearance = h.2 i })
    (λ e. (ap (λ s. s.w) e, ap (λ s. s.h) e, ap (λ s. s.clearance) e))
    (says_and₃ (says_eq _ _) (says_eq _ _) (says_eq _ _))

unfoldable pub thingb : Thing → Thing → Bool
unfolding rectb nodeb listb
thingb (keep_out i r) (keep_out j q) = eqb i j && rectb r q
thingb (keep_out i r) (wire j qs) = false
thingb (wire i ps) (keep_out j q) = false
thingb (wire i ps) (wire j qs) = eqb i j && listb nodeb ps qs

pub thing_says : (t u : Thing) → Says (thingb t u) (t ≡ u)
unfolding thingb
thing_says (keep_out i r) (keep_out j q) =
    says_as (λ h k. keep_out (h.0 k) (h.1 k)) (λ e. ((cc), (cc))) (says_and (says_eq i j) (rect_says r q))
thing_says (keep_out i r) (wire j qs) = says_never (λ e. let z : ◌≡◌ {A = ℕ} 0 1 = cc in omega arith)
thing_says (wire i ps) (keep_out j q) = says_never (λ e. let z : ◌≡◌ {A = ℕ} 0 1 = cc in omega arith)
thing_says (wire i ps) (wire j qs) =
    says_as (λ h k. wire (h.0 k) (h.1 k)) (λ e. ((cc), (cc))) (says_and (says_eq i j) (says_list node_says ps qs))

-- ---- the grid

unfoldable pub meetsb : Span → ℕ → ℕ → Bool
meetsb s a b = ltb s.lo (b + s.c) && ltb a (s.hi + s.c)

pub meets_says : (s : Span) (a b : ℕ) → Says (meetsb s a b) (Meets s a b)
unfolding meetsb Meets
meets_says s a b = says_and (says_le _ _) (says_le _ _)

unfoldable pub hitsb : Block → Area → Bool
unfolding meetsb
hitsb b a = meetsb b.along_x a.low.x a.high.x && meetsb b.along_y a.low.y a.high.y

pub hits_says : (b : Block) (a : Area) → Says (hitsb b a) (Hits b a)
unfolding hitsb Hits
hits_says b a = says_and (meets_says _ _ _) (meets_says _ _ _)

unfoldable pub blockedb : List Block → Area → Bool
unfolding hitsb anyb
blockedb bs a = anyb (λ b. hitsb b a) bs

pub blocked_says : (bs : List Block) (a : Area) → Says (blockedb bs a) (Blocked bs a)
unfolding blockedb Blocked
blocked_says bs a = says_any (λ b. hits_says b a) bs

-- the cells lie in keep-outs
unfoldable pub coversb : Thing → Node → Bool
coversb (keep_out i r) q = (ltb r.x0 q.x && leb q.x r.x1) && (ltb r.y0 q.y && leb q.y r.y1)
coversb (wire i ps) q = false

pub covers_says : (t : Thing) (q : Node) → Says (coversb t q) (Covers t q)
unfolding coversb Covers
covers_says (keep_out i r) q = says_and (says_and (says_le _ _) (says_le _ _)) (says_and (says_le _ _) (says_le _ _))
covers_says (wire i ps) q = says_never (λ h. h)

unfoldable pub sealedb : List Thing → List Node → Bool
unfolding coversb anyb allb
sealedb ts qs = allb (λ q. anyb (λ t. coversb t q) ts) qs

pub sealed_says : (ts : List Thing) (qs : List Node) → Says (sealedb ts qs) (Sealed ts qs)
unfolding sealedb Sealed Covered
sealed_says ts qs = says_all (λ q. says_any (λ t. covers_says t q) ts) qs

module _ (w h : ℕ) (bs : List Block) where
  unfoldable pub edgeb : Axis → Node → Bool
  unfolding blockedb
  edgeb level p = ltb p.x w && leb p.y h && not (blockedb bs (edge level p))
  edgeb upright p = leb p.x w && ltb p.y h && not (blockedb bs (edge upright p))

  pub edge_says : (a : Axis) (p : Node) → Says (edgeb a p) (Edge (grid_with w h bs) a p)
  unfolding edgeb Edge
  edge_says level p = says_and₃ (says_le _ _) (says_le _ _) (says_not (blocked_says bs (edge level p)))
  edge_says upright p = says_and₃ (says_le _ _) (says_le _ _) (says_not (blocked_says bs (edge upright p)))

  unfoldable pub freeb : Node → Dir → Bool
  unfolding edgeb step
  freeb p E = edgeb level p
  freeb p N = edgeb upright p
  freeb p W = ltb 0 p.x && edgeb level (step W p)
  freeb p S = ltb 0 p.y && edgeb upright (step S p)

  unfoldable pub legalb : Node → Node → List Dir → Bool
  unfolding nodeb freeb
  legalb s t [] = nodeb s t
  legalb s t (d ∷ v) = freeb s d && legalb (step d s) t v

-- ---- one item

unfoldable pub rect_fitsb : Size → Rect → Bool
rect_fitsb s r = ltb r.x0 r.x1 && leb r.x1 s.w && ltb r.y0 r.y1 && leb r.y1 s.h

pub rect_fits_says : (s : Size) (r : Rect) → Says (rect_fitsb s r) (RectFits s r)
unfolding rect_fitsb
rect_fits_says s r = says_and₄ (says_le _ _) (says_le _ _) (says_le _ _) (says_le _ _)

unfoldable pub on_boardb : Size → Node → Bool
on_boardb s p = leb p.x s.w && leb p.y s.h

pub on_board_says : (s : Size) (p : Node) → Says (on_boardb s p) (OnBoard s p)
unfolding on_boardb
on_board_says s p = says_and (says_le _ _) (says_le _ _)

unfoldable pub alongb : Axis → Area → Bool
alongb level r = eqb r.low.y r.high.y && ltb r.low.x r.high.x
alongb upright r = eqb r.low.x r.high.x && ltb r.low.y r.high.y

pub along_says : (a : Axis) (r : Area) → Says (alongb a r) (Along a r)
unfolding alongb Along
along_says level r = says_and (says_eq _ _) (says_le _ _)
along_says upright r = says_and (says_eq _ _) (says_le _ _)

unfoldable pub turningb : Axis → List Area → Bool
unfolding alongb
turningb a [] = true
turningb a (r ∷ rs) = alongb a r && turningb (across a) rs

pub turning_says : (a : Axis) (rs : List Area) → Says (turningb a rs) (Turning a rs)
unfolding turningb Turning
turning_says a [] = says_always tt
turning_says a (r ∷ rs) = says_and (along_says a r) (turning_says (across a) rs)

unfoldable pub ends_differb : List Node → Bool
unfolding nodeb last_of
ends_differb [] = false
ends_differb (p ∷ ps) = not (nodeb p (last_of p ps))

pub ends_differ_says : (ps : List Node) → Says (ends_differb ps) (EndsDiffer ps)
unfolding ends_differb EndsDiffer
ends_differ_says [] = says_never (λ h. h)
ends_differ_says (p ∷ ps) = says_not (node_says p (last_of p ps))

unfoldable pub wire_fitsb : Size → List Node → Bool
unfolding ends_differb turningb on_boardb allb runs
wire_fitsb s ps =
    ends_differb ps && leb 1 (length (runs ps)) && leb (length (runs ps)) most_runs
    && ((turningb level (runs ps) || turningb upright (runs ps)) && allb (on_boardb s) ps)

pub wire_fits_says : (s : Size) (ps : List Node) → Says (wire_fitsb s ps) (WireFits s ps)
unfolding wire_fitsb
wire_fits_says s ps =
    says_as (λ h. record { ends = h.0; some = h.1; few = h.2; turning = h.3.0; on = h.3.1 })
    (λ f. (f.ends, f.some, f.few, (f.turning, f.on)))
    (says_and₄ (ends_differ_says ps) (says_le _ _) (says_le _ _)
    (says_and (says_or (turning_says level _) (turning_says upright _)) (says_all (on_board_says s) ps)))

unfoldable pub thing_fitsb : Size → Thing → Bool
unfolding rect_fitsb wire_fitsb
thing_fitsb s (keep_out i r) = leb 1 i && rect_fitsb s r
thing_fitsb s (wire i ps) = leb 1 i && wire_fitsb s ps

pub thing_fits_says : (s : Size) (t : Thing) → Says (thing_fitsb s t) (ThingFits s t)
unfolding thing_fitsb ThingFits
thing_fits_says s (keep_out i r) = says_and (says_le _ _) (rect_fits_says s r)
thing_fits_says s (wire i ps) = says_and (says_le _ _) (wire_fits_says s ps)

-- ---- several items

unfoldable pub meetb : ℕ → Thing → Thing → Bool
unfolding blockedb anyb areas runs blocks_of
meetb c t u = anyb (blockedb (blocks_of c (sort_of u) t)) (areas u)

pub meet_says : (c : ℕ) (t u : Thing) → Says (meetb c t u) (Meet c t u)
unfolding meetb Meet
meet_says c t u = says_any (blocked_says (blocks_of c (sort_of u) t)) (areas u)

-- whether a wire goes along a seam: by the keep-outs and their rectangles, as blocks
unfoldable pub barredb : List Thing → Thing → Bool
unfolding blockedb anyb areas runs joins solid
barredb ts (keep_out i r) = false
barredb ts (wire i ps) = anyb (blockedb (joined (solid ts))) (areas (wire i ps))

unfoldable pub items_fitb : Size → List Thing → Bool
unfolding pairsb allb thing_fitsb meetb block_count barredb
items_fitb s ts =
    pairsb (λ t u. ltb (id_of t) (id_of u)) ts && allb (thing_fitsb s) ts
    && pairsb (λ t u. not (meetb s.clearance t u)) ts && (leb (block_count ts) most_blocks && allb (λ t. not (barredb ts t)) ts)

-- ---- the kept changes

unfoldable pub hasb : List Thing → Thing → Bool
unfolding thingb anyb
hasb ts t = anyb (λ u. thingb u t) ts

pub has_says : (ts : List Thing) (t : Thing) → Says (hasb ts t) (Has ts t)
unfolding hasb
has_says ts t = says_any (λ u. thing_says u t) ts

unfoldable pub usedb : List Thing → ℕ → Bool
unfolding anyb
usedb ts i = anyb (λ u. eqb (id_of u) i) ts

pub used_says : (ts : List Thing) (i : ℕ) → Says (usedb ts i) (Used ts i)
unfolding usedb
used_says ts i = says_any (λ u. says_eq (id_of u) i) ts

unfoldable pub can_undob : Turn → List Thing → Bool
unfolding hasb usedb
can_undob (added t) ts = hasb ts t
can_undob (taken t) ts = not (usedb ts (id_of t))

pub can_undo_says : (c : Turn) (ts : List Thing) → Says (can_undob c ts) (CanUndo c ts)
unfolding can_undob CanUndo
can_undo_says (added t) ts = has_says ts t
can_undo_says (taken t) ts = says_not (used_says ts (id_of t))

unfoldable pub undoesb : Size → List Thing → List Turn → Bool
unfolding can_undob items_fitb add without undo
undoesb s ts [] = true
undoesb s ts (c ∷ cs) = let us = undo c ts in can_undob c ts && items_fitb s us && undoesb s us cs

-- ---- the board

unfoldable pub in_rangeb : Size → Bool
in_rangeb s =
    (leb 1 s.w && leb s.w most_side) && (leb 1 s.h && leb s.h most_side)
    && (leb 1 s.clearance && leb s.clearance most_clearance)

pub in_range_says : (s : Size) → Says (in_rangeb s) (InRange s)
unfolding in_rangeb
in_range_says s =
    says_and₃ (says_and (says_le _ _) (says_le _ _)) (says_and (says_le _ _) (says_le _ _)) (says_and (says_le _ _) (says_le _ _))

unfoldable pub laidb : Layout → Bool
unfolding in_rangeb items_fitb undoesb
laidb l =
    in_rangeb l.size && items_fitb l.size l.items && leb (length l.kept) most_kept && undoesb l.size l.items l.kept

unfoldable pub freshb : Layout → Bool
unfolding sizeb emptyb
freshb l = sizeb l.size no_bounds && emptyb l.items && emptyb l.kept

pub fresh_says : (l : Layout) → Says (freshb l) (l ≡ fresh)
unfolding freshb
fresh_says l =
    says_as (λ h i. record { size = h.0 i; items = h.1 i; kept = h.2 i })
    (λ e. (ap (λ l. l.size) e, ap (λ l. l.items) e, ap (λ l. l.kept) e))
    (says_and₃ (size_says _ _) (says_empty _) (says_empty _))

unfoldable pub soundb : Layout → Bool
unfolding freshb laidb
soundb l = freshb l || laidb l
