-- The layout read back from a board: what a well-formed board holds, and the only thing it can hold.
-- Assumes nothing.
use Rattle.std.specs.Prelude.{ℕ, suc, ◌+◌, ◌-◌, ◌≡◌, Bool, true, false, cond, List, [], ◌∷◌, map, reverse, length, take, get_or, replicate, ltb, eqb}
use Rattle.std.proofs.Common.{arith, sym, ap, subst, ◌∙◌, inl, inr, take_at}
use Rattle.std.proofs.Math.Path.{refl}
use Rattle.std.proofs.lemmas.List.{reverse-reverse, length-map, length-reverse}
use Rattle.std.proofs.Math.Dec.{eqb-suc-zero}
use Rattle.paper.specs.declared.Size.{Size}
use Rattle.paper.specs.declared.Item.{Item}
use Rattle.paper.specs.declared.Change.{Change}
use Rattle.paper.specs.declared.Board.{Board}
use Rattle.paper.specs.Limits.{most_blocks, most_corners, most_kept}
use Rattle.paper.specs.Grid.{Node, Any, All}
use Rattle.paper.specs.Wire.{runs}
use Rattle.paper.specs.Layout.{Thing, keep_out, wire, id_of, ThingFits, ItemsFit, Turn, added, taken, add, Has, undo, CanUndo, Undoes, Layout, Laid, Sound}
use Rattle.paper.specs.Padding.{filled, item_of, no_item, added_kind, change_of, no_change, board_of, Holds, WellFormed}
use Rattle.paper.specs.Laws.Lists.{all_imp, all_has, all_reverse, map_back}

-- ---- reading back

unfoldable pub nodes : List ℕ → List ℕ → List Node
nodes [] ys = []
nodes (x ∷ xs) [] = []
nodes (x ∷ xs) (y ∷ ys) = record { x = x; y = y } ∷ nodes xs ys

pub length_nodes : (xs ys : List ℕ) → length xs ≡ length ys → length (nodes xs ys) ≡ length xs
unfolding nodes
length_nodes [] ys e = refl
length_nodes (x ∷ xs) [] e = absurd (omega arith)
length_nodes (x ∷ xs) (y ∷ ys) e = ap suc (length_nodes xs ys (omega arith))

unfoldable pub thing_of : Item → Thing
thing_of m =
    cond (eqb m.runs 0)
    (keep_out m.id (record { x0 = get_or m.xs 0 0; y0 = get_or m.ys 0 0; x1 = get_or m.xs 1 0; y1 = get_or m.ys 1 0 }))
    (wire m.id (nodes (take (m.runs + 1) m.xs) (take (m.runs + 1) m.ys)))

unfoldable pub turn_of : Change → Turn
turn_of c = cond (eqb c.kind 5) (taken (thing_of c.item)) (added (thing_of c.item))

unfoldable pub layout_of : Board → Layout
layout_of b = record {
  size = b.size;
  items = map thing_of (take b.count b.items);
  kept = reverse (map turn_of (take b.kept b.changes));
}

pub take_filled : {A B : Type 0} (f : A → B) (z : B) (n : ℕ) (xs : List A) (k : ℕ) → length xs ≡ k → take k (filled z n (map f xs)) ≡ map f xs
take_filled f z n xs k e = take_at (map f xs) (replicate (n - length (map f xs)) z) k (length-map xs f ∙ e)

-- ---- one item, one change

pub length_runs : (p : Node) (ps : List Node) → length (runs (p ∷ ps)) ≡ length ps
unfolding runs
length_runs p [] = refl
length_runs p (q ∷ ps) = ap suc (length_runs q ps)

pub nodes_back : (ps : List Node) → nodes (map (λ p. p.x) ps) (map (λ p. p.y) ps) ≡ ps
unfolding nodes
nodes_back [] = refl
nodes_back (p ∷ ps) = ap (λ l. p ∷ l) (nodes_back ps)

-- a wire with two corners or more
pub wire_back : (i : ℕ) (p q : Node) (ps : List Node) → thing_of (item_of (wire i (p ∷ q ∷ ps))) ≡ wire i (p ∷ q ∷ ps)
unfolding thing_of item_of
wire_back i p q ps =
    let n : length (p ∷ q ∷ ps) - 1 ≡ suc (length ps) = omega arith in
    let m : length (p ∷ q ∷ ps) ≡ suc (length ps) + 1 = omega arith in
    rw (
      n,
      eqb-suc-zero (length ps),
      take_filled (λ (p : Node). p.x) 0 most_corners (p ∷ q ∷ ps) (suc (length ps) + 1) m,
      take_filled (λ (p : Node). p.y) 0 most_corners (p ∷ q ∷ ps) (suc (length ps) + 1) m,
      nodes_back (p ∷ q ∷ ps),
    )

pub thing_back : (s : Size) (t : Thing) → ThingFits s t → thing_of (item_of t) ≡ t
unfolding ThingFits runs
thing_back s (keep_out i r) f = unfold thing_of item_of in refl
thing_back s (wire i []) f = absurd (omega (arith, f.1.some))
thing_back s (wire i (p ∷ [])) f = absurd (omega (arith, f.1.some))
thing_back s (wire i (p ∷ q ∷ ps)) f = wire_back i p q ps

abbrev pub subject : Turn → Thing
subject (added t) = t
subject (taken t) = t

turn_back : (s : Size) (c : Turn) → ThingFits s (subject c) → turn_of (change_of c) ≡ c
unfolding turn_of change_of added_kind
turn_back s (added (keep_out i r)) f = ap added (thing_back s (keep_out i r) f)
turn_back s (added (wire i ps)) f = ap added (thing_back s (wire i ps) f)
turn_back s (taken t) f = ap taken (thing_back s t f)

-- ---- the kept changes of a sound layout fit

pub has_add : (t : Thing) (ts : List Thing) → Has (add t ts) t
unfolding add Any
has_add t [] = inl refl
has_add t (u ∷ us) = go (ltb (id_of u) (id_of t)) (has_add t us)
  where
    go : (b : Bool) → Has (add t us) t → Has (cond b (u ∷ add t us) (t ∷ u ∷ us)) t
    go true h = inr h
    go false h = inl refl

pub turns_fit : (s : Size) (ts : List Thing) (cs : List Turn) → ItemsFit s ts → Undoes s ts cs → All (λ c. ThingFits s (subject c)) cs
unfolding All Undoes
turns_fit s ts [] p h = tt
turns_fit s ts (added t ∷ cs) p h =
    (unfold CanUndo in all_has (ThingFits s) ts t p.two.each h.0, turns_fit s (undo (added t) ts) cs h.1 h.2)
turns_fit s ts (taken t ∷ cs) p h =
    (unfold undo in all_has (ThingFits s) (add t ts) t h.1.two.each (has_add t ts), turns_fit s (undo (taken t) ts) cs h.1 h.2)

-- ---- the whole board

-- an item, a change is read back from the struct as it was
abbrev pub ReadsBack : Thing → Type 0
ReadsBack t = thing_of (item_of t) ≡ t

abbrev pub TurnsBack : Turn → Type 0
TurnsBack c = turn_of (change_of c) ≡ c

-- and so is the layout
pub board_back : (l : Layout) → All ReadsBack l.items → All TurnsBack l.kept → layout_of (board_of l) ≡ l
unfolding layout_of board_of
board_back l p q =
    let is : map thing_of (take (length l.items) (filled no_item most_blocks (map item_of l.items))) ≡ l.items
    = ap (λ ms. map thing_of ms) (take_filled item_of no_item most_blocks l.items (length l.items) refl)
    ∙ map_back ReadsBack item_of thing_of (λ t e. e) l.items p in
    let cs : reverse (map turn_of (take (length l.kept) (filled no_change most_kept (map change_of (reverse l.kept))))) ≡ l.kept
    = ap (λ ms. reverse (map turn_of ms)) (take_filled change_of no_change most_kept (reverse l.kept) (length l.kept) (length-reverse l.kept))
    ∙ ap reverse (map_back TurnsBack change_of turn_of (λ c e. e) (reverse l.kept) (all_reverse TurnsBack l.kept q))
    ∙ reverse-reverse l.kept in
    λ i. record { size = l.size; items = is i; kept = cs i }

pub laid_reads : (l : Layout) → Laid l → All ReadsBack l.items × All TurnsBack l.kept
laid_reads l p = (
  all_imp _ ReadsBack (thing_back l.size) l.items p.fits.two.each,
  all_imp _ TurnsBack (turn_back l.size) l.kept (turns_fit l.size l.items l.kept p.fits p.undoes),
)

sound_back : (l : Layout) → Sound l → layout_of (board_of l) ≡ l
unfolding Sound
sound_back l (inl e) = rw e (unfold layout_of board_of in refl)
sound_back l (inr p) = let h = laid_reads l p in board_back l h.0 h.1

-- what a board holds is what is read back from it
pub held : (b : Board) (l : Layout) → Holds b l → l ≡ layout_of b
held b l h = sym (sound_back l h.sound) ∙ ap layout_of (sym h.same)

-- a board holds at most one layout
pub one_layout : (b : Board) (l m : Layout) → Holds b l → Holds b m → l ≡ m
one_layout b l m p q = held b l p ∙ sym (held b m q)

-- a board is well formed just if it holds what is read back from it
pub well_formed : (b : Board) → WellFormed b → Holds b (layout_of b)
unfolding WellFormed
well_formed b h = subst (λ l. Holds b l) (held b h.0 h.1) h.1
