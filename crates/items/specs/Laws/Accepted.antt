-- The board that an accepted record leaves: an item put in or taken out, and the change kept; or the latest change undone.
-- Assumes nothing.
use Rattle.std.specs.Prelude.{ℕ, ◌≤◌, ◌≡◌, refl, List, [], ◌∷◌, length, take}
use Rattle.std.proofs.Common.{arith, sym, ◌∙◌}
use Rattle.std.proofs.Math.Path.{ap, ap₂, subst}
use Rattle.paper.specs.declared.Item.{Item}
use Rattle.paper.specs.declared.Change.{Change}
use Rattle.paper.specs.declared.Board.{Board}
use Rattle.paper.specs.Limits.{most_kept}
use Rattle.paper.specs.Grid.{All}
use Rattle.paper.specs.Layout.{Thing, id_of, Turn, added, taken, add, without, undo, Layout}
use Rattle.paper.specs.Padding.{item_of, change_of, board_of}
use Rattle.paper.specs.Answer.{changed, add_to, take_from}
use Rattle.paper.specs.Laws.Back.{thing_of, turn_of, layout_of, subject, ReadsBack, TurnsBack}
use Rattle.paper.specs.Laws.Standing.{Standing, item_id}
use Rattle.items.specs.Items.{with_items, with_kept, Whole, WholeChange, kind_for, Room, RoomBack, Undone}
use Rattle.items.specs.Laws.Found.{length_add}
use Rattle.items.specs.Laws.Boards.{stands_add, stands_without, layout_add, layout_without, whole_reads}
use Rattle.items.specs.Laws.Changes.{change, turn_added, whole_added, turn_taken, whole_taken, was_taken, was_added, item_is, turn_reads, stands_kept, layout_kept}

-- the change kept on the board r
abbrev pub kept_on : Board → Turn → Board
kept_on r c = board_of (with_kept (layout_of r) (take most_kept (c ∷ (layout_of r).kept)))

kept_on_lem : (l : Layout) (ts : List Thing) (r : Board) (c d : Turn) → layout_of r ≡ with_items l ts → d ≡ c → kept_on r d ≡ board_of (changed l ts c)
kept_on_lem l ts r c d e f = ap₂ (λ m t. board_of (with_kept m (take most_kept (t ∷ m.kept)))) e f

-- ---- added

module _ (b : Board) (s : Standing b) (m : Item) (w : Whole m) (r : Board)
    (p : r ≡ board_of (with_items (layout_of b) (add (thing_of m) (layout_of b).items))) (k : ℕ) (e : k ≡ kind_for m.runs) where
  pub add_stands : Room (layout_of b) → Standing r × WholeChange (change k m)
  add_stands h = (
    subst Standing (sym p) (stands_add b s (thing_of m) (whole_reads m w) h),
    subst (λ k. WholeChange (change k m)) (sym e) (whole_added m w),
  )

  pub add_kept : kept_on r (turn_of (change k m)) ≡ board_of (add_to (layout_of b) (thing_of m))
  add_kept =
      kept_on_lem (layout_of b) _ r (added (thing_of m)) (turn_of (change k m)) (ap layout_of p ∙ layout_add b s (thing_of m) (whole_reads m w))
      (ap (λ k. turn_of (change k m)) e ∙ turn_added m)

-- ---- taken out

-- whichever was taken out, what is left stands
pub take_stands : (b : Board) → Standing b → (i : ℕ) (r : Board) → r ≡ board_of (with_items (layout_of b) (without i (layout_of b).items)) → Standing r
take_stands b s i r p = subst Standing (sym p) (stands_without b s i)

module _ (t : Thing) (q : ReadsBack t) (m : Item) (i : m ≡ item_of t) where
  thing_is : thing_of m ≡ t
  thing_is = ap thing_of i ∙ q

  pub take_whole : WholeChange (change 5 m)
  take_whole = whole_taken m (i ∙ ap item_of (sym thing_is))

  pub take_kept : (b : Board) → Standing b → (r : Board) → r ≡ board_of (with_items (layout_of b) (without m.id (layout_of b).items))
      → kept_on r (turn_of (change 5 m)) ≡ board_of (take_from (layout_of b) t)
  take_kept b s r p =
      let id_is : m.id ≡ id_of t = ap (λ m. m.id) i ∙ item_id t in
      kept_on_lem (layout_of b) (without (id_of t) (layout_of b).items) r (taken t) (turn_of (change 5 m))
      (ap layout_of p ∙ layout_without b s m.id ∙ ap (λ j. with_items (layout_of b) (without j (layout_of b).items)) id_is) (turn_taken m ∙ ap taken thing_is)

-- ---- undone

-- there is a latest change
pub some_latest : (cs : List Turn) → 1 ≤ length cs → (c : Turn) × (ds : List Turn) × (cs ≡ c ∷ ds)
some_latest [] h = absurd (omega arith)
some_latest (c ∷ ds) h = (c, ds, refl)

module _ (b : Board) (s : Standing b) (c : Turn) (cs : List Turn) (p : (layout_of b).kept ≡ c ∷ cs) (r : Board)
    (q : r ≡ board_of (with_kept (layout_of b) cs)) where
  backs : TurnsBack c × All TurnsBack cs
  unfolding All
  backs = subst (All TurnsBack) p s.kept_back

  pub rest_stands : Standing r
  rest_stands = subst Standing (sym q) (stands_kept b s cs (omega (arith, s.kept_few, ap length p)) backs.1)

  rest_layout : layout_of r ≡ with_kept (layout_of b) cs
  rest_layout = ap layout_of q ∙ layout_kept b s cs backs.1

  -- what was taken comes back
  module _ (m : Change) (i : m ≡ change_of c) where
    subject_is : m.item ≡ item_of (subject c)
    subject_is = ap (λ m. m.item) i ∙ item_is c

    back_is : thing_of m.item ≡ subject c
    back_is = ap thing_of subject_is ∙ turn_reads c backs.0

    taken_is : m.kind ≡ 5 → undo c (layout_of b).items ≡ add (subject c) (layout_of b).items
    unfolding undo
    taken_is k = ap (λ d. undo d (layout_of b).items) (was_taken c (sym (ap (λ m. m.kind) i) ∙ k))

    pub back_asks : m.kind ≡ 5 → RoomBack (layout_of b) → Standing r × Whole m.item × Room (layout_of r)
    back_asks k h = (
      rest_stands,
      subject_is ∙ ap item_of (sym back_is),
      omega (arith, ap (λ l. length l.items) rest_layout, h.room c cs p, ap length (taken_is k), length_add (subject c) (layout_of b).items),
    )

    pub back_in : m.kind ≡ 5 → (u : Board) → u ≡ board_of (with_items (layout_of r) (add (thing_of m.item) (layout_of r).items)) → Undone (layout_of b) u
    unfolding Undone
    back_in k u e = (
      c,
      cs,
      p,
      e ∙ ap₂ (λ l t. board_of (with_items l (add t l.items))) rest_layout back_is
          ∙ ap (λ ts. board_of (record { size = (layout_of b).size; items = ts; kept = cs })) (sym (taken_is k)),
    )

    -- what was added goes
    added_is : ¬ (m.kind ≡ 5) → undo c (layout_of b).items ≡ without m.item.id (layout_of b).items
    unfolding undo
    added_is n =
        ap (λ d. undo d (layout_of b).items) (was_added c (λ k. n (ap (λ m. m.kind) i ∙ k)))
        ∙ ap (λ j. without j (layout_of b).items) (sym (ap (λ m. m.id) subject_is ∙ item_id (subject c)))

    pub out_again : ¬ (m.kind ≡ 5) → (u : Board) → u ≡ board_of (with_items (layout_of r) (without m.item.id (layout_of r).items)) → Undone (layout_of b) u
    unfolding Undone
    out_again n u e = (
      c,
      cs,
      p,
      e ∙ ap (λ l. board_of (with_items l (without m.item.id l.items))) rest_layout
          ∙ ap (λ ts. board_of (record { size = (layout_of b).size; items = ts; kept = cs })) (sym (added_is n)),
    )
