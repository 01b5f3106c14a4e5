-- Undoing in turn: what is to be undone on the board at hand is what is left of it.
-- Assumes nothing.
use Rattle.std.specs.Prelude.{◌≤◌, ◌<◌, ◌≡◌, refl, Bool, true, false, ◌↔◌, List, [], ◌∷◌}
use Rattle.std.proofs.Common.{arith, sym, ◌∙◌}
use Rattle.std.proofs.Math.Path.{ap, subst}
use Rattle.std.proofs.Math.ListN.{length}
use Rattle.paper.specs.declared.Size.{Size}
use Rattle.paper.specs.declared.Board.{Board}
use Rattle.paper.specs.Limits.{most_blocks, most_kept}
use Rattle.paper.specs.Grid.{All}
use Rattle.paper.specs.Layout.{Seamless, Thing, ItemsApart, ItemsFit, Turn, undo, CanUndo, Undoes, Layout}
use Rattle.paper.specs.Padding.{board_of}
use Rattle.paper.specs.Laws.Lists.{all_imp}
use Rattle.paper.specs.Laws.Back.{layout_of, ReadsBack, TurnsBack, thing_back, board_back}
use Rattle.paper.specs.Laws.Shape.{items_few}
use Rattle.paper.specs.Laws.Says.{Says, says_always, says_never, said, said_not}
use Rattle.paper.specs.Laws.Standing.{Standing, standing, kept_is}
use Rattle.items.specs.Items.{Undone}
use Rattle.items.specs.Laws.Accepted.{some_latest}
use Rattle.soundness.specs.Undoing.{GoesBack}

-- the changes of the board can be undone in turn
abbrev pub InTurn : Board → Type 0
InTurn b = Undoes b.size (layout_of b).items (layout_of b).kept

-- on the board b some of the changes of a are left: they can be undone in turn just if all of those of a can
pub record Left (a b : Board) : Type 0 where
  pub stands : Standing b
  pub fits : ItemsFit b.size (layout_of b).items
  pub same : InTurn a ↔ InTurn b

pub left_all : (a : Board) → Standing a → ItemsFit a.size (layout_of a).items → Left a a
left_all a s f = record { stands = s; fits = f; same = (λ u. u, λ u. u) }

undoes_none : (s : Size) (ts : List Thing) (cs : List Turn) → length cs ≤ 0 → Undoes s ts cs
unfolding Undoes
undoes_none s ts [] h = tt
undoes_none s ts (c ∷ cs) h = absurd (omega arith)

module _ (a b : Board) (p : Left a b) where
  some_kept : 0 < b.kept → 1 ≤ length (layout_of b).kept
  some_kept h = omega (arith, kept_is b p.stands)

  pub left_none : b.kept ≤ 0 → Says true (InTurn a)
  left_none h = says_always (p.same.1 (undoes_none b.size (layout_of b).items (layout_of b).kept (omega (arith, kept_is b p.stands))))

  module _ (r : Bool) (some : 0 < b.kept) (g : GoesBack (layout_of b) r) where
    pub left_stop : r ≡ false → Says false (InTurn a)
    unfolding GoesBack layout_of Undoes
    left_stop e =
        let k = some_latest (layout_of b).kept (some_kept some) in
        says_never (λ u. let v : Undoes b.size (layout_of b).items (k.0 ∷ k.1)
        = subst (Undoes b.size (layout_of b).items) k.2 (p.same.0 u) in
        said_not (g k.0 k.1 k.2) e (v.0, v.1.two))

    module _ (e : r ≡ true) (c : Turn) (cs : List Turn) (q : (layout_of b).kept ≡ c ∷ cs) where
      back : CanUndo c (layout_of b).items × ItemsApart b.size (undo c (layout_of b).items)
      unfolding GoesBack layout_of
      back = said (g c cs q) e

      next : Layout
      next = record { size = b.size; items = undo c (layout_of b).items; kept = cs }

      pub left_room : length (undo c (layout_of b).items) ≤ most_blocks
      left_room = omega (arith, items_few b.size (undo c (layout_of b).items) back.1.each, back.1.blocks_few)

      reads : All ReadsBack (undo c (layout_of b).items)
      reads = all_imp _ ReadsBack (thing_back b.size) (undo c (layout_of b).items) back.1.each

      turns : All TurnsBack cs
      unfolding All
      turns = (subst (All TurnsBack) q p.stands.kept_back).1

      next_is : layout_of (board_of next) ≡ next
      unfolding next
      next_is = board_back next reads turns

      few : length cs ≤ most_kept
      few = omega (arith, p.stands.kept_few, ap length q)

      standing_next : Standing (board_of next)
      unfolding next
      standing_next = standing next left_room few reads turns

      same_next : Seamless (undo c (layout_of b).items) → InTurn a ↔ Undoes b.size (undo c (layout_of b).items) cs
      unfolding Undoes
      same_next z = (
        λ u. (let v : Undoes b.size (layout_of b).items (c ∷ cs) = subst (Undoes b.size (layout_of b).items) q (p.same.0 u) in v.2),
        λ u. p.same.1 (subst (Undoes b.size (layout_of b).items) (sym q) (back.0, record { two = back.1; seamless = z }, u)),
      )

      left_board : Seamless (undo c (layout_of b).items) → Left a (board_of next)
      unfolding next board_of
      left_board z =
          let l = next_is in
          record {
            stands = standing_next;
            fits = rw l (record { two = back.1; seamless = z });
            same = rw l (same_next z);
          }

      apart_board : ItemsApart (board_of next).size (layout_of (board_of next)).items
      unfolding next board_of
      apart_board = let l = next_is in rw l back.1

      seamless_board : Seamless (layout_of (board_of next)).items ↔ Seamless (undo c (layout_of b).items)
      unfolding next
      seamless_board = let l = ap (λ n. n.items) next_is in (λ z. subst Seamless l z, λ z. subst Seamless (sym l) z)

      module _ (d : Board) (x : d ≡ board_of next) where
        items_same : Seamless (layout_of d).items ↔ Seamless (undo c (layout_of b).items)
        items_same = subst (λ d. Seamless (layout_of d).items ↔ Seamless (undo c (layout_of b).items)) (sym x) seamless_board

        apart_here : Standing d × ItemsApart d.size (layout_of d).items
        apart_here = (subst Standing (sym x) standing_next, subst (λ d. ItemsApart d.size (layout_of d).items) (sym x) apart_board)

        seamed_here : ¬ (Seamless (layout_of d).items) → Says false (InTurn a)
        unfolding Undoes
        seamed_here n =
            says_never (λ u. let v : Undoes b.size (layout_of b).items (c ∷ cs) = subst (Undoes b.size (layout_of b).items) q (p.same.0 u) in
            n (items_same.1 v.1.seamless))

        fewer_here : d.kept < b.kept
        unfolding next
        fewer_here =
            let k : d.kept ≡ length cs = ap (λ d. d.kept) x ∙ (unfold board_of in refl) in
            omega (arith, kept_is b p.stands, ap length q)

        next_here : Seamless (layout_of d).items → Left a d
        next_here z = subst (Left a) (sym x) (left_board (items_same.0 z))

    -- the board that is left once the change is undone
    module _ (e : r ≡ true) (d : Board) (u : Undone (layout_of b) d) where
      -- before the wires are looked at
      pub left_apart : Standing d × ItemsApart d.size (layout_of d).items
      unfolding Undone layout_of next
      left_apart = apart_here e u.0 u.1 u.2 d u.3

      pub left_seamed : ¬ (Seamless (layout_of d).items) → Says false (InTurn a)
      unfolding Undone layout_of next
      left_seamed = seamed_here e u.0 u.1 u.2 d u.3

      pub left_fewer : d.kept < b.kept
      unfolding Undone layout_of next
      left_fewer = fewer_here e u.0 u.1 u.2 d u.3

      pub left_next : Seamless (layout_of d).items → Left a d
      unfolding Undone layout_of next
      left_next = next_here e u.0 u.1 u.2 d u.3
