-- The latest change of a board that stands, and when it can be undone.
-- Assumes nothing.
use Rattle.std.specs.Prelude.{ℕ, zero, suc, ◌-◌, ◌≤◌, ◌<◌, ◌≡◌, Bool, List, [], ◌∷◌, length}
use Rattle.std.proofs.Common.{arith, ◌∙◌, inl, inr}
use Rattle.std.proofs.Math.Path.{sym, ap, subst}
use Rattle.std.proofs.Math.Bool.{false}
use Rattle.std.proofs.Math.ListN.{get_or}
use Rattle.paper.specs.declared.Item.{Item}
use Rattle.paper.specs.declared.Change.{Change}
use Rattle.paper.specs.declared.Board.{Board}
use Rattle.paper.specs.Grid.{Any, All, Pairs}
use Rattle.paper.specs.Layout.{Thing, id_of, Below, ItemsApart, Turn, Has, Used, undo, CanUndo}
use Rattle.paper.specs.Padding.{item_of, change_of}
use Rattle.paper.specs.Laws.Lists.{all_has, any_imp}
use Rattle.paper.specs.Laws.Back.{thing_of, turn_of, layout_of, ReadsBack, TurnsBack}
use Rattle.paper.specs.Laws.Filled.{all_at}
use Rattle.paper.proofs.Next.{apart_without}
use Rattle.paper.specs.Laws.Says.{Says, says_as, says_never}
use Rattle.paper.specs.Laws.Standing.{Standing, kept_is, thing_at, no_thing, thing_id, item_at}
use Rattle.items.specs.Items.{Whole}
use Rattle.items.specs.Laws.Found.{has_at, used_at}
use Rattle.items.specs.Laws.Changes.{latest}
use Rattle.items.specs.Laws.Accepted.{some_latest}
use Rattle.soundness.specs.Joining.{Joins}
use Rattle.soundness.specs.Undoing.{GoesBack}
use Rattle.soundness.specs.Laws.Whole.{turn_taken, turn_added, change_whole}
use Rattle.soundness.specs.Laws.Joined.{joins_said}

-- ---- which it is

module _ (b : Board) (st : Standing b) (d : Change) where
  pub latest_turn : (c : Turn) (cs : List Turn) → (layout_of b).kept ≡ c ∷ cs → c ≡ turn_of (get_or b.changes (b.kept - 1) d)
  unfolding All
  latest_turn c cs e = sym (subst (All TurnsBack) e st.kept_back).0 ∙ ap turn_of (sym (latest b st c cs e d))

  pub latest_whole : 1 ≤ b.kept → Whole (get_or b.changes (b.kept - 1) d).item
  latest_whole some =
      let k = some_latest (layout_of b).kept (omega (arith, kept_is b st)) in
      change_whole (get_or b.changes (b.kept - 1) d) (latest b st k.0 k.1 k.2 d ∙ ap change_of (latest_turn k.0 k.1 k.2))

-- ---- an item, by its id

has_used : (ts : List Thing) (t : Thing) → Has ts t → Used ts (id_of t)
has_used ts t h = any_imp _ _ (λ u e. ap id_of e) ts h

-- ids rise, so that one item at most has the id
has_there : (ts : List Thing) (k : ℕ) (t : Thing) → Pairs Below ts → k < length ts → id_of (thing_at ts k) ≡ id_of t → Has ts t → thing_at ts k ≡ t
unfolding Any Pairs
has_there [] k t p h e q = absurd (omega arith)
has_there (u ∷ us) zero t p h e (inl q) = q
has_there (u ∷ us) zero t p h e (inr q) = absurd (omega (arith, all_has (Below u) us t p.0 q))
has_there (u ∷ us) (suc k) t p h e (inl q) = absurd (omega (arith, all_at (Below u) no_thing us k (omega arith) p.0, ap id_of q))
has_there (u ∷ us) (suc k) t p h e (inr q) = has_there us k t p.1 (omega arith) e q

-- ---- when it can be undone: by its kind, and by what has its id

module _ (b : Board) (st : Standing b) (f : ItemsApart b.size (layout_of b).items) (h : Change)
    (last : (c : Turn) (cs : List Turn) → (layout_of b).kept ≡ c ∷ cs → c ≡ turn_of h) where
  -- what is said of the turn that is read from h
  abbrev Back : Turn → Type 0
  Back c = CanUndo c (layout_of b).items × ItemsApart b.size (undo c (layout_of b).items)

  goes : (r : Bool) (t : Turn) → turn_of h ≡ t → Says r (Back t) → GoesBack (layout_of b) r
  unfolding GoesBack layout_of
  goes r t e s c cs q = subst (λ c. Says r (Back c)) (sym (last c cs q ∙ e)) s

  -- taken, and its id in use
  pub taken_used : (k : ℕ) → h.kind ≡ 5 → k < length (layout_of b).items → id_of (thing_at (layout_of b).items k) ≡ h.item.id
      → GoesBack (layout_of b) false
  unfolding CanUndo
  taken_used k e l i =
      goes false _ (turn_taken h e) (says_never
      (λ p. p.0 (subst (Used (layout_of b).items) (i ∙ sym (thing_id h.item)) (used_at (layout_of b).items k l))))

  -- taken, and its id free
  pub taken_free : (r : Bool) → h.kind ≡ 5 → ¬ (Used (layout_of b).items h.item.id)
      → Says r (Joins b.size (layout_of b).items (thing_of h.item)) → GoesBack (layout_of b) r
  unfolding CanUndo undo
  taken_free r e n s =
      let t = thing_of h.item in
      let u : ¬ (Used (layout_of b).items (id_of t)) = rw (thing_id h.item) n in
      goes r _ (turn_taken h e) (says_as (λ p. (u, p)) (λ p. p.1) (joins_said b.size t (layout_of b).items r f u s))

  -- added, and nothing has its id
  pub added_free : ¬ (h.kind ≡ 5) → ¬ (Used (layout_of b).items h.item.id) → GoesBack (layout_of b) false
  unfolding CanUndo
  added_free e n =
      goes false _ (turn_added h e) (says_never (λ p. n (rw (thing_id h.item) at (has_used (layout_of b).items (thing_of h.item) p.0))))

  -- added, and the item at k has its id
  pub added_used : (r : Bool) (k : ℕ) (d : Item) → ¬ (h.kind ≡ 5) → Whole h.item → k < length (layout_of b).items
      → id_of (thing_at (layout_of b).items k) ≡ h.item.id → Says r (get_or b.items k d ≡ h.item) → GoesBack (layout_of b) r
  unfolding CanUndo undo
  added_used r k d e w l i s =
      let t = thing_of h.item in
      let us = (layout_of b).items in
      let there : get_or b.items k d ≡ item_of (thing_at us k) = item_at b st k d l in
      let back : thing_of (item_of (thing_at us k)) ≡ thing_at us k = all_at ReadsBack no_thing us k l st.items_back in
      goes r _ (turn_added h e)
      (says_as
      (λ q. (subst (Has us) (sym back ∙ ap thing_of (sym there ∙ q)) (has_at us k l), apart_without b.size (id_of t) us f))
      (λ p. there ∙ ap item_of (has_there us k t f.rising l (i ∙ sym (thing_id h.item)) p.0) ∙ sym w)
      s)
