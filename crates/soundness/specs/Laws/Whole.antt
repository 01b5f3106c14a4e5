-- An item has nothing in unused places just if its numbers from the last corner on are zeros.
-- Assumes nothing.
use Rattle.std.specs.Prelude.{◌⊎◌, ℕ, ◌+◌, ◌-◌, ◌≤◌, ◌≡◌, refl, Bool, List, [], ◌∷◌, map, get_or}
use native.Mathlib.Omega.{arith}
use Rattle.std.proofs.Math.Path.{sym, ap}
use Rattle.std.proofs.Common.{◌∙◌, inl, inr, eq-eqb, ne_eqb}
use Rattle.std.proofs.Math.Bool.{cond}
use Rattle.std.proofs.Math.Logic.{⊎_elim}
use Rattle.std.proofs.Math.ListN.{length, take, length-take}
use Rattle.std.proofs.Math.Seq.{length-take-le}
use Rattle.paper.specs.declared.Item.{Item}
use Rattle.paper.specs.declared.Change.{Change}
use Rattle.paper.specs.Limits.{most_corners}
use Rattle.paper.specs.Layout.{keep_out, wire, added, taken}
use Rattle.paper.specs.Padding.{filled, item_of, change_of}
use Rattle.paper.specs.Laws.Back.{nodes, length_nodes, thing_of, turn_of}
use Rattle.paper.specs.Laws.Among.{lt_cases, eq_cases}
use Rattle.paper.specs.Laws.Says.{Says, says_as}
use Rattle.items.specs.Items.{Whole, WholeChange, kind_for}
use Rattle.soundness.specs.Shape.{ZeroFrom}
use Rattle.items.specs.Laws.Changes.{kind_is}
use Rattle.shapes.specs.Corners.{corners_of}
use Rattle.soundness.specs.Fitting.{rect_of}
use Rattle.soundness.specs.Laws.Places.{zeros_filled, filled_zeros}

-- ---- corners

nodes_xs : (us bs : List ℕ) → length us ≡ length bs → map (λ p. p.x) (nodes us bs) ≡ us
unfolding nodes
nodes_xs [] bs e = refl
nodes_xs (a ∷ us) [] e = absurd (omega arith)
nodes_xs (a ∷ us) (b ∷ bs) e = ap (λ l. a ∷ l) (nodes_xs us bs (omega arith))

nodes_ys : (us bs : List ℕ) → length us ≡ length bs → map (λ p. p.y) (nodes us bs) ≡ bs
unfolding nodes
nodes_ys [] [] e = refl
nodes_ys [] (b ∷ bs) e = absurd (omega arith)
nodes_ys (a ∷ us) [] e = absurd (omega arith)
nodes_ys (a ∷ us) (b ∷ bs) e = ap (λ l. b ∷ l) (nodes_ys us bs (omega arith))

first_two : (xs : List ℕ) → 2 ≤ length xs → take 2 xs ≡ get_or xs 0 0 ∷ get_or xs 1 0 ∷ []
first_two [] h = absurd (omega arith)
first_two (x ∷ []) h = absurd (omega arith)
first_two (x ∷ y ∷ xs) h = refl

-- ---- what is read back, by the runs

pub thing_keep_out : (m : Item) → m.runs ≡ 0 → thing_of m ≡ keep_out m.id (rect_of m)
unfolding thing_of
thing_keep_out m e = ap (λ b. cond b (keep_out m.id (rect_of m)) (wire m.id (corners_of m (m.runs + 1)))) (eq-eqb m.runs 0 e)

pub thing_wire : (m : Item) → 1 ≤ m.runs → thing_of m ≡ wire m.id (corners_of m (m.runs + 1))
unfolding thing_of
thing_wire m h =
    ap (λ b. cond b (keep_out m.id (rect_of m)) (wire m.id (corners_of m (m.runs + 1)))) (ne_eqb m.runs 0 (λ e. omega arith))

-- ---- an item, by how many corners it uses

abbrev up_to : ℕ → List ℕ → List ℕ
up_to k xs = filled 0 most_corners (take k xs)

abbrev cleared : ℕ → Item → Item
cleared k m = record { id = m.id; runs = m.runs; xs = up_to k m.xs; ys = up_to k m.ys }

module _ (m : Item) (lx : length m.xs ≡ most_corners) (ly : length m.ys ≡ most_corners) where
  whole_said : (k : ℕ) (r : Bool) → k ≤ most_corners → item_of (thing_of m) ≡ cleared k m → Says r (ZeroFrom k m.xs × ZeroFrom k m.ys)
      → Says r (Whole m)
  whole_said k r h e =
      says_as
      (λ z. (λ i. record {
        id = m.id;
        runs = m.runs;
        xs = zeros_filled m.xs k most_corners lx h z.0 i;
        ys = zeros_filled m.ys k most_corners ly h z.1 i;
      }) ∙ sym e)
      (λ w. let q : m ≡ cleared k m = w ∙ e in
      (filled_zeros m.xs k most_corners lx h (ap (λ m. m.xs) q), filled_zeros m.ys k most_corners ly h (ap (λ m. m.ys) q)))

  pub whole_keep_out : (r : Bool) → m.runs ≡ 0 → Says r (ZeroFrom 2 m.xs × ZeroFrom 2 m.ys) → Says r (Whole m)
  whole_keep_out r e = whole_said 2 r (omega arith) (ap item_of (thing_keep_out m e) ∙ (unfold item_of in λ i. record {
    id = m.id;
    runs = sym e i;
    xs = filled 0 most_corners (sym (first_two m.xs (omega arith)) i);
    ys = filled 0 most_corners (sym (first_two m.ys (omega arith)) i);
  }))

  same_long : (k : ℕ) → length (take k m.xs) ≡ length (take k m.ys)
  same_long k = length-take k m.xs ∙ rw (lx, ly) refl ∙ sym (length-take k m.ys)

  wire_cleared : 1 ≤ m.runs → m.runs + 1 ≤ most_corners → item_of (wire m.id (corners_of m (m.runs + 1))) ≡ cleared (m.runs + 1) m
  unfolding item_of
  wire_cleared h few =
      let us = take (m.runs + 1) m.xs in
      let vs = take (m.runs + 1) m.ys in
      let s = same_long (m.runs + 1) in
      let n : length (nodes us vs) - 1 ≡ m.runs = omega (arith, length_nodes us vs s, length-take-le (m.runs + 1) m.xs (omega arith)) in
      λ i. record { id = m.id; runs = n i; xs = filled 0 most_corners (nodes_xs us vs s i); ys = filled 0 most_corners (nodes_ys us vs s i) }

  pub whole_wire : (r : Bool) → 1 ≤ m.runs → m.runs + 1 ≤ most_corners
      → Says r (ZeroFrom (m.runs + 1) m.xs × ZeroFrom (m.runs + 1) m.ys) → Says r (Whole m)
  whole_wire r h few = whole_said (m.runs + 1) r few (ap item_of (thing_wire m h) ∙ wire_cleared h few)

  -- a wire with more runs is read back with fewer corners than it says
  pub whole_few : Whole m → m.runs + 1 ≤ most_corners
  whole_few w = ⊎_elim (λ z. omega (arith, z.0)) (λ z. some (omega (arith, z.0))) (lt_cases m.runs 1)
    where
      some : 1 ≤ m.runs → m.runs + 1 ≤ most_corners
      some h =
          let e : m.runs ≡ length (nodes (take (m.runs + 1) m.xs) (take (m.runs + 1) m.ys)) - 1
          = ap (λ m. m.runs) (w ∙ ap item_of (thing_wire m h)) ∙ (unfold item_of in refl) in
          omega (
            arith,
            length_nodes (take (m.runs + 1) m.xs) (take (m.runs + 1) m.ys) (same_long (m.runs + 1)),
            length-take (m.runs + 1) m.xs,
          )

-- ---- changes

module _ (c : Change) where
  pub turn_taken : c.kind ≡ 5 → turn_of c ≡ taken (thing_of c.item)
  unfolding turn_of
  turn_taken e = ap (λ b. cond b (taken (thing_of c.item)) (added (thing_of c.item))) (eq-eqb c.kind 5 e)

  pub turn_added : ¬ (c.kind ≡ 5) → turn_of c ≡ added (thing_of c.item)
  unfolding turn_of
  turn_added n = ap (λ b. cond b (taken (thing_of c.item)) (added (thing_of c.item))) (ne_eqb c.kind 5 n)

  change_taken : c.kind ≡ 5 → Whole c.item → WholeChange c
  unfolding change_of
  change_taken e w = (λ i. record { kind = e i; item = w i }) ∙ sym (ap change_of (turn_taken e))

  change_added : ¬ (c.kind ≡ 5) → c.kind ≡ kind_for c.item.runs → Whole c.item → WholeChange c
  unfolding change_of
  change_added n e w = (λ i. record { kind = (e ∙ sym (kind_is c.item)) i; item = w i }) ∙ sym (ap change_of (turn_added n))

  added_alone : ¬ (c.kind ≡ 5) → WholeChange c → c.kind ≡ kind_for c.item.runs
  unfolding change_of
  added_alone n w = ap (λ c. c.kind) (w ∙ ap change_of (turn_added n)) ∙ kind_is c.item

  pub change_whole : WholeChange c → Whole c.item
  unfolding change_of
  change_whole w =
      ⊎_elim (λ e. ap (λ c. c.item) (w ∙ ap change_of (turn_taken e.0))) (λ e. ap (λ c. c.item) (w ∙ ap change_of (turn_added e.0)))
      (eq_cases c.kind 5)

  -- it is of one of the two kinds, and its item is whole
  pub change_said : {r : Bool} → Says r (((c.kind ≡ 5) ⊎ (c.kind ≡ kind_for c.item.runs)) × Whole c.item) → Says r (WholeChange c)
  change_said =
      says_as
      (λ p. ⊎_elim (λ e. change_taken e.0 p.1) (λ n. change_added n.0 (⊎_elim (λ e. absurd (n.0 e)) (λ e. e) p.0) p.1) (eq_cases c.kind 5))
      (λ w. (⊎_elim (λ e. inl e.0) (λ n. inr (added_alone n.0 w)) (eq_cases c.kind 5), change_whole w))
