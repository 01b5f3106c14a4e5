-- The board with other kept changes: how the struct holds them, the oldest first.
-- Assumes nothing.
use Rattle.std.specs.Prelude.{ℕ, suc, ◌+◌, ◌-◌, ◌≤◌, ◌<◌, ◌≡◌, refl, Bool, true, false, cond, eqb}
use Rattle.std.proofs.Common.{arith, sym, ap₂, ◌∙◌, take_all, take_at}
use Rattle.std.proofs.Math.Path.{ap}
use mathlib.Core.List.{List, [], ◌∷◌, ◌++◌, map, map-append, reverse, reverse-cons, reverse-append, append-nil}
use lib.ListN.{length, take, drop, set, get_or, replicate, length-append, length-map, length-reverse, length-take, take-append-drop, length-drop, drop_of_length-le}
use Rattle.std.proofs.lemmas.List.{get_or_at}
use Rattle.paper.specs.declared.Item.{Item}
use Rattle.paper.specs.declared.Change.{Change}
use Rattle.paper.specs.declared.Board.{Board}
use Rattle.paper.specs.Limits.{most_kept}
use Rattle.paper.specs.Grid.{All}
use Rattle.paper.specs.Layout.{keep_out, wire, Turn, added, taken}
use Rattle.paper.specs.Padding.{filled, item_of, added_kind, change_of, no_change, board_of}
use Rattle.paper.specs.Laws.Back.{thing_of, turn_of, layout_of, subject, ReadsBack, TurnsBack, board_back}
use Rattle.paper.specs.Laws.Filled.{left_at, filled_left, images_more, image_in}
use Rattle.paper.specs.Laws.Standing.{Standing, standing, kept_is}
use Rattle.items.specs.Items.{with_kept, Whole, WholeChange, pushed, kind_for}

abbrev pub changes_set : Board → ℕ → List Change → Board
changes_set b n cs = record { size = b.size; count = b.count; items = b.items; kept = n; changes = cs }

-- ---- one change

abbrev pub change : ℕ → Item → Change
change k m = record { kind = k; item = m }

pub kind_is : (m : Item) → added_kind (thing_of m) ≡ kind_for m.runs
unfolding thing_of added_kind
kind_is m = go (eqb m.runs 0) _ _ _ _
  where
    go : (b : Bool) (i j : ℕ) (r : _) (ps : _) → added_kind (cond b (keep_out i r) (wire j ps)) ≡ cond b 2 3
    go true i j r ps = refl
    go false i j r ps = refl

-- an added item
pub turn_added : (m : Item) → turn_of (change (kind_for m.runs) m) ≡ added (thing_of m)
unfolding turn_of
turn_added m = go (eqb m.runs 0)
  where
    go : (b : Bool) → cond (eqb (cond b 2 3) 5) (taken (thing_of m)) (added (thing_of m)) ≡ added (thing_of m)
    go true = refl
    go false = refl

pub whole_added : (m : Item) → Whole m → WholeChange (change (kind_for m.runs) m)
unfolding change_of
whole_added m w = ap₂ change (sym (kind_is m)) w ∙ ap change_of (sym (turn_added m))

-- an item taken out
pub turn_taken : (m : Item) → turn_of (change 5 m) ≡ taken (thing_of m)
unfolding turn_of
turn_taken m = refl

pub whole_taken : (m : Item) → Whole m → WholeChange (change 5 m)
unfolding change_of turn_of
whole_taken m w = ap (change 5) w

-- which it was, by its kind
pub was_taken : (c : Turn) → (change_of c).kind ≡ 5 → c ≡ taken (subject c)
unfolding change_of added_kind
was_taken (added (keep_out i r)) e = absurd (omega arith)
was_taken (added (wire i ps)) e = absurd (omega arith)
was_taken (taken t) e = refl

pub was_added : (c : Turn) → ¬ ((change_of c).kind ≡ 5) → c ≡ added (subject c)
unfolding change_of
was_added (added t) n = refl
was_added (taken t) n = absurd (n refl)

pub item_is : (c : Turn) → (change_of c).item ≡ item_of (subject c)
unfolding change_of
item_is (added t) = refl
item_is (taken t) = refl

pub turn_reads : (c : Turn) → TurnsBack c → ReadsBack (subject c)
unfolding change_of turn_of added_kind
turn_reads (added (keep_out i r)) e = ap subject e
turn_reads (added (wire i ps)) e = ap subject e
turn_reads (taken t) e = ap subject e

-- ---- lists turned round

-- without its latest, or without the first once it is turned round
reverse_take : {A : Type 0} (xs : List A) (n : ℕ) → length xs ≡ suc n → reverse (take n xs) ≡ drop 1 (reverse xs)
reverse_take {A} xs n e = last (drop n xs) (omega (arith, length-drop n xs)) (take-append-drop n xs)
  where
    last : (ys : List A) → length ys ≡ 1 → take n xs ++ ys ≡ xs → reverse (take n xs) ≡ drop 1 (reverse xs)
    last [] l p = absurd (omega arith)
    last (y ∷ []) l p = ap (drop 1) (sym (reverse-append (take n xs) (y ∷ [])) ∙ ap reverse p)
    last (y ∷ z ∷ zs) l p = absurd (omega arith)

map_drop : {A B : Type 0} (f : A → B) (xs : List A) → drop 1 (map f xs) ≡ map f (drop 1 xs)
map_drop f [] = refl
map_drop f (x ∷ xs) = refl

-- an array that is full
full : {A : Type 0} (z : A) (n : ℕ) (xs : List A) → length xs ≡ n → filled z n xs ≡ xs
full z n xs e = let k : n - length xs ≡ 0 = omega arith in rw k (append-nil xs)

left_last : {A : Type 0} (xs : List A) (x : A) (n : ℕ) → length xs ≡ n → left_at (xs ++ x ∷ []) n ≡ xs
left_last xs x n e =
    let d : drop (suc n) (xs ++ x ∷ []) ≡ [] = drop_of_length-le (xs ++ x ∷ []) {i = suc n} (omega (arith, length-append xs (x ∷ []))) in
    rw (take_at xs (x ∷ []) n e, d) (append-nil xs)

-- ---- the board

module _ (b : Board) (s : Standing b) where
  changes_are : b.changes ≡ filled no_change most_kept (map change_of (reverse (layout_of b).kept))
  changes_are = ap (λ b. b.changes) s.same ∙ (unfold board_of in refl)

  with_kept_lem : (n : ℕ) (ms : List Change) (cs : List Turn) → n ≡ length cs → ms ≡ filled no_change most_kept (map change_of (reverse cs))
      → changes_set b n ms ≡ board_of (with_kept (layout_of b) cs)
  unfolding board_of layout_of
  with_kept_lem n ms cs e f =
      let k : b.count ≡ (board_of (layout_of b)).count = ap (λ b. b.count) s.same in
      let c : b.items ≡ (board_of (layout_of b)).items = ap (λ b. b.items) s.same in
      λ i. record { size = b.size; count = k i; items = c i; kept = e i; changes = f i }

  pub keep_more : (c : Change) → WholeChange c → b.kept < most_kept
      → changes_set b (b.kept + 1) (set b.changes b.kept c) ≡ board_of (with_kept (layout_of b) (take most_kept (turn_of c ∷ (layout_of b).kept)))
  keep_more c w h =
      let cs : List Turn = (layout_of b).kept in
      let u : Turn = turn_of c in
      let n : b.kept ≡ length cs = kept_is b s in
      let e : take most_kept (u ∷ cs) ≡ u ∷ cs = take_all most_kept (u ∷ cs) (omega arith) in
      let a : set (filled no_change most_kept (map change_of (reverse cs))) b.kept (change_of u) ≡ filled no_change most_kept (map change_of (reverse cs ++ u ∷ []))
      = images_more change_of no_change most_kept (reverse cs) u b.kept (length-reverse cs ∙ sym n) h in
      rw e (with_kept_lem (b.kept + 1) _ (u ∷ cs) (omega arith)
      (ap₂ (λ ms m. set ms b.kept m) changes_are w ∙ a ∙ ap (λ l. filled no_change most_kept (map change_of l)) (sym (reverse-cons u cs))))

  pub keep_full : (c : Change) → WholeChange c → most_kept ≤ b.kept
      → changes_set b b.kept (pushed b.changes c) ≡ board_of (with_kept (layout_of b) (take most_kept (turn_of c ∷ (layout_of b).kept)))
  keep_full c w h =
      let cs : List Turn = (layout_of b).kept in
      let u : Turn = turn_of c in
      let n : b.kept ≡ length cs = kept_is b s in
      let k : length cs ≡ most_kept = omega (arith, s.kept_few) in
      let l : length (map change_of (reverse cs)) ≡ most_kept = length-map (reverse cs) change_of ∙ length-reverse cs ∙ k in
      let r : reverse (take most_kept (u ∷ cs)) ≡ drop 1 (reverse cs) ++ u ∷ []
      = reverse-cons u (take 31 cs) ∙ ap (λ l. l ++ u ∷ []) (reverse_take cs 31 k) in
      let m : map change_of (reverse (take most_kept (u ∷ cs))) ≡ drop 1 (map change_of (reverse cs)) ++ change_of u ∷ []
      = ap (map change_of) r ∙ map-append change_of (drop 1 (reverse cs)) (u ∷ []) ∙ ap (λ l. l ++ change_of u ∷ []) (sym (map_drop change_of (reverse cs))) in
      let long : length (take most_kept (u ∷ cs)) ≡ most_kept = omega (arith, length-take most_kept (u ∷ cs)) in
      with_kept_lem b.kept _ (take most_kept (u ∷ cs)) (omega arith)
      (ap₂ (λ ms m. drop 1 ms ++ m ∷ []) (changes_are ∙ full no_change most_kept (map change_of (reverse cs)) l) w ∙ sym m
      ∙ sym (full no_change most_kept (map change_of (reverse (take most_kept (u ∷ cs))))
      (length-map (reverse (take most_kept (u ∷ cs))) change_of ∙ length-reverse (take most_kept (u ∷ cs)) ∙ long)))

  -- ---- the latest change

  pub latest : (c : Turn) (cs : List Turn) → (layout_of b).kept ≡ c ∷ cs → (e : Change) → get_or b.changes (b.kept - 1) e ≡ change_of c
  latest c cs p e =
      let n : b.kept - 1 ≡ length cs = omega (arith, kept_is b s, ap length p) in
      let r : reverse (layout_of b).kept ≡ reverse cs ++ c ∷ [] = ap reverse p ∙ reverse-cons c cs in
      let h : length cs < length (reverse cs ++ c ∷ []) = omega (arith, length-append (reverse cs) (c ∷ []), length-reverse cs) in
      rw (changes_are, n, r) (image_in change_of no_change e c most_kept (reverse cs ++ c ∷ []) (length cs) h
      ∙ ap change_of (get_or_at (reverse cs) c [] c (length cs) (length-reverse cs)))

  pub drop_latest : (c : Turn) (cs : List Turn) → (layout_of b).kept ≡ c ∷ cs
      → changes_set b (b.kept - 1) (set b.changes (b.kept - 1) no_change) ≡ board_of (with_kept (layout_of b) cs)
  drop_latest c cs p =
      let n : b.kept - 1 ≡ length cs = omega (arith, kept_is b s, ap length p) in
      let few : suc (length cs) ≤ most_kept = omega (arith, s.kept_few, ap length p) in
      let ys : List Change = map change_of (reverse cs) in
      let r : map change_of (reverse (layout_of b).kept) ≡ ys ++ change_of c ∷ []
      = ap (map change_of) (ap reverse p ∙ reverse-cons c cs) ∙ map-append change_of (reverse cs) (c ∷ []) in
      let l : length ys ≡ length cs = length-map (reverse cs) change_of ∙ length-reverse cs in
      let l' : length (ys ++ change_of c ∷ []) ≡ suc (length cs) = omega (arith, length-append ys (change_of c ∷ [])) in
      let long : length (filled no_change most_kept (ys ++ change_of c ∷ [])) ≡ most_kept
      = omega (
        arith,
        length-append (ys ++ change_of c ∷ []) (replicate (most_kept - length (ys ++ change_of c ∷ [])) no_change),
        lib.ListN.length-replicate (most_kept - length (ys ++ change_of c ∷ [])) no_change,
      ) in
      with_kept_lem (b.kept - 1) _ cs n (rw (changes_are, r, n) (filled_left no_change most_kept (ys ++ change_of c ∷ []) (length cs) (omega arith) (length cs)
      (filled no_change most_kept (ys ++ change_of c ∷ [])) l' few long refl ∙ ap (filled no_change most_kept) (left_last ys (change_of c) (length cs) l)))

  -- ---- what stands afterwards

  pub stands_kept : (cs : List Turn) → length cs ≤ most_kept → All TurnsBack cs → Standing (board_of (with_kept (layout_of b) cs))
  stands_kept cs h a = standing (with_kept (layout_of b) cs) s.items_few h s.items_back a

  pub layout_kept : (cs : List Turn) → All TurnsBack cs → layout_of (board_of (with_kept (layout_of b) cs)) ≡ with_kept (layout_of b) cs
  layout_kept cs a = board_back (with_kept (layout_of b) cs) s.items_back a
