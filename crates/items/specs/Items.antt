-- What is found on a board, and what it holds afterwards: layouts as the paper has them.
-- Assumes nothing.
use Rattle.std.specs.Prelude.{ℕ, ◌≤◌, ◌<◌, ◌≡◌, cond, List, [], ◌∷◌, ◌++◌, length, drop, eqb, Option, Some, None}
use Rattle.paper.specs.declared.Item.{Item}
use Rattle.paper.specs.declared.Change.{Change}
use Rattle.paper.specs.declared.Board.{Board}
use Rattle.paper.specs.Limits.{most_blocks}
use Rattle.paper.specs.Layout.{Thing, id_of, Turn, Used, undo, Layout}
use Rattle.paper.specs.Padding.{filled, item_of, no_item, change_of, board_of}
use Rattle.paper.specs.Laws.Back.{thing_of, turn_of}
use Rattle.paper.specs.Laws.Filled.{put_at, left_at}
use Rattle.paper.specs.Laws.Standing.{thing_at}

-- ---- what is found

-- the first item with the id, or that none has it
unfoldable pub IdAt : List Thing → ℕ → Option ℕ → Type 0
IdAt ts i (Some k) = (k < length ts) × (id_of (thing_at ts k) ≡ i) × ((j : ℕ) → j < k → ¬ (id_of (thing_at ts j) ≡ i))
IdAt ts i None = ¬ (Used ts i)

-- the items before k have lower ids, and that at k, if there is one, has not
pub record PlaceIs (ts : List Thing) (i k : ℕ) : Type 0 where
  pub within : k ≤ length ts
  pub before : (j : ℕ) → j < k → id_of (thing_at ts j) < i
  pub not_there : k < length ts → i ≤ id_of (thing_at ts k)

-- ---- what is there afterwards

-- the array r, whatever list of n items the array before it held
unfoldable pub PutIn : List Item → ℕ → ℕ → Item → List Item → Type 0
PutIn ms n k m r = (xs : List Item) → length xs ≡ n → ms ≡ filled no_item most_blocks xs → r ≡ filled no_item most_blocks (put_at xs k m)

unfoldable pub LeftOut : List Item → ℕ → ℕ → List Item → Type 0
LeftOut ms n k r = (xs : List Item) → length xs ≡ n → ms ≡ filled no_item most_blocks xs → r ≡ filled no_item most_blocks (left_at xs k)

-- the changes without the first, and one more after the last
abbrev pub pushed : List Change → Change → List Change
pushed cs c = drop 1 cs ++ c ∷ []

-- the layout with these items, with these kept changes
abbrev pub with_items : Layout → List Thing → Layout
with_items l ts = record { size = l.size; items = ts; kept = l.kept }

abbrev pub with_kept : Layout → List Turn → Layout
with_kept l cs = record { size = l.size; items = l.items; kept = cs }

-- the item, the change is as the struct holds it, with nothing in unused places
abbrev pub Whole : Item → Type 0
Whole m = m ≡ item_of (thing_of m)

abbrev pub WholeChange : Change → Type 0
WholeChange c = c ≡ change_of (turn_of c)

-- the kind of the record that adds an item with so many runs
abbrev pub kind_for : ℕ → ℕ
kind_for runs = cond (eqb runs 0) 2 3

-- the item at k is the first that has its id
abbrev pub TheFirst : List Thing → ℕ → Type 0
TheFirst ts k = IdAt ts (id_of (thing_at ts k)) (Some k)

-- there is room for one item more
abbrev pub Room : Layout → Type 0
Room l = length l.items < most_blocks

-- the latest change is undone and kept no longer
unfoldable pub Undone : Layout → Board → Type 0
Undone l r = (c : Turn) × (cs : List Turn) × (l.kept ≡ c ∷ cs) × (r ≡ board_of (record { size = l.size; items = undo c l.items; kept = cs }))

-- there is a change to undo, and room for what comes back
pub record RoomBack (l : Layout) : Type 0 where
  pub some : 1 ≤ length l.kept
  pub room : (c : Turn) (cs : List Turn) → l.kept ≡ c ∷ cs → length (undo c l.items) ≤ most_blocks
