-- How the struct `Board` holds a layout: what stands in which place, and zeros in every place that is not used.
-- Assumes nothing.
use Rattle.std.specs.Prelude.{ℕ, ◌-◌, ◌≡◌, List, [], ◌∷◌, ◌++◌, map, reverse, length, replicate}
use Rattle.paper.specs.declared.Item.{Item}
use Rattle.paper.specs.declared.Change.{Change}
use Rattle.paper.specs.declared.Board.{Board}
use Rattle.paper.specs.Limits.{most_blocks, most_corners, most_kept}
use Rattle.paper.specs.Layout.{Thing, keep_out, wire, Turn, added, taken, Layout, Sound}

-- the list, and as many z as n places have left
abbrev pub filled : {A : Type 0} → A → ℕ → List A → List A
filled z n xs = xs ++ replicate (n - length xs) z

unfoldable pub item_of : Thing → Item
item_of (keep_out i r) = record { id = i; runs = 0; xs = filled 0 most_corners (r.x0 ∷ r.x1 ∷ []); ys = filled 0 most_corners (r.y0 ∷ r.y1 ∷ []) }
item_of (wire i ps) = record { id = i; runs = length ps - 1; xs = filled 0 most_corners (map (λ p. p.x) ps); ys = filled 0 most_corners (map (λ p. p.y) ps) }

abbrev pub no_item : Item
no_item = record { id = 0; runs = 0; xs = filled 0 most_corners []; ys = filled 0 most_corners [] }

-- the kind of the record that added the item
unfoldable pub added_kind : Thing → ℕ
added_kind (keep_out i r) = 2
added_kind (wire i ps) = 3

unfoldable pub change_of : Turn → Change
change_of (added t) = record { kind = added_kind t; item = item_of t }
change_of (taken t) = record { kind = 5; item = item_of t }

abbrev pub no_change : Change
no_change = record { kind = 0; item = no_item }

-- the kept changes stand oldest first
unfoldable pub board_of : Layout → Board
board_of l = record {
  size = l.size;
  count = length l.items;
  items = filled no_item most_blocks (map item_of l.items);
  kept = length l.kept;
  changes = filled no_change most_kept (map change_of (reverse l.kept));
}

-- the board b is well formed, and holds l
pub record Holds (b : Board) (l : Layout) : Type 0 where
  pub sound : Sound l
  pub same : b ≡ board_of l

unfoldable pub WellFormed : Board → Type 0
WellFormed b = (l : Layout) × Holds b l
