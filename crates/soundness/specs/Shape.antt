-- An array with nothing in unused places.
-- Assumes nothing.
use Rattle.std.specs.Prelude.{ℕ, ◌≤◌, ◌≡◌, List, map, get_or, take}
use Rattle.paper.specs.declared.Item.{Item}
use Rattle.paper.specs.Layout.{Thing}
use Rattle.paper.specs.Padding.{filled}
use Rattle.paper.specs.Laws.Back.{thing_of}

-- zeros from place k on
abbrev pub ZeroFrom : ℕ → List ℕ → Type 0
ZeroFrom k xs = (i : ℕ) → k ≤ i → get_or xs i 0 ≡ 0

-- the m places of the array are how it holds the first n of them, as g reads and f writes one, and z in the others
unfoldable pub Slots : {A B : Type 0} → (A → B) → (B → A) → B → ℕ → ℕ → List B → Type 0
Slots f g z m n xs = xs ≡ filled z m (map f (map g (take n xs)))

-- the first n items
abbrev pub things_of : ℕ → List Item → List Thing
things_of n ms = map thing_of (take n ms)
