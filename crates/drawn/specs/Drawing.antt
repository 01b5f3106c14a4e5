-- What the parts of `drawn` say, in the paper's words.
-- Assumes nothing.
use Rattle.std.specs.Prelude.{ℕ, ◌+◌, ◌≡◌, Result, Ok, Err, List, map, length, get_or}
use Rattle.std.specs.List.{sum, range_with_len}
use Rattle.paper.specs.declared.Item.{Item}
use Rattle.paper.specs.declared.Pins.{Pins}
use Rattle.paper.specs.declared.Judged.{Judged}
use Rattle.paper.specs.Codes.{code_of}
use Rattle.paper.specs.Grid.{Node, Dir, Grid}
use Rattle.paper.specs.Wire.{Legal, ToGo, manhattan}
use Rattle.blocks.specs.Growing.{corner_at}
use Rattle.paper.specs.declared.Refusal.{Refusal}
use Rattle.shapes.specs.declared.Fault.{Fault}

-- the excess, or what is wrong, in the document's numbers
abbrev pub judged_of : Result ℕ (Fault Refusal) → Judged
judged_of (Ok n) = record { code = 0; run = 0; excess = n }
judged_of (Err f) = record { code = code_of f.why; run = f.run; excess = 0 }

-- ---- lengths

-- how long the item's run at k is, and its first n runs together
abbrev pub long_at : Item → ℕ → ℕ
long_at m k = manhattan (corner_at m k) (corner_at m (k + 1))

abbrev pub long_by : Item → ℕ → ℕ
long_by m n = sum (map (long_at m) (range_with_len 0 n))

-- a legal wire from s to t has n steps
unfoldable pub Reached : Grid → Node → Node → ℕ → Type 0
Reached G s t n = (v : List Dir) × Legal G s t v × (length v ≡ n)

-- n is r steps more than a shortest one has
unfoldable pub Over : Grid → Node → Node → ℕ → ℕ → Type 0
Over G s t n r = (m : ℕ) × ToGo G t s m × (n ≡ m + r)

abbrev pub pins_of : Item → ℕ → Pins
pins_of m n = record { sx = get_or m.xs 0 0; sy = get_or m.ys 0 0; tx = get_or m.xs n 0; ty = get_or m.ys n 0 }
