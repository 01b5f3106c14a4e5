-- Boards that break a clause of document 01's "A board is well formed if", each clause in turn: none is well formed.
-- And boards that keep them all, up to the limits: each is.
-- Assumes nothing.
use Rattle.std.specs.Prelude.{ℕ, zero, suc, ◌+◌, List, [], ◌∷◌, ◌++◌, map}
use Rattle.paper.specs.declared.Size.{Size}
use Rattle.paper.specs.declared.Item.{Item}
use Rattle.paper.specs.declared.Change.{Change}
use Rattle.paper.specs.declared.Board.{Board}
use Rattle.paper.specs.Limits.{most_blocks, most_corners, most_kept}
use Rattle.paper.specs.Grid.{Node}
use Rattle.paper.specs.Layout.{Thing, wire, Turn, added, taken, no_bounds}
use Rattle.paper.specs.Padding.{filled, item_of, no_item, change_of, no_change, board_of}
use Rattle.paper.specs.TableP.{at, keep}

-- ---- boards

abbrev size : ℕ → ℕ → ℕ → Size
size w h c = record { w = w; h = h; clearance = c }

-- with these items and these kept changes, latest first
abbrev board : Size → List Thing → List Turn → Board
board s ts cs = board_of (record { size = s; items = ts; kept = cs })

abbrev ten : List Thing → List Turn → Board
ten = board (size 10 10 2)

abbrev big : List Thing → List Turn → Board
big = board (size 100 100 2)

-- the struct itself: the counts, and what stands in the first places of the arrays
abbrev struct : ℕ → List Item → ℕ → List Change → Board
struct n ms k cs =
    record { size = size 100 100 2; count = n; items = filled no_item most_blocks ms; kept = k; changes = filled no_change most_kept cs }

abbrev item : ℕ → ℕ → List ℕ → List ℕ → Item
item i n xs ys = record { id = i; runs = n; xs = filled 0 most_corners xs; ys = filled 0 most_corners ys }

-- a staircase of n runs from (x, y)
unfoldable pub stairs : ℕ → ℕ → ℕ → List Node
stairs zero x y = at x y ∷ []
stairs (suc zero) x y = at x y ∷ at (suc x) y ∷ []
stairs (suc (suc n)) x y = at x y ∷ at (suc x) y ∷ stairs n (suc x) (suc y)

-- n keep-outs in a row, with the ids from i
unfoldable pub row : ℕ → ℕ → List Thing
row zero i = []
row (suc n) i = keep i (i + i) 50 (i + i + 1) 51 ∷ row n (suc i)

-- n changes, by turns the one and the other
unfoldable pub swaps : ℕ → Turn → Turn → List Turn
swaps zero c d = []
swaps (suc n) c d = c ∷ swaps n d c

abbrev k1 : Thing
k1 = keep 1 3 2 6 8

-- the wire of line 3 of the sheet
abbrev w7 : Thing
w7 = wire 7 (at 1 5 ∷ at 3 5 ∷ at 3 8 ∷ at 8 8 ∷ at 8 5 ∷ [])

-- ---- well formed

abbrev pub sound_boards : List Board
sound_boards =
    -- "The board before any bounds, without items or kept changes"
    board no_bounds [] []
    -- the sheet, after lines 1, 3 and 5
    ∷ ten [] []
    ∷ ten (k1 ∷ w7 ∷ []) (added w7 ∷ added k1 ∷ [])
    ∷ ten (k1 ∷ []) (taken w7 ∷ added w7 ∷ added k1 ∷ [])
    -- the limits
    ∷ board (size 1 1 1) [] []
    ∷ board (size 30000 30000 200) [] []
    ∷ big (row 22 1 ++ wire 60 (stairs 24 0 0) ∷ []) []
    ∷ big (row 46 1) []
    ∷ big [] (swaps 32 (taken k1) (added k1))
    -- keep-outs that touch, wires that are c apart, a wire along a keep-out's side and the board's
    ∷ ten (keep 1 0 0 5 5 ∷ keep 2 5 0 8 5 ∷ []) []
    ∷ ten (wire 1 (at 0 0 ∷ at 10 0 ∷ []) ∷ wire 2 (at 0 2 ∷ at 10 2 ∷ []) ∷ []) []
    ∷ ten (keep 1 0 0 10 5 ∷ wire 2 (at 0 0 ∷ at 10 0 ∷ at 10 5 ∷ at 0 5 ∷ []) ∷ []) []
    -- a wire that touches the end of a seam
    ∷ ten (keep 1 0 0 5 5 ∷ keep 2 5 0 8 5 ∷ wire 7 (at 0 5 ∷ at 8 5 ∷ []) ∷ []) []
    ∷ ten (keep 1 0 0 5 5 ∷ wire 7 (at 5 0 ∷ at 5 3 ∷ []) ∷ []) []
    ∷ []

-- ---- not well formed

abbrev pub damaged_boards : List Board
damaged_boards =
    -- "its numbers are in range"
    board (size 0 10 1) [] []
    ∷ board (size 10 0 1) [] []
    ∷ board (size 10 10 0) [] []
    ∷ board (size 30001 10 1) [] []
    ∷ board (size 10 30001 1) [] []
    ∷ board (size 10 10 201) [] []
    -- "ids are distinct", "by rising id", and 1 to 65535
    ∷ ten (keep 1 0 0 1 1 ∷ keep 1 2 2 3 3 ∷ []) []
    ∷ ten (keep 2 0 0 1 1 ∷ keep 1 2 2 3 3 ∷ []) []
    ∷ ten (keep 0 0 0 1 1 ∷ []) []
    ∷ ten (wire 0 (at 0 0 ∷ at 1 0 ∷ []) ∷ []) []
    -- "keep-outs meet 6": not x0 < x1 ≤ W and y0 < y1 ≤ H
    ∷ ten (keep 1 3 2 11 8 ∷ []) []
    ∷ ten (keep 1 3 2 6 11 ∷ []) []
    ∷ ten (keep 1 3 2 3 8 ∷ []) []
    ∷ ten (keep 1 3 8 6 2 ∷ []) []
    -- "and don't overlap"
    ∷ ten (keep 1 0 0 5 5 ∷ keep 2 4 4 8 8 ∷ []) []
    -- "each wire has two different ends"
    ∷ ten (wire 7 (at 1 1 ∷ at 4 1 ∷ at 4 4 ∷ at 1 4 ∷ at 1 1 ∷ []) ∷ []) []
    -- "and 1 to 24 nonempty runs"
    ∷ ten (wire 7 (at 1 1 ∷ []) ∷ []) []
    ∷ ten (wire 7 (at 1 1 ∷ at 4 1 ∷ at 4 1 ∷ at 6 1 ∷ []) ∷ []) []
    ∷ big (wire 7 (stairs 25 0 0) ∷ []) []
    -- "each across the one before", and along an axis
    ∷ ten (wire 7 (at 1 1 ∷ at 4 1 ∷ at 6 1 ∷ []) ∷ []) []
    ∷ ten (wire 7 (at 1 1 ∷ at 4 1 ∷ at 2 1 ∷ []) ∷ []) []
    ∷ ten (wire 7 (at 1 1 ∷ at 2 3 ∷ []) ∷ []) []
    -- "on the board"
    ∷ ten (wire 7 (at 1 1 ∷ at 11 1 ∷ []) ∷ []) []
    ∷ ten (wire 7 (at 1 1 ∷ at 1 11 ∷ []) ∷ []) []
    -- "through no keep-out", whichever has the lower id
    ∷ ten (k1 ∷ wire 7 (at 1 5 ∷ at 8 5 ∷ []) ∷ []) []
    ∷ ten (wire 1 (at 1 5 ∷ at 8 5 ∷ []) ∷ keep 2 3 2 6 8 ∷ []) []
    -- along a seam of two keep-outs; of a keep-out that an undo brings back
    ∷ ten (keep 1 0 0 5 5 ∷ keep 2 5 0 8 5 ∷ wire 7 (at 5 0 ∷ at 5 3 ∷ []) ∷ []) []
    ∷ ten (keep 1 0 0 5 5 ∷ wire 7 (at 5 0 ∷ at 5 3 ∷ []) ∷ []) (taken (keep 2 5 0 8 5) ∷ [])
    -- "any two wires at least c apart in x or in y"
    ∷ ten (wire 1 (at 0 0 ∷ at 10 0 ∷ []) ∷ wire 2 (at 0 1 ∷ at 10 1 ∷ []) ∷ []) []
    ∷ ten (wire 1 (at 0 5 ∷ at 10 5 ∷ []) ∷ wire 2 (at 5 0 ∷ at 5 10 ∷ []) ∷ []) []
    ∷ ten (wire 1 (at 0 0 ∷ at 4 0 ∷ []) ∷ wire 2 (at 5 1 ∷ at 8 1 ∷ []) ∷ []) []
    -- "at most 46 blocks"
    ∷ big (row 23 1 ++ wire 60 (stairs 24 0 0) ∷ []) []
    -- "at most 32 kept changes"
    ∷ big [] (swaps 33 (taken k1) (added k1))
    -- "undoing the kept changes in turn finds each added item there"
    ∷ ten [] (added k1 ∷ [])
    ∷ ten (k1 ∷ []) (added (keep 1 3 2 6 7) ∷ [])
    ∷ ten (w7 ∷ []) (added w7 ∷ added w7 ∷ [])
    -- "each taken id free"
    ∷ ten (k1 ∷ []) (taken (keep 1 0 0 1 1) ∷ [])
    -- "and gives items that meet the same rules each time"
    ∷ ten (k1 ∷ []) (taken (keep 2 4 4 8 8) ∷ [])
    ∷ ten [] (taken w7 ∷ taken (wire 8 (at 0 6 ∷ at 2 6 ∷ [])) ∷ [])
    ∷ ten [] (taken (keep 1 3 2 11 8) ∷ [])
    -- "The board before any bounds, without items or kept changes"
    ∷ board no_bounds (k1 ∷ []) []
    ∷ board no_bounds [] (taken k1 ∷ [])
    -- the struct: a number in a place that is not used, among the items, the changes and the corners
    ∷ struct 0 (item_of k1 ∷ []) 0 []
    ∷ struct 0 [] 0 (change_of (taken k1) ∷ [])
    ∷ struct 1 (item 1 0 (3 ∷ 6 ∷ 1 ∷ []) (2 ∷ 8 ∷ []) ∷ []) 0 []
    -- the struct: a count past the array
    ∷ struct 47 (map item_of (row 46 1)) 0 []
    ∷ struct 0 [] 33 (map change_of (swaps 32 (added k1) (taken k1)))
    -- the struct: a kept keep-out with the kind of a lay, and with a kind that is no change
    ∷ struct 1 (item_of k1 ∷ []) 1 (record { kind = 3; item = item_of k1 } ∷ [])
    ∷ struct 1 (item_of k1 ∷ []) 1 (record { kind = 4; item = item_of k1 } ∷ [])
    ∷ []
