-- Document 02, order 1, with the seams of its order 3: a wire drawn by hand, told by its corners, and what is said of it.
-- Assumes nothing.
use Rattle.std.specs.Prelude.{ℕ, suc, ◌+◌, ◌≤◌, ◌≡◌, ◌⊎◌, List, [], ◌∷◌, ◌++◌, length}
use Rattle.paper.specs.declared.Board.{Board}
use Rattle.paper.specs.declared.Verdict.{Verdict}
use Rattle.paper.specs.declared.Judged.{Judged}
use Rattle.paper.specs.Limits.{most_corners}
use Rattle.paper.specs.Grid.{Node, level, upright, Grid, Area, Any}
use Rattle.paper.specs.Wire.{ToGo, between, runs, manhattan}
use Rattle.paper.specs.Layout.{keep_outs, wires, InSeam, grid_of, OnBoard, Along, last_of, EndsDiffer, Layout}
use Rattle.paper.specs.Padding.{Holds, WellFormed}
use Rattle.paper.specs.Answer.{placed, Check, ◌if◌, ◌unless◌, ◌about◌if◌, Gives, BeforeBounds, Bars}

-- ---- the corners

-- x and y of each, as an answer slice has them
unfoldable pub drawn : List ℕ → List Node
drawn [] = []
drawn (x ∷ []) = []
drawn (x ∷ y ∷ ns) = record { x = x; y = y } ∷ drawn ns

-- 2 to 25 corners
abbrev pub CountFits : List ℕ → Type 0
CountFits ns = (k : ℕ) × (2 ≤ k) × (k ≤ most_corners) × (length ns ≡ k + k)

-- ---- bad runs

-- empty or slanted
abbrev pub Bent : Area → Type 0
Bent r = (¬ (Along level r)) × (¬ (Along upright r))

-- r goes along the axis of q, the one before
abbrev pub Unturned : Area → Area → Type 0
Unturned q r = (Along level q × Along level r) ⊎ (Along upright q × Along upright r)

-- the run enters a keep-out, or a unit edge of it is a closed seam
abbrev pub InKeepOut : Layout → Area → Type 0
InKeepOut l r = Any (Bars l wires keep_outs r) l.items ⊎ InSeam l.items r

-- the run is nearer than the clearance to a laid wire
abbrev pub NearWire : Layout → Area → Type 0
NearWire l r = Any (Bars l wires wires r) l.items

-- the runs, the first of which is run k
unfoldable pub shape_checks : ℕ → List Area → List Check
shape_checks k [] = []
shape_checks k (r ∷ []) = (23 about k if Bent r) ∷ []
shape_checks k (q ∷ r ∷ rs) = (23 about k if Bent q) ∷ (23 about suc k if Unturned q r) ∷ shape_checks (suc k) (r ∷ rs)

-- the run from p to q, which is run k
abbrev pub run_check : Layout → ℕ → Node → Node → List Check
run_check l k p q =
    (9 about k if (¬ (OnBoard l.size p × OnBoard l.size q)))
    ∷ (20 about k if InKeepOut l (between p q))
    ∷ (24 about k if NearWire l (between p q))
    ∷ []

-- the runs between the corners, the first of which is run k
unfoldable pub run_checks : Layout → ℕ → List Node → List Check
run_checks l k [] = []
run_checks l k (p ∷ []) = []
run_checks l k (p ∷ q ∷ ps) = run_check l k p q ++ run_checks l (suc k) (q ∷ ps)

-- the ends, then the shapes of all runs
abbrev pub form_checks : List Node → List Check
form_checks ps = (10 unless EndsDiffer ps) ∷ shape_checks 1 (runs ps)

-- and then their places
abbrev pub corner_checks : Layout → List Node → List Check
corner_checks l ps = form_checks ps ++ run_checks l 1 ps

abbrev pub drawn_checks : Layout → List ℕ → List Check
drawn_checks l ns = (2 if BeforeBounds l) ∷ (22 unless CountFits ns) ∷ corner_checks l (drawn ns)

-- ---- the excess

unfoldable pub long_of : List Node → ℕ
long_of [] = 0
long_of (p ∷ []) = 0
long_of (p ∷ q ∷ ps) = manhattan p q + long_of (q ∷ ps)

-- the wire has n steps more than a shortest one between its ends, over the whole grid
unfoldable pub Exceeds : Grid → List Node → ℕ → Type 0
Exceeds G [] n = ⊥
Exceeds G (p ∷ ps) n = (m : ℕ) × ToGo G (last_of p ps) p m × (long_of (p ∷ ps) ≡ m + n)

-- ---- the whole promise

-- the code and the run
abbrev pub judgement : Judged → Verdict
judgement r = placed r.code r.run

pub record JudgedOn (l : Layout) (ns : List ℕ) (r : Judged) : Type 0 where
  pub said : Gives (drawn_checks l ns) (judgement r)
  pub refused : ¬ (r.code ≡ 0) → r.excess ≡ 0
  pub accepted : r.code ≡ 0 → Exceeds (grid_of l.size l.items) (drawn ns) r.excess

-- the numbers drawn on a board, whatever they are. Code 17 comes first.
unfoldable pub Judges : Board → List ℕ → Judged → Type 0
Judges b ns r =
    ((¬ (WellFormed b)) × (r ≡ record { code = 17; run = 0; excess = 0 }))
    ⊎ ((l : Layout) × Holds b l × JudgedOn l ns r)
