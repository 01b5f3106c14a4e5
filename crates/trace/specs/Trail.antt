-- The trail through a table of distances, from crossing to crossing, and what is written of it.
-- Assumes nothing.
use Rattle.std.specs.Borrow.{Bor}
use Rattle.std.specs.Prelude.{ℕ, zero, suc, pred, ◌+◌, ◌-◌, ◌≤◌, ◌<◌, ◌≡◌, Bool, true, false, Option, Some, None, List, [], ◌∷◌, ◌++◌, map, length, get_or, replicate}
use Rattle.paper.specs.Grid.{Node, Dir, E, N, W, S, rank, step, Axis, level, upright, Grid, Free}
use Rattle.paper.specs.Wire.{turns, corners}
use Rattle.paper.specs.Laws.Steps.{axis_of}
use Rattle.distances.specs.Lower.{none}
use Rattle.distances.specs.Sweep.{Widths}
use Rattle.distances.specs.Ways.{cell, Map}
use Rattle.tracks.specs.declared.At.{At}
use Rattle.trace.specs.declared.Direction.{Direction}
use Rattle.trace.specs.declared.Direction.TheVariants.{East, North, West, South}

abbrev pub crossing : At → Node
crossing q = record { x = q.i; y = q.j }

abbrev pub dir_of : Direction → Dir
dir_of East = E
dir_of North = N
dir_of West = W
dir_of South = S

-- every number is a direction's
abbrev pub numbered : ℕ → Dir
numbered zero = E
numbered (suc zero) = N
numbered (suc (suc zero)) = W
numbered (suc (suc (suc n))) = S

-- the direction by which a wire has come; none where it begins
abbrev pub way_of : Option Direction → Option Dir
way_of None = None
way_of (Some e) = Some (dir_of e)

abbrev pub distance : List ℕ → Node → ℕ
distance d q = get_or d (cell q.x q.y) 0

abbrev pub marks : Map → Axis → List ℕ
marks m level = m.flat
marks m upright = m.tall

-- the crossings, with the ways between neighbours that are not marked
abbrev pub chart : Map → Grid
chart m = record { wide = m.nx - 1; high = m.ny - 1; Open = λ a q. get_or (marks m a) (cell q.x q.y) 0 ≡ 0 }

-- where a crossing stands on the board
abbrev pub spot : Map → Node → Node
spot m q = record { x = get_or m.xs q.x 0; y = get_or m.ys q.y 0 }

-- how long the way in the direction is
unfoldable pub far : Map → Dir → Node → ℕ
far m E q = get_or m.xs (q.x + 1) 0 - get_or m.xs q.x 0
far m N q = get_or m.ys (q.y + 1) 0 - get_or m.ys q.y 0
far m W q = get_or m.xs q.x 0 - get_or m.xs (pred q.x) 0
far m S q = get_or m.ys q.y 0 - get_or m.ys (pred q.y) 0

-- the way is open, and leads nearer by its length
pub record Leads (m : Map) (d : List ℕ) (q : Node) (e : Dir) : Type 0 where
  pub clear : Free (chart m) q e
  pub nearer : distance d (step e q) + far m e q ≡ distance d q

-- ---- what turns cost

-- the price of a turn, and the table of turns still to make: a number for each crossing and each axis by which a wire may come
pub record Toll : Type 0 where
  pub price : ℕ
  pub table : List ℕ

abbrev pub toll : ℕ → List ℕ → Toll
toll p c = record { price = p; table = c }

-- turns cost nothing, and no table is read
abbrev pub free : Toll
free = toll 0 (0 ∷ [])

-- a turn costs one where there is a table
abbrev pub toll_of : Option (Bor (List ℕ)) → Toll
toll_of None = free
toll_of (Some c) = toll 1 c.now

-- where a crossing's numbers stand
abbrev pub slot : Axis → Node → ℕ
slot level q = cell q.x q.y
slot upright q = cell q.x q.y + 9216

-- one more than the turns still to make; 0 where the crossing was not seen
abbrev pub noted : List ℕ → Axis → Node → ℕ
noted c a q = get_or c (slot a q) 0

-- the turns still to make; none where nothing is known
abbrev pub turns_in : List ℕ → Axis → Node → ℕ
turns_in c a q = noted c a q - 1

-- what is left for turns: nothing where they cost nothing
abbrev pub dues : ℕ → List ℕ → Axis → Node → ℕ
dues zero c a q = 0
dues (suc p) c a q = turns_in c a q

-- what it costs to go on along an axis
abbrev pub turning : ℕ → Axis → Axis → ℕ
turning p level level = 0
turning p level upright = p
turning p upright level = p
turning p upright upright = 0

-- told by whether it is upright
abbrev pub axis_by : Bool → Axis
axis_by false = level
axis_by true = upright

-- the same where the wire has come by a direction; nothing where it begins
abbrev pub bend_from : ℕ → Option Dir → Axis → ℕ
bend_from p None b = 0
bend_from p (Some e) b = turning p (axis_of e) b

-- the way leads nearer, and costs what is left for turns
pub record Fits (m : Map) (d : List ℕ) (o : Toll) (came : Option Dir) (left : ℕ) (q : Node) (e : Dir) : Type 0 where
  pub leads : Leads m d q e
  pub turns : dues o.price o.table (axis_of e) (step e q) + bend_from o.price came (axis_of e) ≡ left

-- the trail to g: always by the first direction that fits
pub data Trail (m : Map) (d : List ℕ) (o : Toll) (g : Node) : Option Dir → ℕ → Node → List Dir → Type 0 where
  stop : {came : Option Dir} → Trail m d o g came 0 g []
  go : {came : Option Dir} {left : ℕ} {q : Node} {e : Dir} {rest : List Dir} → Fits m d o came left q e → ((f : Dir) → rank f < rank e → ¬ (Fits m d o came left q f))
      → Trail m d o g (Some e) (dues o.price o.table (axis_of e) (step e q)) (step e q) rest → Trail m d o g came left q (replicate (far m e q) e ++ rest)

-- ---- a step of it

pub record Nearer (d : List ℕ) (shut next here wide : ℕ) : Type 0 where
  pub free : shut ≡ 0
  pub less : get_or d next 0 + wide ≡ get_or d here 0

-- on one axis, forth or back: `u` is the number of the track, n of them; neighbours stand `step` apart in the table
unfoldable pub Along : List ℕ → List ℕ → List ℕ → ℕ → ℕ → ℕ → ℕ → Bool → Type 0
Along d shut at n u here step true = (u + 1 < n) × Nearer d (get_or shut here 0) (here + step) here (get_or at (u + 1) 0 - get_or at u 0)
Along d shut at n u here step false = (0 < u) × Nearer d (get_or shut (here - step) 0) (here - step) here (get_or at u 0 - get_or at (u - 1) 0)

-- the first direction that fits, or none does
unfoldable pub FirstWay : Map → List ℕ → Toll → Option Dir → ℕ → Node → Option Dir → Type 0
FirstWay m d o came left q None = (f : Dir) → ¬ (Fits m d o came left q f)
FirstWay m d o came left q (Some e) = Fits m d o came left q e × ((f : Dir) → rank f < rank e → ¬ (Fits m d o came left q f))

-- ---- what is asked of the map and the table

-- the places that `Along` names lie in the table
pub record OnAxis (d at : List ℕ) (n u here step : ℕ) : Type 0 where
  pub few : n ≤ 96
  pub on : u < n
  pub wide : Widths at (n - 1)
  pub step_few : step ≤ 96
  pub here_in : here < 9216
  pub next_in : u + 1 < n → here + step < 9216
  pub back_in : 0 < u → step ≤ here
  pub top : (c : ℕ) → get_or d c 0 ≤ none

-- there is a neighbour in the direction
unfoldable pub Room : At → Dir → Type 0
Room q E = q.i < 96
Room q N = q.j < 96
Room q W = 0 < q.i
Room q S = 0 < q.j

pub record Charted (m : Map) (d : List ℕ) : Type 0 where
  pub nx_few : m.nx ≤ 96
  pub ny_few : m.ny ≤ 96
  pub wide_x : Widths m.xs (m.nx - 1)
  pub wide_y : Widths m.ys (m.ny - 1)
  pub top : (c : ℕ) → get_or d c 0 ≤ none

-- ---- what is written

-- the corners of a walk from p that has come there by a direction, or begins there
unfoldable pub corners_from : Option Dir → Node → List Dir → List Node
corners_from None p v = corners p v
corners_from (Some e) p v = turns e p v

-- the numbers written over those from the place `at` on, as far as there is room
unfoldable pub over : ℕ → List ℕ → List ℕ → List ℕ
over zero [] s = s
over zero (n ∷ ns) [] = []
over zero (n ∷ ns) (x ∷ s) = n ∷ over zero ns s
over (suc at) ns [] = []
over (suc at) ns (x ∷ s) = x ∷ over at ns s

pub record Tracing (m : Map) (d : List ℕ) (q g : At) (remaining at : ℕ) : Type 0 where
  pub q_x : q.i < m.nx
  pub q_y : q.j < m.ny
  pub home : distance d (crossing g) ≡ 0
  pub left : remaining ≡ distance d (crossing q)
  pub at_few : at + remaining ≤ 2000000000

pub record Traces (m : Map) (d : List ℕ) (o : Toll) (g q : Node) (came : Option Dir) (left at : ℕ) (xs xs' ys ys' : List ℕ) (r : ℕ) : Type 0 where
  pub counted : (v : List Dir) → Trail m d o g came left q v → r ≡ at + length (corners_from came (spot m q) v)
  pub xs_are : (v : List Dir) → Trail m d o g came left q v → xs' ≡ over at (map (λ p. p.x) (corners_from came (spot m q) v)) xs
  pub ys_are : (v : List Dir) → Trail m d o g came left q v → ys' ≡ over at (map (λ p. p.y) (corners_from came (spot m q) v)) ys
