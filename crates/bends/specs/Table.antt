-- The table of turns still to make: exact at each crossing that was seen, 0 elsewhere.
-- Assumes nothing.
use Rattle.std.specs.Prelude.{ℕ, ◌+◌, ◌≤◌, ◌<◌, ◌≡◌, Bool, ◌⊎◌, List, length, get_or}
use Rattle.paper.specs.Grid.{Node, Dir, step, Axis, level}
use Rattle.paper.specs.Laws.Steps.{axis_of}
use Rattle.distances.specs.Ways.{Map}
use Rattle.trace.specs.Trail.{distance, Leads, slot, noted, turning, axis_by}

-- what it costs to go on along an axis
abbrev pub turn : Axis → Axis → ℕ
turn a b = turning 1 a b

pub record On (m : Map) (q : Node) : Type 0 where
  pub on_x : q.x < m.nx
  pub on_y : q.y < m.ny

-- what ways that lead nearer reach from a crossing
pub data Reach (m : Map) (d : List ℕ) : Node → Node → Type 0 where
  here : {q : Node} → Reach m d q q
  on : {q p : Node} {e : Dir} → Leads m d q e → Reach m d (step e q) p → Reach m d q p

-- of that, what is not the crossing itself
pub record Beyond (m : Map) (d : List ℕ) (q p : Node) : Type 0 where
  pub dir : Dir
  pub leads : Leads m d q dir
  pub rest : Reach m d (step dir q) p

-- ---- exact

pub record Source (m : Map) (d c : List ℕ) (a : Axis) (q : Node) : Type 0 where
  pub dir : Dir
  pub leads : Leads m d q dir
  pub costs : noted c (axis_of dir) (step dir q) + turn a (axis_of dir) ≤ noted c a q

-- both numbers of a crossing: no way that leads nearer costs less, and one costs no more
pub record Exact (m : Map) (d : List ℕ) (g : Node) (c : List ℕ) (q : Node) : Type 0 where
  pub some : (a : Axis) → 1 ≤ noted c a q
  pub small : (a : Axis) → noted c a q ≤ distance d q + 1
  pub home : q ≡ g → (a : Axis) → noted c a q ≡ 1
  pub seen : (e : Dir) → Leads m d q e → (a : Axis) → 1 ≤ noted c a (step e q)
  pub most : (e : Dir) → Leads m d q e → (a : Axis) → noted c a q ≤ noted c (axis_of e) (step e q) + turn a (axis_of e)
  pub source : ¬ (q ≡ g) → (a : Axis) → Source m d c a q

abbrev pub Sound : Map → List ℕ → Node → List ℕ → Type 0
Sound m d g c = (a : Axis) (q : Node) → On m q → 1 ≤ noted c a q → Exact m d g c q

-- from one table to another: what was there stays, and what is new stands at crossings with a property
pub record Grown (P : Node → Type 0) (c c' : List ℕ) : Type 0 where
  pub kept : (k : ℕ) → 1 ≤ get_or c k 0 → get_or c' k 0 ≡ get_or c k 0
  pub new : (k : ℕ) → get_or c k 0 ≡ 0 → 1 ≤ get_or c' k 0 → (a : Axis) × (p : Node) × P p × (k ≡ slot a p)

-- ---- the least by a way, and by the ways of an axis

pub record ByWay (m : Map) (d c : List ℕ) (q : Node) (e : Dir) (best r : ℕ) : Type 0 where
  pub below : r ≤ best
  pub most : Leads m d q e → r ≤ noted c (axis_of e) (step e q)
  pub is : (r ≡ best) ⊎ (Leads m d q e × (noted c (axis_of e) (step e q) ≡ r))

pub record Least (m : Map) (d c : List ℕ) (q : Node) (up : Bool) (r : ℕ) : Type 0 where
  pub below : r ≤ 2000000000
  pub most : (e : Dir) → axis_of e ≡ axis_by up → Leads m d q e → r ≤ noted c (axis_of e) (step e q)
  pub is : r < 2000000000 → (e : Dir) × (axis_of e ≡ axis_by up) × Leads m d q e × (noted c (axis_of e) (step e q) ≡ r)

-- ---- what is asked and told

-- each crossing as near as that, but g, has a way that leads nearer
abbrev pub Owed : Map → List ℕ → Node → ℕ → Type 0
Owed m d g n = (p : Node) → On m p → distance d p ≤ n → ¬ (p ≡ g) → (e : Dir) × Leads m d p e

pub record Visiting (m : Map) (d : List ℕ) (q g : Node) (c : List ℕ) : Type 0 where
  pub on_chart : On m q
  pub target : distance d g ≡ 0
  pub owed : Owed m d g (distance d q)
  pub long : length c ≡ 18432
  pub sound : Sound m d g c

pub record Toward (m : Map) (d : List ℕ) (q g : Node) (e : Dir) (c c' : List ℕ) : Type 0 where
  pub long : length c' ≡ 18432
  pub sound : Sound m d g c'
  pub seen : Leads m d q e → 1 ≤ noted c' level (step e q)
  pub grown : Grown (Beyond m d q) c c'

pub record Visited (m : Map) (d : List ℕ) (q g : Node) (c c' : List ℕ) : Type 0 where
  pub long : length c' ≡ 18432
  pub sound : Sound m d g c'
  pub seen : 1 ≤ noted c' level q
  pub grown : Grown (Reach m d q) c c'

pub record Counting (m : Map) (d : List ℕ) (q g : Node) (c : List ℕ) : Type 0 where
  pub visiting : Visiting m d q g c
  pub away : ¬ (q ≡ g)
  pub blank : noted c level q ≡ 0
  pub seen : (e : Dir) → Leads m d q e → 1 ≤ noted c level (step e q)

pub record Counted (m : Map) (d : List ℕ) (q g : Node) (c c' : List ℕ) : Type 0 where
  pub long : length c' ≡ 18432
  pub sound : Sound m d g c'
  pub seen : 1 ≤ noted c' level q
  pub grown : Grown (λ p. p ≡ q) c c'

pub record Asked (m : Map) (d : List ℕ) (s g : Node) (c : List ℕ) : Type 0 where
  pub on_chart : On m s
  pub target : distance d g ≡ 0
  pub owed : Owed m d g (distance d s)
  pub long : length c ≡ 18432
  pub blank : (k : ℕ) → get_or c k 0 ≡ 0

-- exact where seen; seen is just what ways that lead nearer reach from s; 0 elsewhere
pub record Bends (m : Map) (d : List ℕ) (s g : Node) (c : List ℕ) : Type 0 where
  pub long : length c ≡ 18432
  pub exact : (p : Node) → Reach m d s p → Exact m d g c p
  pub blank : (k : ℕ) → 1 ≤ get_or c k 0 → (a : Axis) × (p : Node) × Reach m d s p × (k ≡ slot a p)
