-- Demand 2 as it is seen on the board: what is true of every wire that is told, point for point.
-- Assumes nothing.
use Rattle.std.specs.Prelude.{ℕ, ◌+◌, ◌*◌, ◌≤◌, ◌<◌, ◌≡◌, ◌⊎◌, List, [], ◌∷◌, length}
use Rattle.paper.specs.declared.Question.{Question}
use Rattle.paper.specs.declared.Id.{Id}
use Rattle.paper.specs.declared.Reply.{Reply}
use Rattle.paper.specs.declared.Record.{Record}
use Rattle.paper.specs.declared.Record.TheVariants.{Lay, Ask}
use Rattle.paper.specs.Grid.{Node, Dir, step, Grid, Area, Any, All}
use Rattle.paper.specs.Wire.{ToGo, AnsweredIn, runs, manhattan, detour}
use Rattle.paper.specs.Layout.{Thing, keep_out, wire, rectangle, Covered, grid_of, Layout}
use Rattle.paper.specs.Answer.{source, target, way, written}

-- ---- points

-- Points of the plane, not nodes alone: p has its numbers counted in k-ths of a unit, for whatever k.
-- It lies in the area, the rim included; strictly inside; and p and q are at least c apart, in x or in y.
abbrev pub On : ℕ → Node → Area → Type 0
On k p a = ((k * a.low.x ≤ p.x) × (p.x ≤ k * a.high.x)) × ((k * a.low.y ≤ p.y) × (p.y ≤ k * a.high.y))

abbrev pub In : ℕ → Node → Area → Type 0
In k p a = ((k * a.low.x < p.x) × (p.x < k * a.high.x)) × ((k * a.low.y < p.y) × (p.y < k * a.high.y))

abbrev pub FarOn : ℕ → ℕ → ℕ → Type 0
FarOn d a b = (a + d ≤ b) ⊎ (b + d ≤ a)

abbrev pub Far : ℕ → ℕ → Node → Node → Type 0
Far k c p q = FarOn (k * c) p.x q.x ⊎ FarOn (k * c) p.y q.y

-- a point of the wire with these corners
abbrev pub OnWire : ℕ → Node → List Node → Type 0
OnWire k p ps = Any (On k p) (runs ps)

-- the point enters no keep-out, and is at least c from every point of a laid wire
unfoldable pub Shuns : ℕ → ℕ → Node → Thing → Type 0
Shuns k c p (keep_out i r) = ¬ (In k p (rectangle r))
Shuns k c p (wire i qs) = (q : Node) → OnWire k q qs → Far k c p q

-- the unit cell that ends at n has the point in it, its rim included; the point's numbers are counted in k-ths of a unit
abbrev pub Round : ℕ → Node → Node → Type 0
Round k p n = ((p.x ≤ k * n.x) × (k * n.x ≤ p.x + k)) × ((p.y ≤ k * n.y) × (k * n.y ≤ p.y + k))

-- every cell round the point lies in a keep-out: it is inside them, taken together
abbrev pub Inside : ℕ → Node → List Thing → Type 0
Inside k p ts = (n : Node) → Round k p n → Covered ts n

-- ---- the distance still to go

-- from each node of the walk it is smaller than from the node before
unfoldable pub Falls : Grid → Node → Node → List Dir → Type 0
Falls G t p [] = Unit {0}
Falls G t p (d ∷ w) = ((m : ℕ) × (n : ℕ) × ToGo G t p m × ToGo G t (step d p) n × (n < m)) × Falls G t (step d p) w

-- ---- a wire that is told, laid or asked for

pub data Routes : Record → Question → Type 0 where
  lay : {i : Id} {q : Question} → Routes (Lay i q) q
  ask : {q : Question} → Routes (Ask q) q

-- the reply r tells of the wire w, on the board l; s was lent and holds s' afterwards
pub record Copper (l : Layout) (q : Question) (s s' : List ℕ) (r : Reply) (w : List Dir) : Type 0 where
  pub answered : AnsweredIn q.mode (grid_of l.size l.items) (source q.pins) (target q.pins) w
  pub corners : s' ≡ written (way q.pins w) s
  pub long : r.length ≡ length w
  pub away : r.detour ≡ detour (target q.pins) (source q.pins) w
  pub clear : (k : ℕ) (p : Node) → OnWire k p (way q.pins w) → All (Shuns k l.size.clearance p) l.items
  pub outside : (k : ℕ) (p : Node) → OnWire k p (way q.pins w) → ¬ (Inside k p l.items)
  pub falls : Falls (grid_of l.size l.items) (target q.pins) (source q.pins) w
  pub sum : r.length ≡ manhattan (source q.pins) (target q.pins) + 2 * r.detour
  pub bits : r.length < 4294967296
