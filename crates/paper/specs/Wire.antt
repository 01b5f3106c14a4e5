-- Document 01, "Board, grid, clearance": legal wires, the one that is answered, its corners, runs, length and detour.
-- Document 02, order 6: the straightest of the shortest.
-- Assumes nothing.
use Rattle.std.specs.Prelude.{ℕ, ◌+◌, ◌-◌, ◌≤◌, ◌<◌, min, max, ◌≡◌, true, false, cond, ◌⊎◌, List, [], ◌∷◌, length, ltb, eqb}
use Rattle.paper.specs.declared.Mode.{Mode}
use Rattle.paper.specs.declared.Mode.TheVariants.{Plain, Fewest}
use Rattle.paper.specs.Grid.{Node, Dir, rank, step, Grid, Free, Area}

-- A wire is spelled as its unit steps from s; its length is their number. It is a walk over unblocked unit edges from s to t.
unfoldable pub Legal : Grid → Node → Node → List Dir → Type 0
Legal G s t [] = s ≡ t
Legal G s t (d ∷ w) = Free G s d × Legal G (step d s) t w

-- w is v, or comes before it in the order E, N, W, S
unfoldable pub First : List Dir → List Dir → Type 0
First [] v = Unit {0}
First (a ∷ w) [] = ⊥
First (a ∷ w) (b ∷ v) = (rank a < rank b) ⊎ ((a ≡ b) × First w v)

-- the answered wire: legal, no legal one is shorter, and it is the first of those as short
pub record Answered (G : Grid) (s t : Node) (w : List Dir) : Type 0 where
  pub legal : Legal G s t w
  pub shortest : (v : List Dir) → Legal G s t v → length w ≤ length v
  pub first : (v : List Dir) → Legal G s t v → length v ≡ length w → First w v

-- from p, some legal wire to t has n steps, and none has fewer
pub record ToGo (G : Grid) (t p : Node) (n : ℕ) : Type 0 where
  pub by : List Dir
  pub legal : Legal G p t by
  pub long : length by ≡ n
  pub least : (v : List Dir) → Legal G p t v → n ≤ length v

-- the corners that are left of a walk which has come to p by the direction d: p where it turns, and its end
unfoldable pub turns : Dir → Node → List Dir → List Node
turns d p [] = p ∷ []
turns d p (e ∷ w) = elim (eqb (rank d) (rank e)) [ true ↦ turns e (step e p) w | false ↦ p ∷ turns e (step e p) w ]

-- s, each turn, t
unfoldable pub corners : Node → List Dir → List Node
corners s [] = s ∷ []
corners s (d ∷ w) = s ∷ turns d (step d s) w

-- the run between two corners
abbrev pub between : Node → Node → Area
between p q = record {
  low = record { x = min p.x q.x; y = min p.y q.y };
  high = record { x = max p.x q.x; y = max p.y q.y };
}

unfoldable pub runs : List Node → List Area
runs [] = []
runs (p ∷ []) = []
runs (p ∷ q ∷ ps) = between p q ∷ runs (q ∷ ps)

unfoldable pub gap : ℕ → ℕ → ℕ
gap a b = (a - b) + (b - a)

-- |px - qx| + |py - qy|
unfoldable pub manhattan : Node → Node → ℕ
manhattan p q = gap p.x q.x + gap p.y q.y

-- how many steps of the walk from p go away from t
unfoldable pub detour : Node → Node → List Dir → ℕ
detour t p [] = 0
detour t p (d ∷ w) = cond (ltb (manhattan p t) (manhattan (step d p) t)) 1 0 + detour t (step d p) w

-- ---- in each mode

-- how many runs the walk from s has
abbrev pub runs_of : Node → List Dir → ℕ
runs_of s w = length (runs (corners s w))

-- legal, no legal wire is shorter, none as short has fewer runs, and it is the first of those as short with as few
pub record Straightest (G : Grid) (s t : Node) (w : List Dir) : Type 0 where
  pub legal : Legal G s t w
  pub shortest : (v : List Dir) → Legal G s t v → length w ≤ length v
  pub straightest : (v : List Dir) → Legal G s t v → length v ≡ length w → runs_of s w ≤ runs_of s v
  pub first : (v : List Dir) → Legal G s t v → length v ≡ length w → runs_of s v ≡ runs_of s w → First w v

-- the wire that is answered
abbrev pub AnsweredIn : Mode → Grid → Node → Node → List Dir → Type 0
AnsweredIn Plain G s t w = Answered G s t w
AnsweredIn Fewest G s t w = Straightest G s t w
