-- The tracks of both axes. Their crossings are a grid of their own, which tells all of the board's if its unit edges obey two laws.
-- Assumes nothing.
use Rattle.std.specs.Prelude.{ℕ, suc, ◌≤◌, ◌≡◌, refl}
use Rattle.std.proofs.Common.{arith}
use Rattle.paper.specs.Grid.{Node, Dir, step, Axis, level, upright, Grid}
use Rattle.paper.specs.Wire.{gap}
use Rattle.paper.specs.Layout.{across}
use Rattle.paper.specs.Laws.Steps.{axis_of}
use Rattle.walks.specs.Axes.{at, coord, place, side, EdgeAt}
use Rattle.walks.specs.Tracks.{Tracks, Rising, InSlab, Within, on_board}

module _ (T : Axis → Tracks) where
  -- a crossing, told by the numbers of its two tracks
  abbrev pub Crossing : Node → Type 0
  Crossing q = (q.x ≤ (T level).last) × (q.y ≤ (T upright).last)

  -- where it stands
  abbrev pub spot : Node → Node
  spot q = at ((T level).track q.x) ((T upright).track q.y)

  -- The crossings as a grid: the way from one to the next is open if its lowest unit edge is.
  abbrev pub crossings : Grid → Grid
  crossings G = record { wide = (T level).last; high = (T upright).last; Open = λ a q. G.Open a (spot q) }

  -- how long the way in the direction is
  unfoldable pub far : Dir → Node → ℕ
  far d q = gap ((T (axis_of d)).track (coord (axis_of d) q)) ((T (axis_of d)).track (coord (axis_of d) (step d q)))

  pub on_track : (q : Node) → Crossing q → (a : Axis) → coord a q ≤ (T a).last
  on_track q h level = h.0
  on_track q h upright = h.1

  pub coord_spot : (a : Axis) (q : Node) → coord a (spot q) ≡ (T a).track (coord a q)
  coord_spot level q = refl
  coord_spot upright q = refl

  pub place_spot : (a : Axis) (q : Node) → place a ((T a).track (coord a q)) ((T (across a)).track (coord (across a) q)) ≡ spot q
  place_spot level q = refl
  place_spot upright q = refl

-- The tracks go from side to side, and the rule for open unit edges obeys the two slab laws.
pub record Sliced (G : Grid) (T : Axis → Tracks) : Type 0 where
  pub rising : (a : Axis) → Rising (T a) (side a G)
  -- of the unit edges in a row through a slab each is open if one is
  pub along : (a : Axis) (z u u' v : ℕ) → InSlab (T a) z u → InSlab (T a) z u' → G.Open a (place a u v) → G.Open a (place a u' v)
  -- a unit edge strictly inside a slab across, if it is open, is so beside it too, up to the slab's two tracks and on them
  pub aside : (a : Axis) (u v v' : ℕ) → Within (T (across a)) v v' → G.Open a (place a u v') → G.Open a (place a u v)

-- the two laws, of edges on the board
module _ {G : Grid} {T : Axis → Tracks} (sliced : Sliced G T) where
  pub edge_along : (a : Axis) (z u u' v : ℕ) → InSlab (T a) z u → InSlab (T a) z u' → EdgeAt G a u v → EdgeAt G a u' v
  edge_along a z u u' v h k f = (omega (arith, on_board (sliced.rising a) (suc z) k.some), f.1, sliced.along a z u u' v h k f.2)

  pub edge_aside : (a : Axis) (u v v' : ℕ) → Within (T (across a)) v v' → EdgeAt G a u v' → EdgeAt G a u v
  edge_aside a u v v' h f =
      (f.0, omega (arith, on_board (sliced.rising (across a)) (suc h.z) h.some), sliced.aside a u v v' h f.2)
