-- The ways between neighbouring crossings: open where their unit edges are, and as long as their tracks are apart.
-- Assumes nothing.
use Rattle.std.specs.Prelude.{ℕ, suc, ◌≤◌, ◌<◌, ◌≡◌, ◌↔◌}
use Rattle.std.proofs.Common.{arith, ap}
use Rattle.paper.specs.Grid.{Node, Dir, step, Axis, level, upright, Grid, Free}
use Rattle.paper.specs.Wire.{gap}
use Rattle.paper.specs.Layout.{across}
use Rattle.paper.specs.Laws.Steps.{axis_of}
use Rattle.walks.specs.Axes.{coord, place, coord_place, Sense, up, down, sense_of, Further, lower, lands, EdgeAt, Hop, hop}
use Rattle.walks.specs.Tracks.{Tracks, Rising, InSlab, on_board}
use Rattle.walks.specs.Crossings.{crossings, far, Sliced, edge_along}

-- ---- a way, and the step between crossings that takes it

-- the way of length w along the axis from track i to the next, i', on track j across
pub record Way (G : Grid) (T : Axis → Tracks) (a : Axis) (s : Sense) (i i' j w : ℕ) : Type 0 where
  pub hop : Hop (crossings T G) a s i i' j
  pub long : Further s w ((T a).track i) ((T a).track i')

-- it is told by its lowest unit edge
pub way_edge : (G : Grid) (T : Axis → Tracks) (a : Axis) (i j : ℕ)
    → EdgeAt (crossings T G) a i j ↔ ((i < (T a).last) × (j ≤ (T (across a)).last) × G.Open a (place a ((T a).track i) ((T (across a)).track j)))
way_edge G T level i j = (λ f. f, λ f. f)
way_edge G T upright i j = (λ f. f, λ f. f)

-- it is as long as `far` says
gap_is : (s : Sense) (n u v : ℕ) → Further s n u v → gap u v ≡ n
unfolding gap
gap_is up n u v h = omega arith
gap_is down n u v h = omega arith

pub far_is : (T : Axis → Tracks) (d : Dir) (i i' j w : ℕ) → let a = axis_of d in Further (sense_of d) 1 i i'
    → Further (sense_of d) w ((T a).track i) ((T a).track i') → far T d (place a i j) ≡ w
unfolding far
far_is T d i i' j w h k =
    let a = axis_of d in rw (lands d i i' j h, (coord_place a i j).0, (coord_place a i' j).0) (gap_is (sense_of d) w _ _ k)

gap_further : {U : Tracks} {side : ℕ} → Rising U side → (s : Sense) (i j : ℕ) → Further s 1 i j → lower s i j < U.last
    → let w = gap (U.track i) (U.track j) in Further s w (U.track i) (U.track j) × (0 < w)
unfolding gap
gap_further {U} r up i j h p = let e : U.track (suc i) ≡ U.track j = ap U.track (omega arith) in omega (arith, r.inc i p)
gap_further {U} r down i j h p = let e : U.track (suc j) ≡ U.track i = ap U.track (omega arith) in omega (arith, r.inc j p)

module _ {G : Grid} {T : Axis → Tracks} (sliced : Sliced G T) where
  pub way_of : (d : Dir) (q : Node) → Free (crossings T G) q d
      → let a = axis_of d in Way G T a (sense_of d) (coord a q) (coord a (step d q)) (coord (across a) q) (far T d q) × (0 < far T d q)
  unfolding far
  way_of d q f =
      let a = axis_of d in
      let h = hop (crossings T G) d q f in
      let w = gap_further (sliced.rising a) (sense_of d) (coord a q) (coord a (step d q)) h.one ((way_edge G T a _ _).0 h.edge).0 in
      (record { hop = h; long = w.0 }, w.1)

  -- ---- a way and its unit edges

  -- a track stands at the low end of its slab
  pub low_end : (a : Axis) (i : ℕ) → i < (T a).last → InSlab (T a) i ((T a).track i)
  low_end a i p = omega (arith, (sliced.rising a).inc i p)

  -- and where a way is open, so is each of its unit edges.
  pub way_free : (a : Axis) (u i j : ℕ) → InSlab (T a) i u → EdgeAt (crossings T G) a i j → EdgeAt G a u ((T (across a)).track j)
  way_free a u i j h f =
      let o = (way_edge G T a i j).0 f in
      let low = low_end a i h.some in
      edge_along sliced a i ((T a).track i) u _ low h
      (omega (arith, on_board (sliced.rising a) (suc i) h.some), on_board (sliced.rising (across a)) j o.1, o.2)
