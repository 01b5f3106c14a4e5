-- The ways between neighbouring crossings: open where their unit edges are, and as long as their tracks are apart.
-- The definitions and lemmas under it stand in specs/Ways.
use Rattle.std.specs.Prelude.{ℕ}
use Rattle.std.proofs.Common.{⊎_elim}
use Rattle.paper.specs.Grid.{Axis, Grid}
use Rattle.paper.specs.Layout.{across}
use Rattle.walks.specs.Axes.{EdgeAt}
use Rattle.walks.specs.Tracks.{Tracks, InSlab}
use Rattle.walks.specs.Beside.{Beside, beside_last, beside_cases}
use Rattle.walks.specs.Crossings.{crossings, Sliced}
use Rattle.walks.specs.Ways.{low_end, way_edge}

module _ {G : Grid} {T : Axis → Tracks} (sliced : Sliced G T) where
  -- ---- a way and its unit edges

  -- Where a unit edge is open, the way through its slab is so on each track beside it;
  pub way_open : (a : Axis) (u v i j g : ℕ) → InSlab (T a) i u → Beside (T (across a)) v j g → EdgeAt G a u v → EdgeAt (crossings T G) a i j
  way_open a u v i j g h b f =
      let k = sliced.along a i u ((T a).track i) v h (low_end sliced a i h.some) f.2 in
      let open_there = ⊎_elim (λ e. rw e k) (λ w. sliced.aside a ((T a).track i) _ v w k) (beside_cases b) in
      (way_edge G T a i j).1 (h.some, beside_last b, open_there)
