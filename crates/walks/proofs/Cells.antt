-- The cell of a node, between the tracks beside it, and the crossings that are its corners; and what a unit step changes of them.
-- The definitions and lemmas under it stand in specs/Cells.
use Rattle.std.specs.Prelude.{ℕ, suc, ◌+◌, ◌≡◌, refl}
use Rattle.std.proofs.Common.{arith, ◌∙◌}
use Rattle.paper.specs.Grid.{Node, Dir, step, Axis, level, upright, Grid, Free}
use Rattle.paper.specs.Layout.{across}
use Rattle.paper.specs.Laws.Steps.{axis_of}
use Rattle.walks.specs.Axes.{coord, place, place_of, coord_place, sense_of, lower, keeps, lands, hop, free}
use Rattle.walks.specs.Tracks.{Tracks}
use Rattle.walks.specs.Beside.{Beside, Seen, still, ahead, seen}
use Rattle.walks.specs.Crossings.{crossings, Sliced}
use Rattle.walks.specs.Ways.{far_is}
use Rattle.walks.proofs.Ways.{way_open}
use Rattle.walks.specs.Cells.{Corner, From, corner, way}

-- ---- corners

-- it is so with either axis first
turn : {T : Axis → Tracks} {p q : Node} {g : ℕ} (a b : Axis) → Corner T a p q g → Corner T b p q g
turn level level c = c
turn level upright c = record { m = c.n; n = c.m; on = c.by; by = c.on; sum = omega arith }
turn upright level c = record { m = c.n; n = c.m; on = c.by; by = c.on; sum = omega arith }
turn upright upright c = c

-- ---- a unit step

module _ {G : Grid} {T : Axis → Tracks} (sliced : Sliced G T) (d : Dir) (p q : Node) where
  from_seen : (m n g : ℕ) → Free G p d → let a = axis_of d in Beside (T (across a)) (coord (across a) p) (coord (across a) q) n → m + n ≡ g
      → Seen (T a) (sense_of d) (coord a p) (coord a (step d p)) (coord a q) m → From G T d p q g
  from_seen m n g f b e (still {h = h} c k o) =
      corner (turn (axis_of d) level (record { m = h; n = n; on = c; by = b; sum = refl })) (omega arith) (omega arith)
  from_seen m n g f b e (ahead {z = z} c one slab long) =
      let a = axis_of d in
      let j = coord (across a) q in
      let edge = way_open sliced a _ _ (lower (sense_of d) z (coord a q)) j n slab b (hop G d p f).edge in
      let k = coord_place a z j in
      let c' : Corner T a p (place a z j) n = record { m = 0; n = n; on = rw k.0 c; by = rw k.1 b; sum = omega arith } in
      way {r = place a z j} (turn a level c') (free (crossings T G) d z (coord a q) j (record { one = one; edge = edge }))
      (lands d z (coord a q) j one ∙ place_of a q) (omega (arith, far_is T d z (coord a q) j (suc m) one long))

  pub from : (g : ℕ) → Free G p d → Corner T level (step d p) q g → From G T d p q g
  from g f c =
      let a = axis_of d in
      let e = turn level a c in
      let h = hop G d p f in
      from_seen e.m e.n g f (rw (keeps d p) at e.by) e.sum
      (seen (sliced.rising a) (sense_of d) (coord a p) (coord a (step d p)) (coord a q) e.m h.one h.edge.0 e.on)
