-- What a search of the distances to a goal leaves behind: D has the steps still to go from each crossing.
-- Assumes nothing.
use Rattle.std.specs.Prelude.{ℕ, suc, ◌+◌, ◌≤◌, ◌<◌, ◌≡◌}
use Rattle.std.proofs.Common.{arith, subst₂}
use Rattle.paper.specs.Grid.{Node, Dir, step, Axis, Grid, Free}
use Rattle.paper.specs.Layout.{across}
use Rattle.paper.specs.Laws.Steps.{axis_of}
use Rattle.walks.specs.Axes.{coord, place, place_of, Sense, up, down, sense_of, Further, keeps, lands, EdgeAt, free}
use Rattle.walks.specs.Tracks.{Tracks}
use Rattle.walks.specs.Crossings.{Crossing, crossings, far, Sliced}
use Rattle.walks.specs.Ways.{Way, far_is, way_of}

module _ (G : Grid) (T : Axis → Tracks) (D : Node → ℕ) where
  -- from q the way in the direction is open and leads nearer by its length
  pub record Leads (q : Node) (d : Dir) : Type 0 where
    pub clear : Free (crossings T G) q d
    pub nearer : D (step d q) + far T d q ≡ D q

  -- told by numbers: from track i to the next, i', on track j across
  pub leads : (d : Dir) (i i' j w : ℕ) → let a = axis_of d in Way G T a (sense_of d) i i' j w → D (place a i' j) + w ≡ D (place a i j)
      → Leads (place a i j) d
  leads d i i' j w x e = record {
    clear = free (crossings T G) d i i' j x.hop;
    nearer = rw (lands d i i' j x.hop.one, far_is T d i i' j w x.hop.one x.long) e;
  }

  pub led : (d : Dir) (i i' j w : ℕ) → let a = axis_of d in Further (sense_of d) 1 i i' → Further (sense_of d) w ((T a).track i) ((T a).track i')
      → Leads (place a i j) d → D (place a i' j) + w ≡ D (place a i j)
  led d i i' j w h k l = rw (lands d i i' j h, far_is T d i i' j w h k) at l.nearer

  -- no way makes a number smaller; where it is inf or more the search has not come
  abbrev pub Settled : ℕ → Type 0
  Settled inf = (d : Dir) (q : Node) → Free (crossings T G) q d → D (step d q) < inf → (D q < inf) × (D q ≤ D (step d q) + far T d q)

  -- What a search to g leaves behind: g has 0, no way makes a number smaller, and each other number below `owed` is owed to a way from a smaller
  -- one. A search may stop before it has come everywhere; then `owed` is less than inf.
  pub record Searched (inf owed : ℕ) (g : Node) : Type 0 where
    pub on : Crossing T g
    pub some : 0 < inf
    pub within : owed ≤ inf
    pub here : D g ≡ 0
    pub settled : Settled inf
    pub source : (q : Node) → Crossing T q → D q < owed → ¬ (q ≡ g) → (d : Dir) × Free (crossings T G) q d × (D (step d q) + far T d q ≤ D q)

-- ---- settled, said once over the axis

-- of two neighbours w apart neither makes the other smaller
abbrev pub Even : (inf w x y : ℕ) → Type 0
Even inf w x y = (y < inf → (x < inf) × (x ≤ y + w)) × (x < inf → (y < inf) × (y ≤ x + w))

-- a table is settled if the numbers at the two ends of each open way are even
pub settled_by_axis : {G : Grid} {T : Axis → Tracks} → Sliced G T → (D : Node → ℕ) (inf : ℕ)
    → ((a : Axis) (i j w : ℕ) → EdgeAt (crossings T G) a i j → (T a).track i + w ≡ (T a).track (suc i)
    → Even inf w (D (place a i j)) (D (place a (suc i) j)))
    → Settled G T D inf
settled_by_axis {G} {T} sliced D inf even d q f =
    let a = axis_of d in
    let there = rw (keeps d q) at (place_of a (step d q)) in
    subst₂ (λ y x. D y < inf → (D x < inf) × (D x ≤ D y + far T d q)) there (place_of a q)
    (go a (sense_of d) (coord a q) (coord a (step d q)) (coord (across a) q) (far T d q) (way_of sliced d q f).0)
  where
    go : (a : Axis) (s : Sense) (u v j w : ℕ) → Way G T a s u v j w
        → D (place a v j) < inf → (D (place a u j) < inf) × (D (place a u j) ≤ D (place a v j) + w)
    go a up u v j w x = let e : suc u ≡ v = omega (arith, x.hop.one) in rw (← e) (even a u j w x.hop.edge (rw e x.long)).0
    go a down u v j w x = let e : suc v ≡ u = omega (arith, x.hop.one) in rw (← e) (even a v j w x.hop.edge (rw e x.long)).1
