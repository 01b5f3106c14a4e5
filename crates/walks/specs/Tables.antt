-- The tables of a search, settled: D has the steps still to go from each crossing, and C what the turns still cost, for each axis by which a
-- wire may come. The trace through them is the best wire.
-- Assumes nothing.
use Rattle.std.specs.Prelude.{ℕ, ◌+◌, ◌≤◌, ◌<◌, ◌≡◌, List, [], ◌++◌, length, replicate}
use Rattle.std.proofs.Common.{arith, sym, length-append}
use Rattle.std.proofs.lemmas.List.{length-replicate}
use Rattle.paper.specs.Grid.{Node, Dir, rank, step, Axis, Grid, Free}
use Rattle.paper.specs.Laws.Steps.{axis_of}
use Rattle.walks.specs.Tracks.{Tracks}
use Rattle.walks.specs.Crossings.{Crossing, crossings, far}
use Rattle.walks.specs.Turns.{Came, by, fee, bend}

module _ (τ : ℕ) (G : Grid) (T : Axis → Tracks) (D : Node → ℕ) (C : Axis → Node → ℕ) where
  -- ---- the trace

  -- From q, come so and with c for turns left, the way in the direction leads nearer by its length and costs what is left.
  pub record Fits (m : Came) (c : ℕ) (q : Node) (d : Dir) : Type 0 where
    pub clear : Free (crossings T G) q d
    pub nearer : D (step d q) + far T d q ≡ D q
    pub turns : C (axis_of d) (step d q) + bend τ m (axis_of d) ≡ c

  -- the trace to g: always by the first direction that fits
  pub data Trace (g : Node) : Came → ℕ → Node → List Dir → Type 0 where
    stop : {m : Came} → Trace g m 0 g []
    go : {m : Came} {c : ℕ} {q : Node} {d : Dir} {rest : List Dir} → Fits m c q d → ((e : Dir) → rank e < rank d → ¬ (Fits m c q e))
        → Trace g (by (axis_of d)) (C (axis_of d) (step d q)) (step d q) rest → Trace g m c q (replicate (far T d q) d ++ rest)

  -- it has as many steps as D says, and its turns cost what is left
  pub trace_length : (g : Node) → D g ≡ 0 → (m : Came) (c : ℕ) (q : Node) (v : List Dir) → Trace g m c q v → length v ≡ D q
  trace_length g z m c q v stop = sym z
  trace_length g z m c q v (go {d = d} {rest = rest} f others t) =
      let w = far T d q in
      omega (arith, f.nearer, trace_length g z _ _ (step d q) rest t, length-append (replicate w d) rest, length-replicate w d)

  -- ---- settled tables

  -- No way makes a number of steps smaller; no way that leads nearer by its length makes a number of turns smaller, and no turn does. Where D is
  -- inf or more the search has not come.
  pub record Settled (inf : ℕ) : Type 0 where
    pub steps : (d : Dir) (q : Node) → Free (crossings T G) q d → D (step d q) < inf → (D q < inf) × (D q ≤ D (step d q) + far T d q)
    pub straight : (d : Dir) (q : Node) → Free (crossings T G) q d → D (step d q) < inf → D (step d q) + far T d q ≡ D q
        → C (axis_of d) q ≤ C (axis_of d) (step d q)
    pub turn : (a b : Axis) (q : Node) → Crossing T q → D q < inf → C a q ≤ C b q + fee τ a b
