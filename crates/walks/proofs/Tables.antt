-- The tables of a search, settled: D has the steps still to go from each crossing, and C what the turns still cost, for each axis by which a
-- wire may come. The trace through them is the best wire.
-- The definitions and lemmas under it stand in specs/Tables.
use Rattle.std.specs.Prelude.{ℕ, suc, pred, ◌+◌, ◌≤◌, ◌<◌, ◌≡◌, List, length}
use Rattle.std.proofs.Common.{arith}
use Rattle.std.proofs.Math.Path.{refl}
use Rattle.paper.specs.Grid.{Node, Dir, step, Axis, Grid}
use Rattle.paper.specs.Wire.{Legal}
use Rattle.paper.specs.Laws.Steps.{axis_of, free_inside}
use Rattle.walks.specs.Tracks.{Tracks}
use Rattle.walks.specs.Crossings.{Crossing, spot, crossings, far, Sliced}
use Rattle.walks.specs.Ways.{way_of}
use Rattle.walks.specs.Turns.{Came, fresh, by, bend, bends, Best}
use Rattle.walks.specs.Cost.{Upto, AtLeast, Dearer, dearer_than, Firm}
use Rattle.walks.proofs.Cost.{firm_best}
use Rattle.walks.specs.Spread.{OnCrossings, On, on_map}
use Rattle.walks.proofs.Spread.{least, dearer}
use Rattle.walks.specs.Run.{bends_run}
use Rattle.walks.proofs.Run.{lane, run}
use Rattle.walks.specs.Tables.{Fits, Settled, Trace, go, stop, trace_length}

module _ (τ : ℕ) (G : Grid) (T : Axis → Tracks) (D : Node → ℕ) (C : Axis → Node → ℕ) where
  -- ---- the trace

  trace_bends : Sliced G T → (g : Node) (m : Came) (c : ℕ) (q : Node) (v : List Dir) → Trace τ G T D C g m c q v → bends τ m v ≡ c
  trace_bends sliced g m c q v stop = unfold bends in refl
  trace_bends sliced g m c q v (go {d = d} {rest = rest} f others t) =
      omega (arith, f.turns, bends_run τ m d (far T d q) rest (way_of sliced d q f.clear).1, trace_bends sliced g _ _ (step d q) rest t)

  -- ---- settled tables

  module _ (sliced : Sliced G T) (inf : ℕ) (settled : Settled τ G T D C inf) where
    -- they are a potential on the crossings
    abbrev Far : Axis → ℕ → Node → ℕ → Type 0
    Far a c q k = D q < inf → Upto k c (D q) (C a q)

    on_crossings : OnCrossings τ G T Far
    on_crossings = record {
      along = λ d q f c k l m h r.
          let s = settled.steps d q f r in
          let t = h s.0 in
          (omega (arith, t.0), λ e. omega (arith, settled.straight d q f r (omega (arith, t.0)), t.1 (omega (arith, t.0))));
      turning = λ a b c c' q k i m h r. let t = h r in (t.0, λ e. omega (arith, t.1 e, settled.turn a b q i r));
    }

    -- what is left along another axis than the one come along
    other : (m : Came) (b : Axis) (c : ℕ) (q : Node) → Crossing T q → D q < inf → On m (λ a. c ≤ C a q) → c ≤ C b q + bend τ m b
    unfolding On
    other fresh b c q i r h = omega (arith, h b)
    other (by a) b c q i r h = omega (arith, settled.turn a b q i r)

    -- ---- with the goal at g

    module _ (g : Node) (on : Crossing T g) (some : 0 < inf) (here : D g ≡ 0) (no_turns : (a : Axis) → C a g ≡ 0) where
      target : (a : Axis) (c k : ℕ) → Far a c g k → (k ≡ 0) × (c ≡ 0)
      target a c k h = let t = h (omega arith) in let e : k ≡ 0 = omega (arith, t.0) in (e, omega (arith, t.1 (omega arith), no_turns a))

      bounded : (m : Came) (c : ℕ) (q : Node) → Crossing T q → D q < inf → On m (λ a. c ≤ C a q) → AtLeast τ G (spot T g) m (spot T q) (D q) c
      bounded m c q i r h =
          least sliced on_crossings g on target m c q (D q) i
          (on_map m (λ a. c ≤ C a q) (λ a. (l : ℕ) → l ≤ D q → Far a c q l) (λ a n l o r. (o, λ e. n)) h)

      refused : (m : Came) (c : ℕ) (q : Node) (e : Dir) → Crossing T q → 0 < D q → D q < inf → On m (λ a. c ≤ C a q)
          → ¬ (Fits τ G T D C m c q e) → Dearer τ G (spot T g) m (spot T q) e (D q) c
      refused m c q e i n r h not =
          dearer_than τ G (spot T g) m (spot T q) e (suc (pred (D q))) (D q) c c (omega arith) (omega arith)
          (dearer sliced on_crossings g on target m c q (pred (D q)) e i (λ l o r. (omega arith, λ z. omega arith)) λ f l o r'.
          let b = axis_of e in
          let s = settled.steps e q f r' in (
            omega (arith, s.1),
            λ z.
                let tight : D (step e q) + far T e q ≡ D q = omega (arith, s.1) in
                let ne : ¬ (C b (step e q) + bend τ m b ≡ c) = λ x. not (record { clear = f; nearer = tight; turns = x }) in
                omega (arith, settled.straight e q f r' tight, other m b c q i r h),
          ))

      good : (m : Came) (c : ℕ) (q : Node) (v : List Dir) → Trace τ G T D C g m c q v → Crossing T q → D q < inf → On m (λ a. c ≤ C a q)
          → Legal G (spot T q) (spot T g) v × Firm τ G (spot T g) m (spot T q) v
      unfolding Legal Firm
      good m c q v stop i r h = (refl, tt)
      good m c q v (go {d = d} {rest = rest} f others t) i r h =
          let a = axis_of d in
          let near = f.nearer in
          let long = trace_length τ G T D C g here _ _ (step d q) rest t in
          let pos = (way_of sliced d q f.clear).1 in
          let there = (free_inside (crossings T G) q d f.clear).1 in
          let later = good (by a) (C a (step d q)) (step d q) rest t there (omega arith) (unfold On in omega arith) in
          run sliced g on τ d (spot T (step d q)) rest later.0 later.1 m (far T d q) (spot T q) c (lane sliced d q f.clear)
          (omega (arith, f.turns, trace_bends sliced g _ _ (step d q) rest t))
          (λ v l. omega (arith, (bounded m c q i r h v l).0))
          (λ e p.
          let x = refused m c q e i (omega arith) r h (others e p) in
          dearer_than τ G (spot T g) m (spot T q) e (D q) _ c c (omega arith) (omega arith) x)

      module _ (q : Node) (i : Crossing T q) where
        pub trace_best : (c : ℕ) (v : List Dir) → Trace τ G T D C g fresh c q v → D q < inf → ((a : Axis) → c ≤ C a q) → Best τ G (spot T q) (spot T g) v
        unfolding On
        trace_best c v t r h =
            let x = good fresh c q v t i r h in
            firm_best τ G (spot T g) (spot T q) v x.0
            (rw (trace_length τ G T D C g here fresh c q v t, trace_bends sliced g fresh c q v t) (bounded fresh c q i r h)) x.1

        pub no_wire : inf ≤ D q → (v : List Dir) → ¬ (Legal G (spot T q) (spot T g) v)
        unfolding On
        no_wire e v l = omega (arith, (least sliced on_crossings g on target fresh 0 q (suc (length v)) i (λ a k m r. absurd (omega arith)) v l).0)
