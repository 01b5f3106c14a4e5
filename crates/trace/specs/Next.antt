-- A trail goes on by the first direction that fits: it is one trail.
-- Assumes nothing.
use Rattle.std.specs.Prelude.{ℕ, ◌<◌, ◌≡◌, refl, ◌⊎◌, Option, Some, None, List, [], ◌++◌, replicate}
use Rattle.std.proofs.Common.{arith, inl, inr}
use Rattle.std.proofs.Math.Path.{subst}
use Rattle.std.proofs.Math.Logic.{⊎_elim}
use Rattle.paper.specs.Grid.{Node, Dir, rank, step}
use Rattle.paper.specs.Laws.Least.{rank_inj}
use Rattle.paper.specs.Laws.Steps.{axis_of}
use Rattle.distances.specs.Ways.{Map}
use Rattle.trace.specs.Trail.{distance, far, Toll, dues, Fits, Trail, stop, go, FirstWay, Charted}
use Rattle.trace.specs.Hops.{far_some}

-- how a trail goes on by the direction
pub record Onward (m : Map) (d : List ℕ) (o : Toll) (g q : Node) (e : Dir) (v : List Dir) : Type 0 where
  pub rest : List Dir
  pub trail : Trail m d o g (Some e) (dues o.price o.table (axis_of e) (step e q)) (step e q) rest
  pub same : v ≡ replicate (far m e q) e ++ rest

module _ (m : Map) (d : List ℕ) (o : Toll) (g : Node) where
  cases : (came : Option Dir) (left : ℕ) (q : Node) (v : List Dir) → Trail m d o g came left q v
      → ((q ≡ g) × (v ≡ [])) ⊎ ((e : Dir) × Fits m d o came left q e × ((f : Dir) → rank f < rank e → ¬ (Fits m d o came left q f)) × Onward m d o g q e v)
  cases came left q v stop = inl (refl, refl)
  cases came left q v (go {e = e} {rest = rest} l n t) = inr (e, l, n, record { rest = rest; trail = t; same = refl })

module _ (m : Map) (d : List ℕ) (o : Toll) (g : Node) (came : Option Dir) (left : ℕ) where
  -- none fits before the first that does
  pub trail_next : (q : Node) (e : Dir) (v : List Dir) → ¬ (q ≡ g) → FirstWay m d o came left q (Some e) → Trail m d o g came left q v → Onward m d o g q e v
  unfolding FirstWay
  trail_next q e v ne w t =
      ⊎_elim (λ c. absurd (ne c.0))
      (λ c. let same : rank c.0 ≡ rank e
      = let a : ¬ (rank c.0 < rank e) = λ z. w.1 c.0 z c.1 in
      let b : ¬ (rank e < rank c.0) = λ z. c.2 e z w.0 in omega (arith, a, b) in
      subst (λ f. Onward m d o g q f v) (rank_inj c.0 e same) c.3)
      (cases m d o g came left q v t)

  pub trail_stuck : (q : Node) (v : List Dir) → ¬ (q ≡ g) → FirstWay m d o came left q None → ¬ (Trail m d o g came left q v)
  unfolding FirstWay
  trail_stuck q v ne w t = ⊎_elim (λ c. ne c.0) (λ c. w c.0 c.1) (cases m d o g came left q v t)

  -- at home it ends
  pub trail_home : (v : List Dir) → Charted m d → distance d g ≡ 0 → Trail m d o g came left g v → v ≡ []
  trail_home v c z t =
      ⊎_elim (λ p. p.1) (λ p. absurd (omega (arith, p.1.leads.nearer, z, far_some m d c g p.0 p.1.leads.clear))) (cases m d o g came left g v t)
