-- The contract of `bends` decides every number of the table.
-- Assumes nothing.
use Rattle.std.specs.Prelude.{ℕ, zero, suc, ◌≤◌, ◌<◌, ◌≡◌, List, get_or}
use Rattle.std.proofs.Common.{arith, sym, ap, ◌∙◌}
use Rattle.std.proofs.Math.Decide.{ℕ_discrete}
use Rattle.std.proofs.Math.Logic.{by_cases}
use Rattle.paper.specs.Grid.{Node, step, Axis}
use Rattle.paper.specs.Laws.Steps.{axis_of}
use Rattle.distances.specs.Ways.{Map}
use Rattle.trace.specs.Trail.{distance, Charted}
use Rattle.trace.specs.Trail.{noted}
use Rattle.bends.specs.Table.{Reach, Bends}
use Rattle.bends.specs.Going.{falls, reach_more, same?}

module _ (m : Map) (d : List ℕ) (s g : Node) (ch : Charted m d) where
  no_more : (c c' : List ℕ) → Bends m d s g c → Bends m d s g c' → (n : ℕ) (p : Node) (a : Axis) → distance d p < n → Reach m d s p
      → noted c a p ≤ noted c' a p
  no_more c c' b b' zero p a h r = absurd (omega arith)
  no_more c c' b b' (suc n) p a h r =
      by_cases (same? p g) (λ e. omega (arith, (b.exact p r).home e a, (b'.exact p r).home e a)) λ ne.
      let w = (b'.exact p r).source ne a in
      let e = w.dir in
      let next = no_more c c' b b' n (step e p) (axis_of e) (omega (arith, h, falls m d ch p e w.leads)) (reach_more m d s p e r w.leads) in
      omega (arith, next, w.costs, (b.exact p r).most e w.leads a)

  alike : (c c' : List ℕ) → Bends m d s g c → Bends m d s g c' → (k : ℕ) → 1 ≤ get_or c k 0 → get_or c k 0 ≡ get_or c' k 0
  alike c c' b b' k h =
      let n = b.blank k h in
      let p = n.1 in
      let one = no_more c c' b b' (suc (distance d p)) p n.0 (omega arith) n.2 in
      let two = no_more c' c b' b (suc (distance d p)) p n.0 (omega arith) n.2 in
      let same : noted c n.0 p ≡ noted c' n.0 p = omega (arith, one, two) in
      ap (λ k. get_or c k 0) n.3 ∙ same ∙ sym (ap (λ k. get_or c' k 0) n.3)

  pub one_bends : (c c' : List ℕ) → Bends m d s g c → Bends m d s g c' → (k : ℕ) → get_or c k 0 ≡ get_or c' k 0
  one_bends c c' b b' k =
      by_cases (ℕ_discrete (get_or c k 0) 0)
      (λ z. by_cases (ℕ_discrete (get_or c' k 0) 0) (λ w. z ∙ sym w) (λ w. sym (alike c' c b' b k (omega (arith, w)))))
      (λ z. alike c c' b b' k (omega (arith, z)))
