-- A table of distances, computed wave by wave, and the steps between corners. Nothing is shown of them: what they give is tested.
-- Assumes nothing.
use Prim.Native.Nat.{ℕ, zero, suc, ◌-◌, ◌*◌}
use Rattle.std.proofs.Math.Bool.{true, false}
use mathlib.Core.List.{List, [], ◌∷◌, ◌++◌}
use Rattle.std.specs.Prelude.{get_or, set, replicate, eqb}
use Rattle.paper.specs.Grid.{Node, Dir, E, N, W, S, step, Block}
use Rattle.paper.specs.Laws.Tests.{freeb}
use Rattle.paper.specs.Laws.Certificate.{Table, look}

-- a table, and the nodes that were reached last, which have its highest number
abbrev pub Wave : Type 0
Wave = Table × List Node

unfoldable pub mark : ℕ → Node → Wave → Wave
mark k p v = (set v.0 p.x (set (get_or v.0 p.x []) p.y k), p ∷ v.1)

-- those of the nodes that were not reached before get the number k
unfoldable pub reach : ℕ → List Node → Wave → Wave
unfolding look mark
reach k [] v = v
reach k (p ∷ ps) v = elim (eqb (look v.0 p) 0) [ true ↦ reach k ps (mark k p v) | false ↦ reach k ps v ]

module _ (w h : ℕ) (bs : List Block) where
  -- the node that the step leads to, if it is free, and these
  unfoldable pub leads : Node → Dir → List Node → List Node
  unfolding freeb step
  leads p d qs = elim (freeb w h bs p d) [ true ↦ step d p ∷ qs | false ↦ qs ]

  -- where free steps lead from the nodes
  unfoldable pub beyond : List Node → List Node
  unfolding leads
  beyond [] = []
  beyond (p ∷ ps) = leads p E (leads p N (leads p W (leads p S (beyond ps))))

  -- n waves more, the first of which gets the number k
  unfoldable pub waves : ℕ → ℕ → Wave → Table
  unfolding reach beyond
  waves zero k v = v.0
  waves (suc n) k v = waves n (suc k) (reach k (beyond v.1) (v.0, []))

  -- as many waves as there are nodes reach all that can be reached
  unfoldable pub distances : Node → Table
  unfolding mark waves
  distances t = waves (suc w * suc h) 2 (mark 1 t (replicate (suc w) (replicate (suc h) 0), []))

-- the steps from corner to corner
unfoldable pub steps : List Node → List Dir
steps [] = []
steps (p ∷ []) = []
steps (p ∷ q ∷ ps) =
    replicate (q.x - p.x) E ++ replicate (q.y - p.y) N ++ replicate (p.x - q.x) W ++ replicate (p.y - q.y) S ++ steps (q ∷ ps)
