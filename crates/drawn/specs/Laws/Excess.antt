-- What the router's answer says of a shortest wire.
-- Assumes nothing.
use Rattle.std.specs.Prelude.{ℕ, ◌-◌, ◌≤◌, ◌≡◌, refl, Result, Ok, Err, List}
use Rattle.std.proofs.Common.{arith}
use Rattle.paper.specs.declared.Mode.TheVariants.{Plain}
use Rattle.paper.specs.Grid.{Node, Dir, Grid}
use Rattle.paper.specs.Wire.{Legal, ToGo}
use Rattle.paper.specs.Laws.Least.{in_least}
use Rattle.paper.specs.Laws.Told.{least_to_go}
use Rattle.router.specs.declared.Wire.{Wire}
use Rattle.router.specs.declared.Untold.{Untold}
use Rattle.router.specs.declared.Untold.TheVariants.{NoWire, TooManyRuns}
use Rattle.router.specs.Route.{shortest_of, Answers}
use Rattle.drawn.specs.Drawing.{Reached, Over}

module _ (G : Grid) (s t : Node) where
  shortest_to_go : (r : Result Wire Untold) → Answers G s t r → (v : List Dir) → Legal G s t v → ToGo G t s (shortest_of r)
  shortest_to_go (Ok u) c v l = let w = c.few.0 refl in rw (c.shortest w.0 w.1.0) (least_to_go G s t w.0 (in_least Plain G s t w.0 w.1.0))
  shortest_to_go (Err NoWire) c v l = absurd (c.none.0 refl v l)
  shortest_to_go (Err (TooManyRuns n)) c v l = let w = c.many.0 refl in rw (c.shortest w.0 w.1.0) (least_to_go G s t w.0 (in_least Plain G s t w.0 w.1.0))

  module _ (r : Result Wire Untold) (a : Answers G s t r) (n : ℕ) (h : Reached G s t n) (k : ℕ) (e : k ≡ shortest_of r) where
    to_go : ToGo G t s (shortest_of r)
    unfolding Reached
    to_go = shortest_to_go r a h.0 h.1

    pub no_longer : k ≤ n
    unfolding Reached
    no_longer = omega (arith, to_go.least h.0 h.1, h.2, e)

    pub over_by : Over G s t n (n - k)
    unfolding Over
    over_by = (shortest_of r, to_go, omega (arith, no_longer, e))
