-- Demand 2 for every wire that is told: each point of it is where it may be, the distance falls, length and detour are true and fit.
-- Assumes nothing.
use Rattle.std.specs.Prelude.{suc, refl, List, [], ◌∷◌, length}
use Rattle.std.proofs.Common.{arith}
use Rattle.paper.specs.Grid.{Grid, Node, Dir, step}
use Rattle.paper.specs.Wire.{Legal, ToGo}
use Rattle.paper.specs.Copper.{Falls}
use Rattle.paper.specs.Laws.Steps.{Least}

-- ---- the distance still to go

pub least_to_go : (G : Grid) (s t : Node) (w : List Dir) → Least G s t w → ToGo G t s (length w)
least_to_go G s t w a = record { by = w; legal = a.0; long = refl; least = a.1 }

-- the rest of a shortest wire is a shortest wire from there
pub least_rest : (G : Grid) (s t : Node) (d : Dir) (w : List Dir) → Least G s t (d ∷ w) → Least G (step d s) t w
unfolding Legal
least_rest G s t d w a = (a.0.1, λ v l. omega (arith, a.1 (d ∷ v) (a.0.0, l)))

pub least_falls : (G : Grid) (s t : Node) (w : List Dir) → Least G s t w → Falls G t s w
unfolding Falls
least_falls G s t [] a = tt
least_falls G s t (d ∷ w) a =
    let rest = least_rest G s t d w a in (
      (suc (length w), length w, least_to_go G s t (d ∷ w) a, least_to_go G (step d s) t w rest, omega arith),
      least_falls G (step d s) t w rest,
    )
