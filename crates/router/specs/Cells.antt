-- The router's grid has the rectangles of two keep-outs among its blocks, the paper's goes by cells: they have the same answers in each mode.
-- Assumes nothing.
use Rattle.std.specs.Prelude.{◌≤◌, Result, List, ◌↔◌}
use Rattle.paper.specs.declared.Size.{Size}
use Rattle.paper.specs.declared.Mode.{Mode}
use Rattle.paper.specs.Grid.{Node, Dir, Grid, grid_with}
use Rattle.paper.specs.Wire.{Legal, AnsweredIn}
use Rattle.paper.specs.Layout.{Thing, wires, blocks_to, grid_of}
use Rattle.paper.specs.Laws.Joins.{joined}
use Rattle.paper.proofs.Seams.{legal_joined, in_joined}
use Rattle.router.specs.declared.Wire.{Wire}
use Rattle.router.specs.declared.Untold.{Untold}
use Rattle.router.specs.Route.{AnswersIn}

-- grids with the same legal wires and the same answered ones
module _ (m : Mode) (G H : Grid) (s t : Node) (legal : (w : List Dir) → Legal H s t w ↔ Legal G s t w)
    (answered : (w : List Dir) → AnsweredIn m H s t w ↔ AnsweredIn m G s t w) where
  answers_same : (r : Result Wire Untold) → AnswersIn m G s t r → AnswersIn m H s t r
  answers_same r a = record {
    few = (λ e. let f = a.few.0 e in (f.0, ((answered f.0).1 f.1.0, f.1.1)), λ f. a.few.1 (f.0, ((answered f.0).0 f.1.0, f.1.1)));
    none = (λ e w l. a.none.0 e w ((legal w).0 l), λ n. a.none.1 (λ w l. n w ((legal w).1 l)));
    many = (λ e. let f = a.many.0 e in (f.0, ((answered f.0).1 f.1.0, f.1.1)), λ f. a.many.1 (f.0, ((answered f.0).0 f.1.0, f.1.1)));
    values = λ w f. a.values w ((answered w).0 f.0, f.1);
    silent = a.silent;
    shortest = λ w f. a.shortest w ((answered w).0 f);
  }

pub answers_cells : (m : Mode) (z : Size) (ts : List Thing) (s t : Node) (r : Result Wire Untold) → 1 ≤ z.clearance
    → AnswersIn m (grid_with z.w z.h (joined (blocks_to z.clearance wires ts))) s t r → AnswersIn m (grid_of z ts) s t r
answers_cells m z ts s t r some a = answers_same m _ (grid_of z ts) s t (λ w. legal_joined z ts s t w some) (λ w. in_joined m z ts s t w some) r a
