-- The corners of a trace, from crossing to crossing: as a program writes them that goes along a way at a time.
-- Assumes nothing.
use Rattle.std.specs.Prelude.{ℕ, ◌≡◌, refl, true, false, List, ◌∷◌, ◌++◌, replicate, eqb}
use Rattle.std.proofs.Math.Path.{ap}
use Rattle.std.proofs.Common.{◌∙◌}
use Rattle.paper.specs.Grid.{Node, Dir, E, N, W, S, rank, step, Axis, Grid, Free}
use Rattle.paper.specs.Wire.{turns, corners}
use Rattle.paper.specs.Laws.Traced.{turns_on, turns_at}
use Rattle.walks.specs.Tracks.{Tracks}
use Rattle.walks.specs.Crossings.{spot, crossings, far, Sliced}
use Rattle.walks.specs.Run.{Lane, last, more}
use Rattle.walks.proofs.Run.{lane}

eqb_same : (d : Dir) → eqb (rank d) (rank d) ≡ true
eqb_same E = refl
eqb_same N = refl
eqb_same W = refl
eqb_same S = refl

-- after the first step of a run there is no corner before its end
after : {G : Grid} {T : Axis → Tracks} {e : Dir} {q p : Node} {k : ℕ} (rest : List Dir) → Lane G T e q k p
    → (v : List Dir) × (replicate k e ++ rest ≡ e ∷ v) × (turns e (step e p) v ≡ turns e q rest)
after {e = e} rest (last f s) = (rest, refl, ap (λ r. turns e r rest) s)
after {e = e} rest (more {p = p} {k = k} f i l) =
    let r = after rest l in
    (replicate k e ++ rest, refl, ap (turns e (step e p)) r.1 ∙ turns_on e e (step e p) r.0 (eqb_same e) ∙ r.2)

-- the wire goes on from the crossing q in the direction e, and then by the rest
module _ {G : Grid} {T : Axis → Tracks} (sliced : Sliced G T) (q : Node) (e : Dir) (f : Free (crossings T G) q e) (rest : List Dir) where
  -- it begins at q,
  pub corner_first : corners (spot T q) (replicate (far T e q) e ++ rest) ≡ spot T q ∷ turns e (spot T (step e q)) rest
  unfolding corners
  corner_first = let r = after rest (lane sliced e q f) in ap (corners (spot T q)) r.1 ∙ ap (◌∷◌ (spot T q)) r.2

  -- or has come there by the same direction,
  pub corner_none : (d : Dir) → eqb (rank d) (rank e) ≡ true → turns d (spot T q) (replicate (far T e q) e ++ rest) ≡ turns e (spot T (step e q)) rest
  corner_none d h = let r = after rest (lane sliced e q f) in ap (turns d (spot T q)) r.1 ∙ turns_on d e (spot T q) r.0 h ∙ r.2

  -- or by another
  pub corner_here : (d : Dir) → eqb (rank d) (rank e) ≡ false
      → turns d (spot T q) (replicate (far T e q) e ++ rest) ≡ spot T q ∷ turns e (spot T (step e q)) rest
  corner_here d h =
      let r = after rest (lane sliced e q f) in
      ap (turns d (spot T q)) r.1 ∙ turns_at d e (spot T q) r.0 h ∙ ap (◌∷◌ (spot T q)) r.2
