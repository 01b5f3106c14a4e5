-- A table of distances that passes a test, node by node, shows a wire to be the answered one, or that there is none.
-- The definitions and lemmas under it stand in specs/Laws/Certificate.
use Rattle.std.specs.Prelude.{ℕ, suc, ◌<◌, ◌≡◌, ◌↔◌, ◌⊎◌, length, T}
use Rattle.std.proofs.Common.{arith, inr}
use Rattle.std.proofs.Math.Logic.{inl, ⊎_elim}
use mathlib.Core.List.{List, [], ◌∷◌}
use Rattle.paper.specs.Grid.{Node, Dir, step, Grid, Free, Block, grid_with}
use Rattle.paper.specs.Wire.{Legal, Answered}
use Rattle.paper.specs.Laws.Least.{Potential, Greedy, no_wire, answered}
use Rattle.paper.specs.Laws.Steps.{free_inside}
use Rattle.paper.specs.Laws.Says.{Says, says_as, says_always, says_and, says_and₃, says_or, says_if, says_le, says_eq, says_below}
use Rattle.paper.proofs.Tests.{free_says, legal_says}
use Rattle.paper.specs.Laws.Certificate.{Certificate, Far, Near, Table, certificateb, farb, greedyb, look, nearb, routeb, says_dirs, stepb}

-- ---- the table

far_says : (tab : Table) (p : Node) (k : ℕ) → Says (farb tab p k) (Far tab p k)
unfolding farb Far
far_says tab p k = says_or (says_eq _ _) (says_le _ _)

near_says : (a b : ℕ) → Says (nearb a b) (Near a b)
unfolding nearb Near
near_says a b = says_or (says_eq _ _) (says_and (says_le _ _) (says_le _ _))

near_far : (tab : Table) (p q : Node) (k : ℕ) → Near (look tab p) (look tab q) → Far tab p (suc k) → Far tab q k
unfolding Near Far
near_far tab p q k (inl n) f = inl n
near_far tab p q k (inr n) (inl f) = absurd (omega arith)
near_far tab p q k (inr n) (inr f) = inr (omega arith)

module _ (w h : ℕ) (bs : List Block) where
  abbrev grid : Grid
  grid = grid_with w h bs

  -- ---- a table that may be believed

  step_says : (tab : Table) (p : Node) (d : Dir) → Says (stepb w h bs tab p d) (Free grid p d → Near (look tab p) (look tab (step d p)))
  unfolding stepb
  step_says tab p d = says_if (free_says w h bs p d) (near_says _ _)

  certificate_says : (tab : Table) (t : Node) → Says (certificateb w h bs tab t) (Certificate w h bs tab t)
  unfolding certificateb
  certificate_says tab t =
      says_as (λ p. record { start = p.0; along = p.1 }) (λ c. (c.start, c.along))
      (says_and (says_eq _ _) (says_below (λ x. says_below (λ y. says_dirs (step_says tab (record { x = x; y = y }))) (suc h)) (suc w)))

  potential : (tab : Table) (t : Node) → Certificate w h bs tab t → Potential grid t (Far tab)
  unfolding Far
  potential tab t c = record {
    target = λ k. ⊎_elim (λ (z : look tab t ≡ 0). omega (arith, c.start)) (λ (f : k < look tab t). omega (arith, c.start));
    along = λ p d f k. let on = (free_inside grid p d f).0 in near_far tab p (step d p) k (c.along p.x (omega arith) p.y (omega arith) d f);
  }

  -- ---- what it shows

  greedy_says : (tab : Table) (p : Node) (v : List Dir) → Says (greedyb w h bs tab p v) (Greedy grid (Far tab) p v)
  unfolding greedyb Greedy
  greedy_says tab p [] = says_always tt
  greedy_says tab p (a ∷ v) =
      says_and (says_dirs (λ e. says_if (says_le _ _) (says_if (free_says w h bs p e) (far_says tab (step e p) _)))) (greedy_says tab (step a p) v)

  module _ (tab : Table) (s t : Node) (v : List Dir) (passed : T (routeb w h bs tab s t v)) where
    route : Certificate w h bs tab t × ((look tab s ≡ 0) ⊎ (Legal grid s t v × Far tab s (length v) × Greedy grid (Far tab) s v))
    unfolding routeb
    route =
        (says_and (certificate_says tab t)
        (says_or (says_eq _ _) (says_and₃ (legal_says w h bs s t v) (far_says tab s _) (greedy_says tab s v)))).fact passed

    pub none_by_table : (look tab s ≡ 0) ↔ ((u : List Dir) → ¬ (Legal grid s t u))
    unfolding Far
    none_by_table = (
      λ z. no_wire grid t (Far tab) (potential tab t route.0) s (λ k. inl z),
      λ none. ⊎_elim (λ z. z) (λ p. absurd (none v p.0)) route.1,
    )

    pub by_table : ¬ (look tab s ≡ 0) → Answered grid s t v
    by_table some =
        ⊎_elim (λ z. absurd (some z)) (λ p. answered grid t (Far tab) (potential tab t route.0) s v p.0 p.1 p.2) route.1
