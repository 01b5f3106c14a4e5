-- All together, for a board with blocks as the paper has it: what a search over the tracks finds is the answer on the whole grid.
-- The definitions and lemmas under it stand in specs/Route.
use Rattle.std.specs.Prelude.{ℕ, ◌≤◌, ◌<◌, ◌≡◌, refl, List}
use Rattle.std.proofs.Math.Logic.Dec
use Rattle.paper.specs.Grid.{Node, Dir, Axis, level, upright, Block, All, edge, grid_with}
use Rattle.paper.specs.Wire.{Legal}
use Rattle.paper.specs.Laws.Says.{told}
use Rattle.paper.specs.Laws.Tests.{blocked_says}
use Rattle.walks.specs.Axes.{side}
use Rattle.walks.specs.Tracks.{Tracks, Rising}
use Rattle.walks.specs.Crossings.{Crossing, spot, Sliced}
use Rattle.walks.specs.Rule.{BlockTracked}
use Rattle.walks.proofs.Rule.{all_cut, sliced}
use Rattle.walks.specs.Turns.{fresh, Best}
use Rattle.walks.specs.Tables as tables
use Rattle.walks.proofs.Tables.{trace_best, no_wire}
use Rattle.walks.specs.Search.{Searched}
use Rattle.walks.specs.Onward.{Begins, Counted, settle, uncounted}
use Rattle.walks.proofs.Onward.{never_sticks}
use Rattle.walks.specs.Route.{tracks}

module _ {w h : ℕ} {X Y : Tracks} (rise_x : Rising X w) (rise_y : Rising Y h) (bs : List Block)
    (tracked : All (BlockTracked (tracks X Y) (grid_with w h bs)) bs) where
  rising : (a : Axis) → Rising (tracks X Y a) (side a (grid_with w h bs))
  rising level = rise_x
  rising upright = rise_y

  -- the board obeys the two slab laws
  pub laws : Sliced (grid_with w h bs) (tracks X Y)
  laws = sliced (tracks X Y) bs (all_cut (grid_with w h bs) (tracks X Y) rising bs tracked) w h rising

  -- s stands at the crossing p and t at q
  module _ {D : Node → ℕ} {inf : ℕ} (s t p q : Node) (start : spot (tracks X Y) p ≡ s) (end : spot (tracks X Y) q ≡ t) (on : Crossing (tracks X Y) p) where
    -- a search to q is done, of distances and of turns, and p was seen
    module _ (τ : ℕ) (C : Axis → Node → ℕ) {Seen : Node → Type 0} (k : Counted τ (grid_with w h bs) (tracks X Y) D C inf q Seen) (seen : Seen p)
        (n : ℕ) (begins : Begins C p n) where
      -- there is a trace,
      pub some_route : (v : List Dir) × tables.Trace τ (grid_with w h bs) (tracks X Y) D C q fresh n p v
      some_route = never_sticks τ (grid_with w h bs) (tracks X Y) D C k laws (λ a r. Dec.not (told (blocked_says bs (edge a r)))) p n seen begins

      -- and it is the best wire
      pub route : D p < inf → (v : List Dir) → tables.Trace τ (grid_with w h bs) (tracks X Y) D C q fresh n p v → Best τ (grid_with w h bs) s t v
      route r v l =
          rw (← start, ← end)
          (trace_best τ (grid_with w h bs) (tracks X Y) D C laws inf (settle τ (grid_with w h bs) (tracks X Y) D C k) q k.on k.some k.here k.home p on n v l r
          begins.low)

    -- where s is not reached there is no wire
    pub no_route : {owed : ℕ} → Searched (grid_with w h bs) (tracks X Y) D inf owed q → inf ≤ D p → (v : List Dir) → ¬ (Legal (grid_with w h bs) s t v)
    no_route done r =
        rw (← start, ← end)
        (no_wire 0 (grid_with w h bs) (tracks X Y) D (λ a r. 0) laws inf (settle 0 (grid_with w h bs) (tracks X Y) D (λ a r. 0) (uncounted laws done (λ a r. 0) (λ a r. refl)))
        q done.on done.some done.here (λ a. refl) p on r)
