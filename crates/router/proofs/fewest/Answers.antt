-- `router::fewest` meets its contract: the table of turns, and the answer through it.
use Prim.Native.Nat.{ℕ}
use mathlib.Core.Path.{◌∙◌}
use native.Mathlib.Omega.{arith}
use lib.ListN.{length-replicate}
use Rattle.distances.specs.Ways.{cell, map_of}
use Rattle.router.specs.Modes.{get_or_zeros, least_same, fewer_told}
use Rattle.router.proofs.fewest.Goals as goal

pub bends-requires : goal.bends-requires
bends-requires c =
    let p = c.requires in
    record {
      on_chart = record { on_x = p.s_x; on_y = p.s_y };
      target = p.home;
      owed = p.owed (omega (arith, c.if-left_at-eq-NONE.false, c.left_at.ensures, c.args.chart.now.charted.top (cell c.args.s.i c.args.s.j)));
      long = length-replicate {A = ℕ} 18432 0;
      blank = λ k. get_or_zeros 18432 k;
    }

pub returns : goal.returns
returns c =
    let g = c.args in
    fewer_told (map_of g.chart.now.map.now) g.chart.now.d.now g.s g.t g.p _ (omega (arith, c.if-left_at-eq-NONE.false, c.left_at.ensures, g.chart.now.charted.top (cell g.s.i g.s.j))) _ _ c.bends.ensures
    (c.min-left.ensures ∙ least_same c.turns_at.ensures.0 c.turns_at-2.ensures.0) c.tell.ensures
