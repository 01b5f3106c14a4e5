-- The lines of the map: a change of a line is a crossing lowered by a way, and a calm table is near everywhere.
-- Assumes nothing.
use Rattle.std.specs.Prelude.{ℕ, ◌+◌, ◌-◌, ◌*◌, ◌≤◌, ◌<◌, min, ◌≡◌, Bool, List, set}
use native.Mathlib.Omega.{arith}
use Rattle.std.proofs.Common.{subst, ◌∙◌}
use Rattle.std.proofs.Math.Bool.{true, false}
use Rattle.std.proofs.Math.ListN.{get_or}
use Rattle.distances.specs.declared.Lines.{Lines}
use Rattle.distances.specs.Lower.{none, Table, Done, Chain, same}
use Rattle.distances.specs.Sweep.{Widths, Across, Still}
use Rattle.distances.specs.Sweeping.{chain_map}
use Rattle.distances.specs.Settle.{Side, side, Calm, Either, on_x, on_y, Settles}
use Rattle.distances.specs.Ways.{cell, Map, Way, east, west, north, south, far_of, Distances}
use Rattle.distances.specs.Reached.{Lowering, Good, MapFits, reached, reached_few, way_in, good_chain}
use Rattle.distances.specs.Even.{Even}
use Rattle.distances.specs.Cut.{CutTo, cut_falls}

abbrev pub x_lines : ℕ → ℕ → Lines
x_lines nx ny = record { slabs = nx - 1; along = 1; step = 96; count = ny }

abbrev pub y_lines : ℕ → ℕ → Lines
y_lines nx ny = record { slabs = ny - 1; along = 96; step = 1; count = nx }

abbrev pub x_side : Map → Side
x_side m = side m.flat m.xs (x_lines m.nx m.ny)

abbrev pub y_side : Map → Side
y_side m = side m.tall m.ys (y_lines m.nx m.ny)

-- ---- a change is a lowering

module _ (m : Map) (d e : List ℕ) where
  lowering_of : (from to i j i' j' w : ℕ) → to ≡ cell i j → from ≡ cell i' j' → Way m i j i' j' w → get_or d from 0 + w < get_or d to 0
      → e ≡ set d to (get_or d from 0 + w) → Lowering m d e
  lowering_of from to i j i' j' w p q way less now = record {
    i = i;
    j = j;
    i' = i';
    j' = j';
    w = w;
    way = way;
    less = rw (p, q) at less;
    now = rw (p, q) at now;
  }

  -- the mark of a way, by its place on the line
  free_at : (shut : List ℕ) (place i j : ℕ) → place ≡ cell i j → get_or shut place 0 ≡ 0 → get_or shut (cell i j) 0 ≡ 0
  free_at shut place i j p f = rw p at f

  across_x : (back : Bool) → Across m.flat m.xs (x_lines m.nx m.ny) back d e → Lowering m d e
  across_x false c =
      let k = c.change.k in
      lowering_of _ _ (c.i + 1) k c.i k _ (omega arith) (omega arith)
      (west (omega (arith, c.slab)) c.change.on (free_at m.flat (c.i * 1 + k * 96) c.i k (omega arith) c.change.free)) c.change.less c.change.now
  across_x true c =
      let k = c.change.k in
      lowering_of _ _ c.i k (c.i + 1) k _ (omega arith) (omega arith)
      (east (omega (arith, c.slab)) c.change.on (free_at m.flat (c.i * 1 + k * 96) c.i k (omega arith) c.change.free)) c.change.less c.change.now

  across_y : (back : Bool) → Across m.tall m.ys (y_lines m.nx m.ny) back d e → Lowering m d e
  across_y false c =
      let k = c.change.k in
      lowering_of _ _ k (c.i + 1) k c.i _ (omega arith) (omega arith)
      (south c.change.on (omega (arith, c.slab)) (free_at m.tall (c.i * 96 + k * 1) k c.i (omega arith) c.change.free)) c.change.less c.change.now
  across_y true c =
      let k = c.change.k in
      lowering_of _ _ k c.i k (c.i + 1) _ (omega arith) (omega arith)
      (north c.change.on (omega (arith, c.slab)) (free_at m.tall (c.i * 96 + k * 1) k c.i (omega arith) c.change.free)) c.change.less c.change.now

  lowering : Either (x_side m) (y_side m) d e → Lowering m d e
  lowering (on_x c) = across_x c.back c.across
  lowering (on_y c) = across_y c.back c.across

-- ---- a calm table is near

module _ (m : Map) (d : List ℕ) (x : Calm (x_side m) d) (y : Calm (y_side m) d) where
  near_at : (to from i j i' j' w : ℕ) → to ≡ cell i j → from ≡ cell i' j' → get_or d to 0 ≤ get_or d from 0 + w → get_or d (cell i j) 0 ≤ get_or d (cell i' j') 0 + w
  near_at to from i j i' j' w p q h = rw (p, q) at h

  pub calm_near : (i j i' j' w : ℕ) → Way m i j i' j' w → get_or d (cell i j) 0 ≤ get_or d (cell i' j') 0 + w
  unfolding Calm Still Done
  calm_near i j i' j' w (east {i = k} {j = l} p q r) =
      near_at (k * 1 + l * 96) (k * 1 + 1 + l * 96) k l (k + 1) l _ (omega arith) (omega arith)
      (x true k (omega arith) l q (let z : cell k l ≡ k * 1 + l * 96 = omega arith in rw z at r))
  calm_near i j i' j' w (west {i = k} {j = l} p q r) =
      near_at (k * 1 + 1 + l * 96) (k * 1 + l * 96) (k + 1) l k l _ (omega arith) (omega arith)
      (x false k (omega arith) l q (let z : cell k l ≡ k * 1 + l * 96 = omega arith in rw z at r))
  calm_near i j i' j' w (north {i = k} {j = l} p q r) =
      near_at (l * 96 + k * 1) (l * 96 + 96 + k * 1) k l k (l + 1) _ (omega arith) (omega arith)
      (y true l (omega arith) k p (let z : cell k l ≡ l * 96 + k * 1 = omega arith in rw z at r))
  calm_near i j i' j' w (south {i = k} {j = l} p q r) =
      near_at (l * 96 + 96 + k * 1) (l * 96 + k * 1) k (l + 1) k l _ (omega arith) (omega arith)
      (y false l (omega arith) k p (let z : cell k l ≡ l * 96 + k * 1 = omega arith in rw z at r))

-- ---- the table that is found

pub map_fits : (m : Map) → m.nx ≤ 96 → m.ny ≤ 96 → Widths m.xs (m.nx - 1) → Widths m.ys (m.ny - 1) → MapFits m
map_fits m hx hy x y = record { nx_few = hx; ny_few = hy; wide = wide }
  where
    wide : (i j i' j' w : ℕ) → Way m i j i' j' w → (1 ≤ w) × (w ≤ 30000)
    wide i j i' j' w (east {i = k} p q r) = omega (arith, x.rise k (omega arith), x.top (k + 1) (omega arith))
    wide i j i' j' w (west {i = k} p q r) = omega (arith, x.rise k (omega arith), x.top (k + 1) (omega arith))
    wide i j i' j' w (north {j = k} p q r) = omega (arith, y.rise k (omega arith), y.top (k + 1) (omega arith))
    wide i j i' j' w (south {j = k} p q r) = omega (arith, y.rise k (omega arith), y.top (k + 1) (omega arith))

-- of each axis at least one track and at most 96, rising
pub record Ruled (m : Map) : Type 0 where
  pub nx_some : 1 ≤ m.nx
  pub ny_some : 1 ≤ m.ny
  pub nx_few : m.nx ≤ 96
  pub ny_few : m.ny ≤ 96
  pub wide_x : Widths m.xs (m.nx - 1)
  pub wide_y : Widths m.ys (m.ny - 1)

-- changes of the table, until it is even as far as s
pub record Completes (m : Map) (s : ℕ) (d e : List ℕ) : Type 0 where
  pub table : Table e
  pub chain : Chain (Either (x_side m) (y_side m)) d e
  pub even : Even m e (far_of e s)

-- what is reached by changes from a good table is good
pub good_after : (m : Map) → MapFits m → (a b : ℕ) (d e : List ℕ) → Good m a b d → Chain (Either (x_side m) (y_side m)) d e → Good m a b e
good_after m fit a b d e g c = good_chain m fit a b d e g (chain_map (λ x y l. lowering m x y l) c)

-- a calm table is even, whatever the bound
pub calm_even : (m : Map) (d : List ℕ) (far : ℕ) → Calm (x_side m) d → Calm (y_side m) d → Even m d far
unfolding Even
calm_even m d far x y i j i' j' w way = omega (arith, calm_near m d x y i j i' j' w way)

-- settled, it is even
pub completes_settled : (m : Map) (s : ℕ) (d e : List ℕ) {x y : Side} → x ≡ x_side m → y ≡ y_side m → Settles x y d e → Completes m s d e
completes_settled m s d e p q t =
    let on = rw (p, q) at t in
    record { table = on.table; chain = on.chain; even = calm_even m e _ on.calm_x on.calm_y }

-- and found even it stays
pub completes_even : (m : Map) (s far : ℕ) (d : List ℕ) → Table d → far ≡ far_of d s → Even m d far → Completes m s d d
completes_even m s far d t e even = record { table = t; chain = same; even = subst (Even m d) e even }

-- an even table, cut off, is the table of distances
module _ (m : Map) (fit : MapFits m) (a b p q : ℕ) (ha : a < m.nx) (hb : b < m.ny) (hp : p < m.nx) (hq : q < m.ny) (d e : List ℕ) (good : Good m a b d)
    (even : Even m d (far_of d (cell p q))) (cut : CutTo d e m.nx m.ny (far_of d (cell p q))) where
  far : ℕ
  far = far_of d (cell p q)

  at : (i j : ℕ) → i < m.nx → j < m.ny → get_or e (cell i j) 0 ≡ min (get_or d (cell i j) 0) far
  unfolding far
  at i j = cut.those i j

  -- the number of s stays, and with it the bound
  bound_kept : far_of e (cell p q) ≡ far
  unfolding far
  bound_kept = omega (arith, cut.those p q hp hq, good.table.each (cell p q))

  bound_most : far ≤ none
  unfolding far
  bound_most = omega arith

  near : (i j i' j' w : ℕ) → Way m i j i' j' w → get_or e (cell i' j') 0 < far → (get_or e (cell i j) 0 < none) × (get_or e (cell i j) 0 ≤ get_or e (cell i' j') 0 + w)
  unfolding Even far
  near i j i' j' w way h =
      let k = way_in m i j i' j' w way in
      let n = even i j i' j' w way in
      let there = at i' j' k.2 k.3 in
      let here = at i j k.0 k.1 in
      let few : get_or d (cell i' j') 0 + 30000 ≤ 30000 * reached d =
      good.bound (cell i' j') (omega (arith, there, bound_most)) (omega (arith, k, fit.nx_few, fit.ny_few)) in
      (omega (arith, n, here, few, reached_few d, good.table.long, (fit.wide i j i' j' w way).1), omega (arith, n, here, there))

  nearer : (i j : ℕ) → i < m.nx → j < m.ny → get_or e (cell i j) 0 < far → ¬ ((i ≡ a) × (j ≡ b))
      → (i' : ℕ) × (j' : ℕ) × (w : ℕ) × Way m i j i' j' w × (get_or e (cell i' j') 0 + w ≡ get_or e (cell i j) 0)
  unfolding Even far
  nearer i j hi hj h n =
      let here = at i j hi hj in
      let o = good.held i j hi hj (omega (arith, here, bound_most)) n in
      let k = way_in m i j o.0 o.1 o.2 o.3 in
      let there = at o.0 o.1 k.2 k.3 in
      (o.0, o.1, o.2, o.3, omega (arith, o.4, here, there, even i j o.0 o.1 o.2 o.3))

  top : (c : ℕ) → get_or e c 0 ≤ none
  top c = omega (arith, cut_falls d e m.nx m.ny (far_of d (cell p q)) cut c, good.table.each c)

  pub found : Distances m a b (cell p q) e
  unfolding far
  found = record {
    long = cut.long ∙ good.table.long;
    target = omega (arith, at a b ha hb, good.target);
    near = λ i j i' j' w way h. near i j i' j' w way (omega (arith, bound_kept));
    nearer = λ i j hi hj h. nearer i j hi hj (omega (arith, bound_kept));
    cut = λ i j hi hj. omega (arith, at i j hi hj, bound_kept);
    top = top;
    rest = λ i j hi hj o. cut.others i j hi o ∙ good.rest i j hi hj o;
  }
