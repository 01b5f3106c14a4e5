-- Lowering where something changed: a chain of changes, whichever they are. Of the marks nothing is said.
-- Assumes nothing.
use Rattle.std.specs.Prelude.{ℕ, ◌+◌, ◌*◌, ◌<◌, true, false, List, get_or, set}
use Rattle.distances.specs.Lower.{cost_of, Table, Chain, same, more, Change}
use Rattle.distances.specs.Going.{less_table, lowers}
use Rattle.distances.specs.Sweep.{Across}
use Rattle.distances.specs.Sweeping.{chain_join, chain_map}
use Rattle.distances.specs.Settle.{Side, Moved, Either, on_x, on_y}

pub record Came (R : List ℕ → List ℕ → Type 0) (d e : List ℕ) : Type 0 where
  pub table : Table e
  pub chain : Chain R d e

module _ {R : List ℕ → List ℕ → Type 0} where
  pub came_first : {d : List ℕ} → Table d → Came R d d
  came_first t = record { table = t; chain = same }

  pub came_then : {d e f : List ℕ} → Came R d e → Came R e f → Came R d f
  came_then p q = record { table = q.table; chain = chain_join p.chain q.chain }

pub came_as : {R S : List ℕ → List ℕ → Type 0} {d e : List ℕ} → ((x y : List ℕ) → R x y → S x y) → Came R d e → Came S d e
came_as f p = record { table = p.table; chain = chain_map f p.chain }

-- ---- on the way along a part of a line

pub came_write : (d₀ shut : List ℕ) (from to edge step count width : ℕ) (d : List ℕ) (k : ℕ)
    → Came (Change shut from to edge step count width) d₀ d → k < count
    → get_or d (from + k * step) 0 + cost_of (get_or shut (edge + k * step) 0) width < get_or d (to + k * step) 0
    → Came (Change shut from to edge step count width) d₀
    (set d (to + k * step) (get_or d (from + k * step) 0 + cost_of (get_or shut (edge + k * step) 0) width))
came_write d₀ shut from to edge step count width d k g on h = record {
  table = less_table d (to + k * step) _ g.table h;
  chain = more g.chain (lowers d₀ shut from to edge step count width d k g.table on h);
}

-- ---- both directions, both axes

pub came_ways : (s : Side) {d e f : List ℕ} → Came (Across s.shut s.at s.lines false) d e
    → Came (Across s.shut s.at s.lines true) e f → Came (Moved s) d f
came_ways s p q = came_then (came_as (λ x y a. record { back = false; across = a }) p) (came_as (λ x y a. record { back = true; across = a }) q)

pub came_axes : (x y : Side) {d e f : List ℕ} → Came (Moved x) d e → Came (Moved y) e f → Came (Either x y) d f
came_axes x y p q = came_then (came_as (λ a b c. on_x c) p) (came_as (λ a b c. on_y c) q)
