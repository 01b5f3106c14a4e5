-- Which directions lead nearer: one law for an axis, and how the four directions are its cases.
-- Assumes nothing.
use Prim.Native.Nat.{ℕ, suc, pred, ◌+◌, ◌-◌, ◌*◌, ◌≤◌, ◌<◌}
use native.Mathlib.Omega.{arith}
use Rattle.std.proofs.Math.Path.{◌≡◌, ap, subst}
use Rattle.std.specs.Prelude.{Bool, nat_eq, ◌&&◌, ◌↔◌, Option, Some, None, List}
use Rattle.std.proofs.Common.{sym, ◌∙◌}
use Rattle.std.proofs.Math.Bool.{true, false}
use Rattle.std.proofs.Math.ListN.{get_or}
use Rattle.paper.specs.Grid.{Node, Dir, E, N, W, S, step, Axis, level, upright, Edge, Free}
use Rattle.std.proofs.Math.Dec.{ltb}
use Rattle.paper.specs.Laws.Says.{Says, says_as, says_and, says_eq, says_le}
use Rattle.distances.specs.Sweep.{width_of}
use Rattle.distances.specs.Ways.{Map}
use Rattle.tracks.specs.declared.At.{At}
use Rattle.trace.specs.Trail.{crossing, chart, far, Leads, Nearer, Along, bend_from, OnAxis, Charted, Room}

-- ---- one axis

module _ (d shut at : List ℕ) (n u here step : ℕ) where
  pub along_forth : (forth b : Bool) (w : ℕ) → forth ≡ true → u + 1 < n → w ≡ width_of at u → Says b (Nearer d (get_or shut here 0) (here + step) here w)
      → Says b (Along d shut at n u here step forth)
  unfolding Along
  along_forth true b w e h q s = says_as (λ p. (h, rw q at p)) (λ p. rw q p.1) s
  along_forth false b w e h q s = absurd (let z : ◌≡◌ {A = ℕ} 0 1 = cc in omega arith)

  pub along_end : (forth : Bool) → forth ≡ true → ¬ (u + 1 < n) → Says (ltb (u + 1) n) (Along d shut at n u here step forth)
  unfolding Along
  along_end true e h = says_as (λ p. absurd (h p)) (λ p. p.0) (says_le (suc (u + 1)) n)
  along_end false e h = absurd (let z : ◌≡◌ {A = ℕ} 0 1 = cc in omega arith)

  pub along_back : (forth b : Bool) (w : ℕ) → forth ≡ false → 0 < u → w ≡ width_of at (u - 1) → Says b (Nearer d (get_or shut (here - step) 0) (here - step) here w)
      → Says b (Along d shut at n u here step forth)
  unfolding Along
  along_back false b w e h q s =
      let z : width_of at (u - 1) ≡ get_or at u 0 - get_or at (u - 1) 0 = ap (λ k. get_or at k 0 - get_or at (u - 1) 0) (let k : u - 1 + 1 ≡ u = omega arith in k) in
      says_as (λ p. (h, subst (Nearer d (get_or shut (here - step) 0) (here - step) here) (q ∙ z) p)) (λ p. subst (Nearer d (get_or shut (here - step) 0) (here - step) here) (sym (q ∙ z)) p.1) s
  along_back true b w e h q s = absurd (let z : ◌≡◌ {A = ℕ} 0 1 = cc in omega arith)

  pub along_start : (forth : Bool) → forth ≡ false → ¬ (0 < u) → Says (ltb 0 u) (Along d shut at n u here step forth)
  unfolding Along
  along_start false e h = says_as (λ p. absurd (h p)) (λ p. p.0) (says_le 1 u)
  along_start true e h = absurd (let z : ◌≡◌ {A = ℕ} 0 1 = cc in omega arith)

-- ---- the places of a crossing

module _ (m : Map) (d : List ℕ) (c : Charted m d) (q : At) (hi : q.i < m.nx) (hj : q.j < m.ny) where
  pub on_x : OnAxis d m.xs m.nx q.i (q.i + q.j * 96) 1
  on_x = record {
    few = c.nx_few;
    on = hi;
    wide = c.wide_x;
    step_few = omega arith;
    here_in = omega (arith, c.nx_few, c.ny_few);
    next_in = λ h. omega (arith, c.nx_few, c.ny_few);
    back_in = λ h. omega arith;
    top = c.top;
  }

  pub on_y : OnAxis d m.ys m.ny q.j (q.i + q.j * 96) 96
  on_y = record {
    few = c.ny_few;
    on = hj;
    wide = c.wide_y;
    step_few = omega arith;
    here_in = omega (arith, c.nx_few, c.ny_few);
    next_in = λ h. omega (arith, c.nx_few, c.ny_few);
    back_in = λ h. omega arith;
    top = c.top;
  }

  -- ---- the four directions

  pub east_is : Along d m.flat m.xs m.nx q.i (q.i + q.j * 96) 1 true ↔ Leads m d (crossing q) E
  unfolding Along Free Edge far step
  east_is =
      let e : q.i + q.j * 96 + 1 ≡ suc q.i + q.j * 96 = omega arith in (
        λ p. record { clear = (omega (arith, p.0), omega arith, p.1.free); nearer = rw e at p.1.less },
        λ l. (omega (arith, l.clear.0), record { free = l.clear.2; less = rw e l.nearer }),
      )

  pub north_is : Along d m.tall m.ys m.ny q.j (q.i + q.j * 96) 96 true ↔ Leads m d (crossing q) N
  unfolding Along Free Edge far step
  north_is =
      let e : q.i + q.j * 96 + 96 ≡ q.i + suc q.j * 96 = omega arith in (
        λ p. record { clear = (omega arith, omega (arith, p.0), p.1.free); nearer = rw e at p.1.less },
        λ l. (omega (arith, l.clear.1), record { free = l.clear.2; less = rw e l.nearer }),
      )

  pub west_is : Along d m.flat m.xs m.nx q.i (q.i + q.j * 96) 1 false ↔ Leads m d (crossing q) W
  unfolding Along Free Edge far step
  west_is = (λ p. there p, λ l. back l)
    where
      place : 0 < q.i → q.i + q.j * 96 - 1 ≡ pred q.i + q.j * 96
      place h = omega arith

      prev : 0 < q.i → q.i - 1 ≡ pred q.i
      prev h = omega arith

      there : Along d m.flat m.xs m.nx q.i (q.i + q.j * 96) 1 false → Leads m d (crossing q) W
      there p = record {
        clear = (p.0, (let z : pred q.i < m.nx - 1 = omega (arith, p.0) in z, omega arith, rw (place p.0) at p.1.free));
        nearer = rw (place p.0, prev p.0) at p.1.less;
      }

      back : Leads m d (crossing q) W → Along d m.flat m.xs m.nx q.i (q.i + q.j * 96) 1 false
      back l = let h : 0 < q.i = l.clear.0 in (h, record { free = rw (place h) l.clear.1.2; less = rw (place h, prev h) l.nearer })

  pub south_is : Along d m.tall m.ys m.ny q.j (q.i + q.j * 96) 96 false ↔ Leads m d (crossing q) S
  unfolding Along Free Edge far step
  south_is = (λ p. there p, λ l. back l)
    where
      place : 0 < q.j → q.i + q.j * 96 - 96 ≡ q.i + pred q.j * 96
      place h = omega arith

      prev : 0 < q.j → q.j - 1 ≡ pred q.j
      prev h = omega arith

      there : Along d m.tall m.ys m.ny q.j (q.i + q.j * 96) 96 false → Leads m d (crossing q) S
      there p = record {
        clear = (p.0, (omega arith, (let z : pred q.j < m.ny - 1 = omega (arith, p.0) in z), rw (place p.0) at p.1.free));
        nearer = rw (place p.0, prev p.0) at p.1.less;
      }

      back : Leads m d (crossing q) S → Along d m.tall m.ys m.ny q.j (q.i + q.j * 96) 96 false
      back l = let h : 0 < q.j = l.clear.0 in (h, record { free = rw (place h) l.clear.1.2; less = rw (place h, prev h) l.nearer })

-- ---- where they go

module _ (m : Map) (d : List ℕ) where
  pub lands : (q : Node) (e : Dir) → q.x < m.nx → q.y < m.ny → Leads m d q e → ((step e q).x < m.nx) × ((step e q).y < m.ny)
  lands q e p r l = go e l.clear
    where
      go : (e : Dir) → Free (chart m) q e → ((step e q).x < m.nx) × ((step e q).y < m.ny)
      go E f = unfold Free Edge step in (omega (arith, f.0), r)
      go N f = unfold Free Edge step in (p, omega (arith, f.1))
      go W f = unfold Free Edge step in (let z : pred q.x < m.nx = omega arith in z, r)
      go S f = unfold Free Edge step in (p, let z : pred q.y < m.ny = omega arith in z)

  pub lead_room : Charted m d → (q : At) (e : Dir) → Leads m d (crossing q) e → Room q e
  lead_room c q e l = go e l.clear
    where
      go : (e : Dir) → Free (chart m) (crossing q) e → Room q e
      go E f = unfold Free Edge Room in omega (arith, f.0, c.nx_few)
      go N f = unfold Free Edge Room in omega (arith, f.1, c.ny_few)
      go W f = unfold Free Room in f.0
      go S f = unfold Free Room in f.0

-- ---- what the turn costs

pub bend_most : (came : Option Dir) (b : Axis) (p : ℕ) → bend_from p came b ≤ p
bend_most None b p = omega arith
bend_most (Some E) level p = omega arith
bend_most (Some E) upright p = omega arith
bend_most (Some N) level p = omega arith
bend_most (Some N) upright p = omega arith
bend_most (Some W) level p = omega arith
bend_most (Some W) upright p = omega arith
bend_most (Some S) level p = omega arith
bend_most (Some S) upright p = omega arith

-- ---- crossings that are one

pub one_crossing : (q g : At) {b : Bool} → b ≡ (nat_eq q.i g.i && nat_eq q.j g.j) → Says b (crossing q ≡ crossing g)
one_crossing q g e = rw e (says_as (λ f. λ k. record { x = f.0 k; y = f.1 k }) (λ f. (ap (λ n. n.x) f, ap (λ n. n.y) f)) (says_and (says_eq q.i g.i) (says_eq q.j g.j)))
