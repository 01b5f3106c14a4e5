-- What is known on the way along a line: one law for each turn of the loop.
-- Assumes nothing.
use Rattle.std.specs.Prelude.{ℕ, zero, suc, ◌+◌, ◌*◌, ◌≤◌, ◌<◌, refl, Bool, true, false, cond, List, [], ◌∷◌, length, set}
use Rattle.std.proofs.Common.{arith, sym, ap, ◌∙◌, ⊎_elim, length-set, eq-eqb, ne_eqb}
use Rattle.std.proofs.Math.Path.{◌≡◌, subst}
use Rattle.std.proofs.Math.ListN.{get_or}
use borrow.Author.Count.{below_more}
use Rattle.paper.specs.Laws.Among.{eq_cases}
use Rattle.distances.specs.Lower.{none, cost_of, Table, Inside, total, Chain, same, more, Change, Done, Lowered}

-- ---- one number set

set_small : (d : List ℕ) (i j v : ℕ) → get_or d j 0 ≤ none → v ≤ none → get_or (set d i v) j 0 ≤ none
set_small [] i j v h k = h
set_small (x ∷ xs) zero zero v h k = k
set_small (x ∷ xs) zero (suc j) v h k = h
set_small (x ∷ xs) (suc i) zero v h k = h
set_small (x ∷ xs) (suc i) (suc j) v h k = set_small xs i j v h k

pub set_total : (d : List ℕ) (i v : ℕ) → i < length d → v < get_or d i 0 → total (set d i v) < total d
unfolding total
set_total [] i v h k = absurd (omega arith)
set_total (x ∷ xs) zero v h k = omega arith
set_total (x ∷ xs) (suc i) v h k = omega (arith, set_total xs i v (omega arith) k)

-- a table with a number set
pub set_table : (d : List ℕ) (i v : ℕ) → Table d → v ≤ none → Table (set d i v)
set_table d i v t h = record { long = length-set d i v ∙ t.long; each = λ j. set_small d i j v (t.each j) h }

pub less_table : (d : List ℕ) (i v : ℕ) → Table d → v < get_or d i 0 → Table (set d i v)
less_table d i v t h = set_table d i v t (omega (arith, h, t.each i))

-- ---- a change

module _ (shut : List ℕ) (from to edge step count width : ℕ) where
  change_total : (d e : List ℕ) → length d ≡ 9216 → Inside to step count → Change shut from to edge step count width d e → total e < total d
  change_total d e n i c = rw c.now (set_total d _ _ (omega (arith, i.place c.k c.on)) c.less)

-- what the way across costs
cost_free : (s width : ℕ) → s ≡ 0 → cost_of s width ≡ width
cost_free s width e = ap (λ b. cond b width none) (eq-eqb s 0 e)

cost_shut : (s width : ℕ) → ¬ (s ≡ 0) → cost_of s width ≡ none
cost_shut s width n = ap (λ b. cond b width none) (ne_eqb s 0 n)

-- ---- on the way

pub record Going (d₀ d shut : List ℕ) (from to edge step count width : ℕ) (changed : Bool) (k : ℕ) : Type 0 where
  pub table : Table d
  pub chain : Chain (Change shut from to edge step count width) d₀ d
  pub kept : changed ≡ false → (d ≡ d₀) × Done shut from to edge step count width d k
  pub fell : changed ≡ true → total d < total d₀

module _ (d₀ shut : List ℕ) (from to edge step count width : ℕ) where
  pub going_first : Table d₀ → Going d₀ d₀ shut from to edge step count width false 0
  unfolding Done
  going_first s = record {
    table = s;
    chain = same;
    kept = λ e. (refl, λ k h. absurd (omega arith));
    fell = λ e. absurd (let z : ◌≡◌ {A = ℕ} 0 1 = cc in omega arith);
  }

  -- the number stays: it is not more than by the way across
  pub going_skip : (d : List ℕ) (changed : Bool) (k : ℕ) → Going d₀ d shut from to edge step count width changed k
      → get_or d (to + k * step) 0 ≤ get_or d (from + k * step) 0 + cost_of (get_or shut (edge + k * step) 0) width
      → Going d₀ d shut from to edge step count width changed (k + 1)
  unfolding Done
  going_skip d changed k g h = record {
    table = g.table;
    chain = g.chain;
    kept = λ e. ((g.kept e).0, below_more _ k (g.kept e).1 here);
    fell = g.fell;
  }
    where
      here : get_or shut (edge + k * step) 0 ≡ 0 → get_or d (to + k * step) 0 ≤ get_or d (from + k * step) 0 + width
      here f = omega (arith, h, cost_free (get_or shut (edge + k * step) 0) width f)

  -- the number is lowered: then the way across is not shut
  free_there : (d : List ℕ) (a b s : ℕ) → Table d → get_or d a 0 + cost_of s width < get_or d b 0 → s ≡ 0
  free_there d a b s sm h =
      ⊎_elim (λ c. c.0) (λ c. absurd (omega (arith, sm.each b, cost_shut s width c.0))) (eq_cases s 0)

  pub lowers : (d : List ℕ) (k : ℕ) → Table d → k < count
      → get_or d (from + k * step) 0 + cost_of (get_or shut (edge + k * step) 0) width < get_or d (to + k * step) 0
      → Change shut from to edge step count width d (set d (to + k * step) (get_or d (from + k * step) 0 + cost_of (get_or shut (edge + k * step) 0) width))
  lowers d k sm on h =
      let f : get_or shut (edge + k * step) 0 ≡ 0 = free_there d (from + k * step) (to + k * step) (get_or shut (edge + k * step) 0) sm h in
      let c : cost_of (get_or shut (edge + k * step) 0) width ≡ width = cost_free (get_or shut (edge + k * step) 0) width f in
      subst (λ a. Change shut from to edge step count width d (set d (to + k * step) (get_or d (from + k * step) 0 + a))) (sym c) (record {
        k = k;
        on = on;
        free = f;
        less = omega (arith, h, c);
        now = refl;
      })

  pub going_write : (d : List ℕ) (changed : Bool) (k : ℕ) → Going d₀ d shut from to edge step count width changed k → k < count → Inside to step count
      → get_or d (from + k * step) 0 + cost_of (get_or shut (edge + k * step) 0) width < get_or d (to + k * step) 0
      → Going d₀ (set d (to + k * step) (get_or d (from + k * step) 0 + cost_of (get_or shut (edge + k * step) 0) width))
      shut from to edge step count width true (k + 1)
  going_write d changed k g on inside h =
      let v : ℕ = get_or d (from + k * step) 0 + cost_of (get_or shut (edge + k * step) 0) width in
      let c = lowers d k g.table on h in
      let t : total (set d (to + k * step) v) < total d = change_total shut from to edge step count width d _ g.table.long inside c in
      record {
        table = less_table d (to + k * step) v g.table h;
        chain = more g.chain c;
        kept = λ e. absurd (let z : ◌≡◌ {A = ℕ} 0 1 = cc in omega arith);
        fell = λ e. fallen changed g.kept g.fell t;
      }
    where
      fallen : (b : Bool) → (b ≡ false → (d ≡ d₀) × Done shut from to edge step count width d k) → (b ≡ true → total d < total d₀)
          → total (set d (to + k * step) (get_or d (from + k * step) 0 + cost_of (get_or shut (edge + k * step) 0) width)) < total d
          → total (set d (to + k * step) (get_or d (from + k * step) 0 + cost_of (get_or shut (edge + k * step) 0) width)) < total d₀
      fallen true p q t = omega (arith, q refl, t)
      fallen false p q t = omega (arith, ap total (p refl).0, t)

  pub going_end : (d : List ℕ) (changed : Bool) (k : ℕ) → Going d₀ d shut from to edge step count width changed k → k ≡ count
      → Lowered d₀ d shut from to edge step count width changed
  going_end d changed k g e = record { table = g.table; chain = g.chain; kept = rw e at g.kept; fell = g.fell }
