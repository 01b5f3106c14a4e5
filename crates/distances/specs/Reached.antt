-- What every change keeps: t has 0, what is reached has a way to what is nearer, and the number of reached places bounds every number.
-- Assumes nothing.
use Rattle.std.specs.Prelude.{ℕ, zero, suc, ◌+◌, ◌*◌, ◌≤◌, ◌<◌, ◌≡◌, refl, cond, List, [], ◌∷◌, ◌⊎◌, length, get_or, set, replicate, ltb}
use Rattle.std.proofs.Common.{arith, sym, ap, ◌∙◌, inl, inr, get_or-set_same, get_or-set_other, lt-ltb}
use Rattle.std.proofs.Math.Path.{subst}
use Rattle.std.proofs.Math.Logic.{⊎_elim}
use Rattle.std.proofs.Math.ListN.{length-set}
use Rattle.paper.specs.Laws.Among.{lt_cases, eq_cases}
use Rattle.distances.specs.Lower.{none, Table, Chain, same, more}
use Rattle.distances.specs.Ways.{cell, Map, Way, east, west, north, south}

-- ---- how many places are reached

unfoldable pub reached : List ℕ → ℕ
reached [] = 0
reached (x ∷ xs) = cond (ltb x none) 1 0 + reached xs

one_or_none : (x : ℕ) → ((x < none) × (cond {A = ℕ} (ltb x none) 1 0 ≡ 1)) ⊎ ((none ≤ x) × (cond {A = ℕ} (ltb x none) 1 0 ≡ 0))
one_or_none x = ⊎_elim (λ c. inl (c.0, ap (λ b. cond {A = ℕ} b 1 0) c.1)) (λ c. inr (c.0, ap (λ b. cond {A = ℕ} b 1 0) c.1)) (lt_cases x none)

pub reached_few : (d : List ℕ) → reached d ≤ length d
unfolding reached
reached_few [] = omega arith
reached_few (x ∷ xs) = ⊎_elim (λ c. omega (arith, reached_few xs, c.1)) (λ c. omega (arith, reached_few xs, c.1)) (one_or_none x)

pub reached_none : (n : ℕ) → reached (replicate n none) ≡ 0
unfolding reached
reached_none zero = refl
reached_none (suc n) = omega (arith, reached_none n)

-- a place that is reached anew is one more; one that was reached stays one
pub reached_set : (d : List ℕ) (i v : ℕ) → i < length d → v < none
    → ((get_or d i 0 < none) × (reached (set d i v) ≡ reached d)) ⊎ ((none ≤ get_or d i 0) × (reached (set d i v) ≡ suc (reached d)))
unfolding reached
reached_set [] i v h k = absurd (omega arith)
reached_set (x ∷ xs) zero v h k =
    let e : cond {A = ℕ} (ltb v none) 1 0 ≡ 1 = ap (λ b. cond {A = ℕ} b 1 0) (lt-ltb v none k) in
    ⊎_elim (λ c. inl (c.0, omega (arith, c.1))) (λ c. inr (c.0, omega (arith, c.1))) (one_or_none x)
reached_set (x ∷ xs) (suc i) v h k =
    ⊎_elim (λ c. inl (c.0, omega (arith, c.1))) (λ c. inr (c.0, omega (arith, c.1))) (reached_set xs i v (omega arith) k)

-- ---- what is kept

-- one crossing is lowered by an open way
pub record Lowering (m : Map) (d e : List ℕ) : Type 0 where
  pub i : ℕ
  pub j : ℕ
  pub i' : ℕ
  pub j' : ℕ
  pub w : ℕ
  pub way : Way m i j i' j' w
  pub less : get_or d (cell i' j') 0 + w < get_or d (cell i j) 0
  pub now : e ≡ set d (cell i j) (get_or d (cell i' j') 0 + w)

pub record Good (m : Map) (a b : ℕ) (d : List ℕ) : Type 0 where
  pub table : Table d
  pub target : get_or d (cell a b) 0 ≡ 0
  pub held : (i j : ℕ) → i < m.nx → j < m.ny → get_or d (cell i j) 0 < none → ¬ ((i ≡ a) × (j ≡ b))
      → (i' : ℕ) × (j' : ℕ) × (w : ℕ) × Way m i j i' j' w × (get_or d (cell i' j') 0 + w ≤ get_or d (cell i j) 0)
  pub bound : (c : ℕ) → get_or d c 0 < none → c < 9216 → get_or d c 0 + 30000 ≤ 30000 * reached d
  pub rest : (i j : ℕ) → i < 96 → j < 96 → (m.nx ≤ i) ⊎ (m.ny ≤ j) → get_or d (cell i j) 0 ≡ none

-- a map fits the table: at most 96 tracks an axis, rising, to 30,000 at the most
pub record MapFits (m : Map) : Type 0 where
  pub nx_few : m.nx ≤ 96
  pub ny_few : m.ny ≤ 96
  pub wide : (i j i' j' w : ℕ) → Way m i j i' j' w → (1 ≤ w) × (w ≤ 30000)

pub way_in : (m : Map) (i j i' j' w : ℕ) → Way m i j i' j' w → (i < m.nx) × (j < m.ny) × (i' < m.nx) × (j' < m.ny)
way_in m i j i' j' w (east p q r) = (omega arith, q, p, q)
way_in m i j i' j' w (west p q r) = (p, q, omega arith, q)
way_in m i j i' j' w (north p q r) = (p, omega arith, p, q)
way_in m i j i' j' w (south p q r) = (p, q, p, omega arith)

pub cell_inj : (i j k l : ℕ) → i < 96 → k < 96 → cell i j ≡ cell k l → (i ≡ k) × (j ≡ l)
cell_inj i j k l p q e = (omega arith, omega arith)

-- a number after a change: the new one, or as it was
pub after : (d : List ℕ) (p v c : ℕ) → p < length d → ((c ≡ p) × (get_or (set d p v) c 0 ≡ v)) ⊎ ((¬ (c ≡ p)) × (get_or (set d p v) c 0 ≡ get_or d c 0))
after d p v c h =
    ⊎_elim (λ e. inl (e.0, ap (λ k. get_or (set d p v) k 0) e.0 ∙ get_or-set_same d p v 0 h)) (λ n. inr (n.0, get_or-set_other d p c v 0 n.0)) (eq_cases c p)

module _ (m : Map) (fit : MapFits m) (a b : ℕ) where
  module _ (d e : List ℕ) (g : Good m a b d) (l : Lowering m d e) where
    p : ℕ
    p = cell l.i l.j

    v : ℕ
    v = get_or d (cell l.i' l.j') 0 + l.w

    p_in : p < length d
    unfolding p
    p_in = let w = way_in m l.i l.j l.i' l.j' l.w l.way in omega (arith, w, fit.nx_few, fit.ny_few, g.table.long)

    v_less : v < get_or d p 0
    unfolding p v
    v_less = l.less

    -- no number is larger than it was
    falls : (c : ℕ) → get_or (set d p v) c 0 ≤ get_or d c 0
    falls c = ⊎_elim (λ q. omega (arith, q.1, v_less, ap (λ k. get_or d k 0) q.0)) (λ q. omega (arith, q.1)) (after d p v c p_in)

    target_kept : get_or (set d p v) (cell a b) 0 ≡ 0
    target_kept = omega (arith, falls (cell a b), g.target)

    held_kept : (i j : ℕ) → i < m.nx → j < m.ny → get_or (set d p v) (cell i j) 0 < none → ¬ ((i ≡ a) × (j ≡ b))
        → (i' : ℕ) × (j' : ℕ) × (w : ℕ) × Way m i j i' j' w × (get_or (set d p v) (cell i' j') 0 + w ≤ get_or (set d p v) (cell i j) 0)
    unfolding p v
    held_kept i j hi hj h n =
        ⊎_elim
        (λ q. let w = way_in m l.i l.j l.i' l.j' l.w l.way in
        let s = cell_inj i j l.i l.j (omega (arith, fit.nx_few)) (omega (arith, w.0, fit.nx_few)) q.0 in
        (l.i', l.j', l.w, rw (s.0, s.1) l.way, omega (arith, q.1, falls (cell l.i' l.j'))))
        (λ q. let o = g.held i j hi hj (omega (arith, q.1)) n in
        (o.0, o.1, o.2, o.3, omega (arith, q.1, o.4, falls (cell o.0 o.1))))
        (after d p v (cell i j) p_in)

    v_bound : v + 30000 ≤ 30000 * reached (set d p v)
    unfolding p v
    v_bound =
        let w = way_in m l.i l.j l.i' l.j' l.w l.way in
        let f = fit.wide l.i l.j l.i' l.j' l.w l.way in
        let near = g.bound (cell l.i' l.j') (omega (arith, l.less, g.table.each p, f.0)) (omega (arith, w, fit.nx_few, fit.ny_few)) in
        ⊎_elim
        (λ q. omega (arith, q.1, g.bound p q.0 (omega (arith, p_in, g.table.long)), v_less))
        (λ q. omega (arith, q.1, near, f.1))
        (reached_set d p v p_in (omega (arith, v_less, g.table.each p)))

    grows : reached d ≤ reached (set d p v)
    grows = ⊎_elim (λ q. omega (arith, q.1)) (λ q. omega (arith, q.1)) (reached_set d p v p_in (omega (arith, v_less, g.table.each p)))

    bound_kept : (c : ℕ) → get_or (set d p v) c 0 < none → c < 9216 → get_or (set d p v) c 0 + 30000 ≤ 30000 * reached (set d p v)
    bound_kept c h k =
        ⊎_elim (λ q. omega (arith, q.1, v_bound)) (λ q. omega (arith, q.1, grows, g.bound c (omega (arith, q.1)) k)) (after d p v c p_in)

    rest_kept : (i j : ℕ) → i < 96 → j < 96 → (m.nx ≤ i) ⊎ (m.ny ≤ j) → get_or (set d p v) (cell i j) 0 ≡ none
    unfolding p
    rest_kept i j hi hj o =
        ⊎_elim
        (λ q. let w = way_in m l.i l.j l.i' l.j' l.w l.way in
        let s = cell_inj i j l.i l.j hi (omega (arith, w.0, fit.nx_few)) q.0 in
        absurd (⊎_elim (λ z. omega (arith, s.0, w.0)) (λ z. omega (arith, s.1, w.1)) o))
        (λ q. q.1 ∙ g.rest i j hi hj o)
        (after d p v (cell i j) p_in)

    pub good_lower : Good m a b e
    unfolding p v
    good_lower = subst (λ x. Good m a b x) (sym l.now) (record {
      table = record { long = length-set d p v ∙ g.table.long; each = λ c. omega (arith, falls c, g.table.each c) };
      target = target_kept;
      held = held_kept;
      bound = bound_kept;
      rest = rest_kept;
    })

  pub good_chain : (d e : List ℕ) → Good m a b d → Chain (Lowering m) d e → Good m a b e
  good_chain d e g same = g
  good_chain d e g (more {e = f} c l) = good_lower f e (good_chain d f g c) l
