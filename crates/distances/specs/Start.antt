-- The table before the search: 0 at t, and nothing else reached. And one table at the most is the table of distances.
-- Assumes nothing.
use Rattle.std.specs.Prelude.{ℕ, zero, suc, ◌+◌, ◌*◌, ◌/◌, ◌%◌, ◌≤◌, ◌<◌, ◌≡◌, refl, List, ◌⊎◌, length, get_or, set, replicate}
use Rattle.std.proofs.Common.{div-add-mod', mod-lt, sym, ◌∙◌, inl, inr, ext_get_or}
use Rattle.std.proofs.Math.Decide.{dec_lt}
use native.Mathlib.Omega.{arith}
use Rattle.std.proofs.Math.Logic.{⊎_elim}
use Rattle.std.proofs.lemmas.List.{length-replicate, get_or-replicate}
use Rattle.std.proofs.Math.ListN.{get_or-eq_default}
use Rattle.paper.specs.Laws.Among.{eq_cases}
use Rattle.distances.specs.Lower.{none, Table}
use Rattle.distances.specs.Going.{set_table}
use Rattle.distances.specs.Ways.{cell, Map, far_of, Distances}
use Rattle.distances.specs.Reached.{Good, MapFits, reached, reached_none, reached_set, way_in, cell_inj, after}

-- nothing reached
pub record Unreached (d : List ℕ) : Type 0 where
  pub long : length d ≡ 9216
  pub each : (c : ℕ) → c < 9216 → get_or d c 0 ≡ none
  pub count : reached d ≡ 0

pub unreached : Unreached (replicate 9216 none)
unreached = record {
  long = length-replicate 9216 none;
  each = λ c h. get_or-replicate 9216 c none 0 h;
  count = reached_none 9216;
}

pub unreached_table : (u : List ℕ) → Unreached u → Table u
unreached_table u z = record {
  long = z.long;
  each = λ c.
      elim (dec_lt c 9216) [
        | yes h ↦ omega (arith, z.each c h)
        | no h ↦ omega (arith, get_or-eq_default u 0 {n = c} (omega (arith, z.long)))
      ];
}

module _ (m : Map) (a b : ℕ) (ha : a < m.nx) (hb : b < m.ny) (hx : m.nx ≤ 96) (hy : m.ny ≤ 96) (u : List ℕ) (z : Unreached u) where
  t : ℕ
  t = cell a b

  t_in : t < 9216
  unfolding t
  t_in = omega arith

  at_c : (c : ℕ) → ((c ≡ t) × (get_or (set u t 0) c 0 ≡ 0)) ⊎ ((¬ (c ≡ t)) × (get_or (set u t 0) c 0 ≡ get_or u c 0))
  at_c c = after u t 0 c (omega (arith, t_in, z.long))

  one_reached : reached (set u t 0) ≡ 1
  one_reached =
      ⊎_elim (λ q. absurd (omega (arith, q.0, z.each t t_in))) (λ q. omega (arith, q.1, z.count)) (reached_set u t 0 (omega (arith, t_in, z.long)) (omega arith))

  pub good_start : Good m a b (set u (cell a b) 0)
  unfolding t
  good_start = record {
    table = set_table u t 0 (unreached_table u z) (omega arith);
    target = ⊎_elim (λ q. q.1) (λ q. absurd (q.0 refl)) (at_c t);
    held = λ i j hi hj h n.
        ⊎_elim (λ q. absurd (n (cell_inj i j a b (omega arith) (omega arith) q.0)))
        (λ q. absurd (omega (arith, q.1, z.each (cell i j) (omega arith)))) (at_c (cell i j));
    bound = λ c h k. ⊎_elim (λ q. omega (arith, q.1, one_reached)) (λ q. absurd (omega (arith, q.1, z.each c k))) (at_c c);
    rest = λ i j hi hj o.
        ⊎_elim (λ q. let s = cell_inj i j a b hi (omega arith) q.0 in absurd (⊎_elim (λ z. omega (arith, s.0)) (λ z. omega (arith, s.1)) o))
        (λ q. q.1 ∙ z.each (cell i j) (omega arith)) (at_c (cell i j));
  }

-- ---- one table

lt_suc : (n : ℕ) → n < suc n
lt_suc n = omega arith

here : (i j a b : ℕ) → ((i ≡ a) × (j ≡ b)) ⊎ (¬ ((i ≡ a) × (j ≡ b)))
here i j a b =
    ⊎_elim (λ p. ⊎_elim (λ q. inl (p.0, q.0)) (λ q. inr (λ h. q.0 h.1)) (eq_cases j b)) (λ p. inr (λ h. p.0 h.0)) (eq_cases i a)

-- by the number of the one table: the other's is not larger
at_most : (m : Map) (a b s : ℕ) (d e : List ℕ) → MapFits m → Distances m a b s d → Distances m a b s e
    → (n i j : ℕ) → i < m.nx → j < m.ny → get_or e (cell i j) 0 < n → get_or e (cell i j) 0 < far_of e s → get_or d (cell i j) 0 ≤ get_or e (cell i j) 0
at_most m a b s d e fit p q zero i j hi hj h k = absurd (omega arith)
at_most m a b s d e fit p q (suc n) i j hi hj h k =
    ⊎_elim
    (λ t. rw (t.0, t.1) (omega (arith, p.target)))
    (λ t. let o = q.nearer i j hi hj k t in
    let w = way_in m i j o.0 o.1 o.2 o.3 in
    let less = at_most m a b s d e fit p q n o.0 o.1 w.2 w.3
    (omega (arith, o.4, (fit.wide i j o.0 o.1 o.2 o.3).0)) (omega (arith, o.4)) in
    elim (dec_lt (get_or d (cell o.0 o.1) 0) (far_of d s)) [
      | yes z ↦ omega (arith, less, o.4, (p.near i j o.0 o.1 o.2 o.3 z).1)
      | no z ↦ omega (arith, less, o.4, p.cut i j hi hj)
    ])
    (here i j a b)

module _ (m : Map) (a b u v : ℕ) (hu : u < m.nx) (hv : v < m.ny) (d e : List ℕ) (fit : MapFits m) (p : Distances m a b (cell u v) d)
    (q : Distances m a b (cell u v) e) where
  de : (i j : ℕ) → i < m.nx → j < m.ny → get_or e (cell i j) 0 < far_of e (cell u v) → get_or d (cell i j) 0 ≤ get_or e (cell i j) 0
  de i j h k = at_most m a b (cell u v) d e fit p q _ i j h k (lt_suc _)

  ed : (i j : ℕ) → i < m.nx → j < m.ny → get_or d (cell i j) 0 < far_of d (cell u v) → get_or e (cell i j) 0 ≤ get_or d (cell i j) 0
  ed i j h k = at_most m a b (cell u v) e d fit q p _ i j h k (lt_suc _)

  -- two bounds that are equal, and each number below its bound is no larger in the other table
  agree : (f g x y : ℕ) → f ≡ g → x ≤ f → y ≤ g → (y < g → x ≤ y) → (x < f → y ≤ x) → x ≡ y
  agree f g x y s h k dx dy =
      elim (dec_lt y g) [
        | yes z ↦ omega (arith, dx z, dy (omega (arith, dx z)))
        | no z ↦ elim (dec_lt x f) [ yes t ↦ absurd (omega (arith, dy t)) | no t ↦ omega arith ]
      ]

  at_s : get_or d (cell u v) 0 ≡ get_or e (cell u v) 0
  at_s = agree none none _ _ refl (p.top (cell u v)) (q.top (cell u v)) (λ z. de u v hu hv (omega arith)) (λ z. ed u v hu hv (omega arith))

  equal_at : (i j : ℕ) → i < 96 → j < 96 → get_or d (cell i j) 0 ≡ get_or e (cell i j) 0
  equal_at i j hi hj =
      elim (dec_lt i m.nx) [
        | no h ↦ p.rest i j hi hj (inl (omega arith)) ∙ sym (q.rest i j hi hj (inl (omega arith)))
        | yes h ↦ elim (dec_lt j m.ny) [
          | no k ↦ p.rest i j hi hj (inr (omega arith)) ∙ sym (q.rest i j hi hj (inr (omega arith)))
          | yes k ↦ agree (far_of d (cell u v)) (far_of e (cell u v)) _ _ (omega (arith, at_s)) (p.cut i j h k) (q.cut i j h k) (de i j h k) (ed i j h k)
        ]
      ]

  -- every place is that of a crossing
  equal : (c : ℕ) → c < 9216 → get_or d c 0 ≡ get_or e c 0
  equal c h =
      let s : c / 96 * 96 + c % 96 ≡ c = div-add-mod' c 96 in
      let r : c % 96 < 96 = mod-lt c (omega arith) in
      let k : cell (c % 96) (c / 96) ≡ c = omega arith in
      rw k at (equal_at (c % 96) (c / 96) r (omega arith))

  pub one_distances : d ≡ e
  one_distances = ext_get_or 0 d e (p.long ∙ sym q.long) (λ c h. equal c (omega (arith, p.long)))
