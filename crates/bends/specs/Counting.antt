-- The least over the ways of an axis, and from both axes the numbers of a crossing.
-- Assumes nothing.
use Rattle.std.specs.Prelude.{ℕ, ◌+◌, ◌≤◌, ◌<◌, min, ◌≡◌, refl, true, false, ◌⊎◌, List}
use Rattle.std.proofs.Common.{arith, sym, ap, ◌∙◌, inl, inr, ⊎_elim}
use Rattle.std.proofs.Math.Decide.{dec_le, dec_lt}
use Rattle.std.proofs.Math.Logic.{by_cases}
use Rattle.paper.specs.Grid.{Node, Dir, E, N, W, S, step, Axis, level, upright}
use Rattle.paper.specs.Laws.Steps.{axis_of}
use Rattle.distances.specs.Ways.{Map}
use Rattle.trace.specs.Trail.{distance, Leads, Charted}
use Rattle.trace.specs.Trail.{noted}
use Rattle.bends.specs.Table.{turn, On, Source, Exact, ByWay, Least, Counting, Counted}
use Rattle.bends.specs.Going.{falls, lands, by_axis}
use Rattle.bends.specs.Writing.{after, at_level, at_upright, there, written}

-- ---- one way

module _ (m : Map) (d c : List ℕ) (q : Node) where
  pub by_way : (e : Dir) (best r : ℕ) → Leads m d q e → r ≡ min (noted c (axis_of e) (step e q)) best → ByWay m d c q e best r
  by_way e best r l z = record {
    below = omega arith;
    most = λ k. omega arith;
    is = by_cases (dec_le best (noted c (axis_of e) (step e q))) (λ h. inl (omega arith)) (λ h. inr (l, omega arith));
  }

  pub by_none : (e : Dir) (best : ℕ) → ¬ (Leads m d q e) → ByWay m d c q e best best
  by_none e best n = record { below = omega arith; most = λ k. absurd (n k); is = inl refl }

  -- ---- an axis

  pub least_level : (r₁ r : ℕ) → ByWay m d c q E 2000000000 r₁ → ByWay m d c q W r₁ r → Least m d c q false r
  least_level r₁ r a b = record {
    below = omega (arith, a.below, b.below);
    most = each;
    is = λ h. ⊎_elim (λ e. ⊎_elim (λ f. absurd (omega arith)) (λ l. (E, refl, l.0, l.1 ∙ sym e)) a.is) (λ l. (W, refl, l.0, l.1)) b.is;
  }
    where
      each : (e : Dir) → axis_of e ≡ level → Leads m d q e → r ≤ noted c (axis_of e) (step e q)
      each E z l = omega (arith, a.most l, b.below)
      each W z l = b.most l
      each N z l = absurd (let w : ◌≡◌ {A = ℕ} 0 1 = cc in omega arith)
      each S z l = absurd (let w : ◌≡◌ {A = ℕ} 0 1 = cc in omega arith)

  pub least_upright : (r₁ r : ℕ) → ByWay m d c q N 2000000000 r₁ → ByWay m d c q S r₁ r → Least m d c q true r
  least_upright r₁ r a b = record {
    below = omega (arith, a.below, b.below);
    most = each;
    is = λ h. ⊎_elim (λ e. ⊎_elim (λ f. absurd (omega arith)) (λ l. (N, refl, l.0, l.1 ∙ sym e)) a.is) (λ l. (S, refl, l.0, l.1)) b.is;
  }
    where
      each : (e : Dir) → axis_of e ≡ upright → Leads m d q e → r ≤ noted c (axis_of e) (step e q)
      each N z l = omega (arith, a.most l, b.below)
      each S z l = b.most l
      each E z l = absurd (let w : ◌≡◌ {A = ℕ} 0 1 = cc in omega arith)
      each W z l = absurd (let w : ◌≡◌ {A = ℕ} 0 1 = cc in omega arith)

-- ---- both

module _ (m : Map) (d c : List ℕ) (q g : Node) (ch : Charted m d) (k : Counting m d q g c) (h v : ℕ) (l : Least m d c q false h) (u : Least m d c q true v) where
  o : On m q
  o = k.visiting.on_chart

  next : (e : Dir) → Leads m d q e → Exact m d g c (step e q)
  next e f = k.visiting.sound level (step e q) (lands m d q e o f) (k.seen e f)

  near : (h ≤ distance d q) ⊎ (v ≤ distance d q)
  near =
      let w = k.visiting.owed q o (omega arith) k.away in
      let z : noted c (axis_of w.0) (step w.0 q) ≤ distance d q = omega (arith, (next w.0 w.1).small (axis_of w.0), falls m d ch q w.0 w.1) in
      ⊎_elim (λ a. inl (omega (arith, l.most w.0 a w.1, z))) (λ a. inr (omega (arith, u.most w.0 a w.1, z))) (by_axis w.0)

  few : distance d q ≤ 1000000000
  few = ch.top _

  some_level : 1 ≤ h
  some_level = by_cases (dec_lt h 2000000000) (λ z. let w = l.is z in omega (arith, w.3, (next w.0 w.2).some (axis_of w.0))) (λ z. omega arith)

  some_upright : 1 ≤ v
  some_upright = by_cases (dec_lt v 2000000000) (λ z. let w = u.is z in omega (arith, w.3, (next w.0 w.2).some (axis_of w.0))) (λ z. omega arith)

  pub counted : Counted m d q g c (after c q (min h (v + 1)) (min v (h + 1)))
  counted = written m d ch c q _ _ o k.visiting.long g k.blank k.visiting.sound (record {
    some = some;
    small = small;
    home = λ e a. absurd (k.away e);
    seen = λ e f a. omega (arith, same e f a, (next e f).some a);
    most = λ e f a. most e f a (by_axis e);
    source = λ n a. source a;
  })
    where
      lev : noted (after c q (min h (v + 1)) (min v (h + 1))) level q ≡ min h (v + 1)
      lev = at_level m d ch c q _ _ o k.visiting.long

      upr : noted (after c q (min h (v + 1)) (min v (h + 1))) upright q ≡ min v (h + 1)
      upr = at_upright m d ch c q _ _ o k.visiting.long

      same : (e : Dir) → Leads m d q e → (a : Axis) → noted (after c q (min h (v + 1)) (min v (h + 1))) a (step e q) ≡ noted c a (step e q)
      same = there m d ch c q _ _ o k.visiting.long

      some : (a : Axis) → 1 ≤ noted (after c q (min h (v + 1)) (min v (h + 1))) a q
      some level = omega (arith, lev, some_level)
      some upright = omega (arith, upr, some_upright)

      small : (a : Axis) → noted (after c q (min h (v + 1)) (min v (h + 1))) a q ≤ distance d q + 1
      small level = ⊎_elim (λ z. omega (arith, lev)) (λ z. omega (arith, lev)) near
      small upright = ⊎_elim (λ z. omega (arith, upr)) (λ z. omega (arith, upr)) near

      most : (e : Dir) → Leads m d q e → (a : Axis) → (axis_of e ≡ level) ⊎ (axis_of e ≡ upright)
          → noted (after c q (min h (v + 1)) (min v (h + 1))) a q ≤ noted (after c q (min h (v + 1)) (min v (h + 1))) (axis_of e) (step e q) + turn a (axis_of e)
      most e f level (inl z) = omega (arith, lev, same e f (axis_of e), l.most e z f)
      most e f level (inr z) = omega (arith, lev, same e f (axis_of e), u.most e z f, ap (turn level) z)
      most e f upright (inl z) = omega (arith, upr, same e f (axis_of e), l.most e z f, ap (turn upright) z)
      most e f upright (inr z) = omega (arith, upr, same e f (axis_of e), u.most e z f)

      by_level : (a : Axis) → h + turn a level ≤ noted (after c q (min h (v + 1)) (min v (h + 1))) a q → h < 2000000000
          → Source m d (after c q (min h (v + 1)) (min v (h + 1))) a q
      by_level a n r =
          let w = l.is r in
          record { dir = w.0; leads = w.2; costs = omega (arith, same w.0 w.2 (axis_of w.0), w.3, ap (turn a) w.1, n) }

      by_upright : (a : Axis) → v + turn a upright ≤ noted (after c q (min h (v + 1)) (min v (h + 1))) a q → v < 2000000000
          → Source m d (after c q (min h (v + 1)) (min v (h + 1))) a q
      by_upright a n r =
          let w = u.is r in
          record { dir = w.0; leads = w.2; costs = omega (arith, same w.0 w.2 (axis_of w.0), w.3, ap (turn a) w.1, n) }

      close : (h ≤ 1000000000) ⊎ (v ≤ 1000000000)
      close = ⊎_elim (λ z. inl (omega (arith, few))) (λ z. inr (omega (arith, few))) near

      source : (a : Axis) → Source m d (after c q (min h (v + 1)) (min v (h + 1))) a q
      source level =
          by_cases (dec_le h (v + 1)) (λ z. by_level level (omega (arith, lev)) (⊎_elim (λ r. omega arith) (λ r. omega arith) close))
          (λ z. by_upright level (omega (arith, lev)) (⊎_elim (λ r. omega arith) (λ r. omega arith) close))
      source upright =
          by_cases (dec_le v (h + 1)) (λ z. by_upright upright (omega (arith, upr)) (⊎_elim (λ r. omega arith) (λ r. omega arith) close))
          (λ z. by_level upright (omega (arith, upr)) (⊎_elim (λ r. omega arith) (λ r. omega arith) close))
