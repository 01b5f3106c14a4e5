-- The numbers of one more crossing are written: the table stays exact where it was.
-- Assumes nothing.
use Rattle.std.specs.Prelude.{ℕ, ◌≤◌, ◌≡◌, refl, List, length, get_or, set}
use Rattle.std.proofs.Common.{arith, sym, ap, subst, ◌∙◌, length-set, get_or-set_same, get_or-set_other}
use Rattle.std.proofs.Math.Decide.{ℕ_discrete}
use Rattle.std.proofs.Math.Logic.{by_cases}
use Rattle.paper.specs.Grid.{Node, Dir, step, Axis, level, upright}
use Rattle.paper.specs.Laws.Steps.{axis_of}
use Rattle.distances.specs.Ways.{Map}
use Rattle.trace.specs.Trail.{distance, Leads, Charted}
use Rattle.trace.specs.Trail.{slot, noted}
use Rattle.bends.specs.Table.{On, Exact, Sound, Counted}
use Rattle.bends.specs.Going.{falls, slot_in, slot_one, lands, same?}

abbrev pub after : List ℕ → Node → ℕ → ℕ → List ℕ
after c q x y = set (set c (slot level q) x) (slot upright q) y

module _ (m : Map) (d : List ℕ) (ch : Charted m d) (c : List ℕ) (q : Node) (x y : ℕ) (o : On m q) (long : length c ≡ 18432) where
  pub at_level : noted (after c q x y) level q ≡ x
  at_level =
      get_or-set_other (set c (slot level q) x) (slot upright q) (slot level q) y 0 (λ e. omega arith)
      ∙ get_or-set_same c (slot level q) x 0 (omega (arith, slot_in m d ch level q o))

  pub at_upright : noted (after c q x y) upright q ≡ y
  at_upright = get_or-set_same (set c (slot level q) x) (slot upright q) y 0 (omega (arith, slot_in m d ch upright q o, length-set c (slot level q) x))

  pub elsewhere : (k : ℕ) → ¬ (k ≡ slot level q) → ¬ (k ≡ slot upright q) → get_or (after c q x y) k 0 ≡ get_or c k 0
  elsewhere k a b = get_or-set_other (set c (slot level q) x) (slot upright q) k y 0 b ∙ get_or-set_other c (slot level q) k x 0 a

  pub other : (a : Axis) (p : Node) → On m p → ¬ (p ≡ q) → noted (after c q x y) a p ≡ noted c a p
  other a p r ne = elsewhere (slot a p) (λ e. ne (slot_one m d ch a level p q r o e)) (λ e. ne (slot_one m d ch a upright p q r o e))

  -- a way that leads nearer leads elsewhere
  pub there : (e : Dir) → Leads m d q e → (a : Axis) → noted (after c q x y) a (step e q) ≡ noted c a (step e q)
  there e l a = other a (step e q) (lands m d q e o l) (λ z. omega (arith, ap (distance d) z, falls m d ch q e l))

  module _ (g : Node) (blank : noted c level q ≡ 0) (sound : Sound m d g c) where
    carry : (p : Node) → On m p → ¬ (p ≡ q) → Exact m d g c p → Exact m d g (after c q x y) p
    carry p r ne E = record {
      some = λ a. omega (arith, same a, E.some a);
      small = λ a. omega (arith, same a, E.small a);
      home = λ e a. same a ∙ E.home e a;
      seen = λ e l a. omega (arith, next e l a, E.seen e l a);
      most = λ e l a. omega (arith, same a, next e l (axis_of e), E.most e l a);
      source = λ n a.
          let s = E.source n a in
          record { dir = s.dir; leads = s.leads; costs = omega (arith, same a, next s.dir s.leads (axis_of s.dir), s.costs) };
    }
      where
        same : (a : Axis) → noted (after c q x y) a p ≡ noted c a p
        same a = other a p r ne

        next : (e : Dir) → Leads m d p e → (a : Axis) → noted (after c q x y) a (step e p) ≡ noted c a (step e p)
        next e l a = other a (step e p) (lands m d p e r l) (λ z. omega (arith, ap (noted c level) z, blank, E.seen e l level))

    -- the other number was not there either
    blank_too : noted c upright q ≡ 0
    blank_too = let n : ¬ (1 ≤ noted c upright q) = λ h. omega (arith, blank, (sound upright q o h).some level) in omega (arith, n)

    pub written : Exact m d g (after c q x y) q → Counted m d q g c (after c q x y)
    written E = record {
      long = length-set (set c (slot level q) x) (slot upright q) y ∙ length-set c (slot level q) x ∙ long;
      sound = λ a p r h.
          by_cases (same? p q) (λ e. subst (Exact m d g (after c q x y)) (sym e) E)
          (λ ne. carry p r ne (sound a p r (omega (arith, other a p r ne, h))));
      seen = E.some level;
      grown = record {
        kept = λ k h. elsewhere k (λ e. omega (arith, ap (λ k. get_or c k 0) e, blank, h)) (λ e. omega (arith, ap (λ k. get_or c k 0) e, blank_too, h));
        new = λ k z h.
            by_cases (ℕ_discrete k (slot level q)) (λ e. (level, q, refl, e)) λ n₁.
            by_cases (ℕ_discrete k (slot upright q)) (λ e. (upright, q, refl, e)) λ n₂.
            absurd (omega (arith, elsewhere k n₁ n₂, z, h));
      };
    }
    -- ---- at the goal there are none to make

module _ (m : Map) (d : List ℕ) (ch : Charted m d) (c : List ℕ) (q g : Node) (o : On m q) (long : length c ≡ 18432) where
  pub exact_home : q ≡ g → distance d g ≡ 0 → Exact m d g (after c q 1 1) q
  exact_home e z = record {
    some = λ a. omega (arith, one a);
    small = λ a. omega (arith, one a);
    home = λ h a. one a;
    seen = λ e l a. absurd (none e l);
    most = λ e l a. absurd (none e l);
    source = λ n a. absurd (n e);
  }
    where
      one : (a : Axis) → noted (after c q 1 1) a q ≡ 1
      one level = at_level m d ch c q 1 1 o long
      one upright = at_upright m d ch c q 1 1 o long

      none : (f : Dir) → ¬ (Leads m d q f)
      none f l = omega (arith, ap (distance d) e, z, falls m d ch q f l)
