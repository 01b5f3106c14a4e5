-- One visit: a crossing that was seen, the goal, or one that has its numbers after all that its ways lead to.
-- Assumes nothing.
use Rattle.std.specs.Prelude.{ℕ, ◌≤◌, ◌≡◌, refl, List, get_or}
use Rattle.std.proofs.Common.{arith, sym, ap, subst, ◌∙◌}
use Rattle.std.proofs.Math.Decide.{ℕ_discrete}
use Rattle.std.proofs.Math.Logic.{by_cases}
use Rattle.paper.specs.Grid.{Node, Dir, E, N, W, S, step, level}
use Rattle.distances.specs.Ways.{Map}
use Rattle.trace.specs.Trail.{distance, Leads, Charted, slot, noted}
use Rattle.bends.specs.Table.{On, Reach, here, on, Beyond, Exact, Grown, Visiting, Toward, Visited, Counting, Counted, Asked, Bends}
use Rattle.bends.specs.Going.{falls, lands, reach_on, beyond_reach, beyond_near, slot_one}
use Rattle.bends.specs.Writing.{after, written, exact_home}

pub grown_same : {P : Node → Type 0} {c : List ℕ} → Grown P c c
grown_same = record { kept = λ k h. refl; new = λ k z h. absurd (omega arith) }

pub grown_then : {P Q R : Node → Type 0} {c c₁ c₂ : List ℕ} → ((p : Node) → P p → R p) → ((p : Node) → Q p → R p)
    → Grown P c c₁ → Grown Q c₁ c₂ → Grown R c c₂
grown_then {c₁ = c₁} f g a b = record {
  kept = λ k h. b.kept k (omega (arith, a.kept k h, h)) ∙ a.kept k h;
  new = λ k z h.
      by_cases (ℕ_discrete (get_or c₁ k 0) 0) (λ e. let n = b.new k e h in (n.0, n.1, g n.1 n.2, n.3))
      (λ e. let n = a.new k z (omega (arith, e)) in (n.0, n.1, f n.1 n.2, n.3));
}

module _ (m : Map) (d : List ℕ) (q g : Node) where
  -- ---- toward a neighbour

  pub visiting_on : Charted m d → (e : Dir) (c : List ℕ) → Visiting m d q g c → Leads m d q e → Visiting m d (step e q) g c
  visiting_on ch e c v l = record {
    on_chart = lands m d q e v.on_chart l;
    target = v.target;
    owed = λ p o h n. v.owed p o (omega (arith, h, falls m d ch q e l)) n;
    long = v.long;
    sound = v.sound;
  }

  pub toward_on : (e : Dir) (c c' : List ℕ) → Leads m d q e → Visited m d (step e q) g c c' → Toward m d q g e c c'
  toward_on e c c' l v = record {
    long = v.long;
    sound = v.sound;
    seen = λ k. v.seen;
    grown = record { kept = v.grown.kept; new = λ k z h. let n = v.grown.new k z h in (n.0, n.1, record { dir = e; leads = l; rest = n.2 }, n.3) };
  }

  pub toward_not : (e : Dir) (c : List ℕ) → ¬ (Leads m d q e) → Visiting m d q g c → Toward m d q g e c c
  toward_not e c n v = record { long = v.long; sound = v.sound; seen = λ l. absurd (n l); grown = grown_same }

  pub visiting_then : (e : Dir) (c c' : List ℕ) → Visiting m d q g c → Toward m d q g e c c' → Visiting m d q g c'
  visiting_then e c c' v t = record {
    on_chart = v.on_chart;
    target = v.target;
    owed = v.owed;
    long = t.long;
    sound = t.sound;
  }

  -- ---- the visit itself

  pub visited_seen : (c : List ℕ) → Visiting m d q g c → ¬ (noted c level q ≡ 0) → Visited m d q g c c
  visited_seen c v n = record { long = v.long; sound = v.sound; seen = omega (arith, n); grown = grown_same }

  of_counted : (c c₁ c₂ : List ℕ) → Grown (Reach m d q) c c₁ → Counted m d q g c₁ c₂ → Visited m d q g c c₂
  of_counted c c₁ c₂ b k = record {
    long = k.long;
    sound = k.sound;
    seen = k.seen;
    grown = grown_then (λ p r. r) (λ p e. subst (Reach m d q) (sym e) here) b k.grown;
  }

  pub visited_home : Charted m d → (c : List ℕ) → Visiting m d q g c → noted c level q ≡ 0 → q ≡ g → Visited m d q g c (after c q 1 1)
  visited_home ch c v z e =
      of_counted c c (after c q 1 1) grown_same
      (written m d ch c q 1 1 v.on_chart v.long g z v.sound (exact_home m d ch c q g v.on_chart v.long e v.target))

  module _ (ch : Charted m d) (c c₁ c₂ c₃ c₄ : List ℕ) (v : Visiting m d q g c) (z : noted c level q ≡ 0) (ne : ¬ (q ≡ g))
      (t₁ : Toward m d q g E c c₁) (t₂ : Toward m d q g N c₁ c₂) (t₃ : Toward m d q g W c₂ c₃) (t₄ : Toward m d q g S c₃ c₄) where
    two : Grown (Beyond m d q) c₂ c₄
    two = grown_then (λ p b. b) (λ p b. b) t₃.grown t₄.grown

    three : Grown (Beyond m d q) c₁ c₄
    three = grown_then (λ p b. b) (λ p b. b) t₂.grown two

    four : Grown (Beyond m d q) c c₄
    four = grown_then (λ p b. b) (λ p b. b) t₁.grown three

    still : ¬ (1 ≤ noted c₄ level q)
    still h =
        let n = four.new (slot level q) z h in
        let b = n.2 in
        let o = reach_on m d q n.1 v.on_chart (beyond_reach m d q n.1 b) in
        let e = slot_one m d ch level n.0 q n.1 v.on_chart o n.3 in
        omega (arith, ap (distance d) e, beyond_near m d ch q n.1 b)

    stays : {a b : List ℕ} (e : Dir) → Grown (Beyond m d q) a b → 1 ≤ noted a level (step e q) → 1 ≤ noted b level (step e q)
    stays e w h = omega (arith, w.kept (slot level (step e q)) h, h)

    each : (e : Dir) → Leads m d q e → 1 ≤ noted c₄ level (step e q)
    each E l = stays E three (t₁.seen l)
    each N l = stays N two (t₂.seen l)
    each W l = stays W t₄.grown (t₃.seen l)
    each S l = t₄.seen l

    pub counting : Counting m d q g c₄
    counting = record {
      visiting = record { on_chart = v.on_chart; target = v.target; owed = v.owed; long = t₄.long; sound = t₄.sound };
      away = ne;
      blank = omega (arith, still);
      seen = each;
    }

    pub visited_count : (c₅ : List ℕ) → Counted m d q g c₄ c₅ → Visited m d q g c c₅
    visited_count c₅ k =
        of_counted c c₄ c₅ (record { kept = four.kept; new = λ k z h. let n = four.new k z h in (n.0, n.1, beyond_reach m d q n.1 n.2, n.3) }) k

-- ---- the whole table

module _ (m : Map) (d : List ℕ) (s g : Node) (c : List ℕ) (a : Asked m d s g c) where
  pub asked : Visiting m d s g c
  asked = record {
    on_chart = a.on_chart;
    target = a.target;
    owed = a.owed;
    long = a.long;
    sound = λ b p o h. absurd (omega (arith, a.blank (slot b p), h));
  }

  pub bends : (c' : List ℕ) → Visited m d s g c c' → Bends m d s g c'
  bends c' v = record {
    long = v.long;
    exact = λ p r. go s p a.on_chart (v.sound level s a.on_chart v.seen) r;
    blank = λ k h. v.grown.new k (a.blank k) h;
  }
    where
      go : (q p : Node) → On m q → Exact m d g c' q → Reach m d q p → Exact m d g c' p
      go q p o x here = x
      go q p o x (on {e = e} l r) = let n = lands m d q e o l in go (step e q) p n (v.sound level (step e q) n (x.seen e l level)) r
