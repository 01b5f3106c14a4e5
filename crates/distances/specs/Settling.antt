-- Passes put together: two that changed nothing changed nothing.
-- Assumes nothing.
use Rattle.std.specs.Prelude.{ℕ, ◌+◌, ◌<◌, ◌≡◌, Bool, List}
use Rattle.std.proofs.Common.{arith, sym, ap, ◌∙◌}
use Rattle.std.proofs.Math.Path.{refl, subst}
use Rattle.std.proofs.Math.Bool.{true, false}
use Rattle.distances.specs.Lower.{Table, total, Chain, same}
use Rattle.distances.specs.Sweep.{Still, Swept}
use Rattle.distances.specs.Sweeping.{chain_join, chain_map}
use Rattle.distances.specs.Settle.{Side, Moved, Calm, Went, Either, on_x, on_y, Passed, Settles}

-- what two tables, one after the other, are to a third: the sum fell if it fell once
fell_first : (d e f : List ℕ) (b : Bool) → total e < total d → (b ≡ true → total f < total e) → (b ≡ false → f ≡ e) → total f < total d
fell_first d e f true p q r = omega (arith, q refl)
fell_first d e f false p q r = omega (arith, ap total (r refl))

fell_second : (d e f : List ℕ) → e ≡ d → total f < total e → total f < total d
fell_second d e f p q = omega (arith, ap total p)

module _ (s : Side) (d e f : List ℕ) where
  turned : (b c : Bool) → Swept d e s.shut s.at s.lines false b → Swept e f s.shut s.at s.lines true c → Chain (Moved s) d f
  turned b c p q =
      chain_join (chain_map (λ x y a. record { back = false; across = a }) p.chain) (chain_map (λ x y a. record { back = true; across = a }) q.chain)

  -- forth something changed
  pub went_forth : (c : Bool) → Swept d e s.shut s.at s.lines false true → Swept e f s.shut s.at s.lines true c → Went s d f true
  went_forth c p q = record {
    table = q.table;
    chain = turned true c p q;
    kept = λ z. absurd (let n : ◌≡◌ {A = ℕ} 0 1 = cc in omega arith);
    fell = λ z. fell_first d e f c (p.fell refl) q.fell (λ k. (q.kept k).0);
  }

  -- forth nothing did
  pub went_back : (c : Bool) → Swept d e s.shut s.at s.lines false false → Swept e f s.shut s.at s.lines true c → Went s d f c
  unfolding Calm
  went_back c p q =
      let n = p.kept refl in
      record {
        table = q.table;
        chain = turned false c p q;
        kept = λ z. ((q.kept z).0 ∙ n.0, both (q.kept z).0 (q.kept z).1 n.1);
        fell = λ z. fell_second d e f n.0 (q.fell z);
      }
    where
      both : f ≡ e → ((i : ℕ) → i < s.lines.slabs → Still s.shut s.at s.lines true f i)
          → ((i : ℕ) → i < s.lines.slabs → Still s.shut s.at s.lines false e i)
          → (back : Bool) (i : ℕ) → i < s.lines.slabs → Still s.shut s.at s.lines back f i
      both k m n true i h = m i h
      both k m n false i h = subst (λ g. Still s.shut s.at s.lines false g i) (sym k) (n i h)

module _ (x y : Side) (d e f : List ℕ) where
  joined : (b c : Bool) → Went x d e b → Went y e f c → Chain (Either x y) d f
  joined b c p q = chain_join (chain_map (λ g h m. on_x m) p.chain) (chain_map (λ g h m. on_y m) q.chain)

  pub passed_x : (c : Bool) → Went x d e true → Went y e f c → Passed x y d f true
  passed_x c p q = record {
    table = q.table;
    chain = joined true c p q;
    kept = λ z. absurd (let n : ◌≡◌ {A = ℕ} 0 1 = cc in omega arith);
    fell = λ z. fell_first d e f c (p.fell refl) q.fell (λ k. (q.kept k).0);
  }

  pub passed_y : (c : Bool) → Went x d e false → Went y e f c → Passed x y d f c
  passed_y c p q =
      let n = p.kept refl in
      record {
        table = q.table;
        chain = joined false c p q;
        kept = λ z. ((q.kept z).0 ∙ n.0, subst (Calm x) (sym (q.kept z).0) n.1, (q.kept z).1);
        fell = λ z. fell_second d e f n.0 (q.fell z);
      }

-- ---- until nothing changes

abbrev pub one : Bool → ℕ
one true = 1
one false = 0

pub record Settling (x y : Side) (d₀ d : List ℕ) (changed : Bool) : Type 0 where
  pub table : Table d
  pub chain : Chain (Either x y) d₀ d
  pub calm : changed ≡ false → Calm x d × Calm y d

module _ (x y : Side) (d₀ : List ℕ) where
  pub settling_first : Table d₀ → Settling x y d₀ d₀ true
  settling_first t = record { table = t; chain = same; calm = λ z. absurd (let n : ◌≡◌ {A = ℕ} 0 1 = cc in omega arith) }

  pub settling_on : (d e : List ℕ) (b c : Bool) → Settling x y d₀ d b → Passed x y d e c → Settling x y d₀ e c
  settling_on d e b c s p = record {
    table = p.table;
    chain = chain_join s.chain p.chain;
    calm = λ z. ((p.kept z).1, (p.kept z).2);
  }

  pub settling_less : (d e : List ℕ) (b c : Bool) → b ≡ true → Passed x y d e c → total e + one c < total d + one b
  settling_less d e true true z p = omega (arith, p.fell refl)
  settling_less d e true false z p = omega (arith, ap total (p.kept refl).0)
  settling_less d e false c z p = absurd (let n : ◌≡◌ {A = ℕ} 0 1 = cc in omega arith)

  pub settling_end : (d : List ℕ) (b : Bool) → b ≡ false → Settling x y d₀ d b → Settles x y d₀ d
  settling_end d b z s = record { table = s.table; chain = s.chain; calm_x = (s.calm z).0; calm_y = (s.calm z).1 }
