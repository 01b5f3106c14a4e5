-- One slab after another: what is known on the way of a sweep.
-- Assumes nothing.
use Rattle.std.specs.Prelude.{◌||◌, ℕ, ◌+◌, ◌-◌, ◌≤◌, ◌<◌, ◌≡◌, Bool, true, List, get_or}
use Rattle.std.proofs.Common.{arith, sym, ◌∙◌}
use Rattle.std.proofs.Math.Path.{refl, ap, subst}
use Rattle.std.proofs.Math.Bool.{false, or-true, or-false}
use borrow.Author.Count.{below_more}
use Rattle.distances.specs.declared.Lines.{Lines}
use Rattle.distances.specs.Lower.{Table, total, Chain, same, more}
use Rattle.distances.specs.Sweep.{width_of, Widths, slab_at, Slabbed, Across, Still, Swept}

-- ---- chains

pub chain_join : {R : List ℕ → List ℕ → Type 0} {d e f : List ℕ} → Chain R d e → Chain R e f → Chain R d f
chain_join c same = c
chain_join c (more p r) = more (chain_join c p) r

pub chain_map : {R S : List ℕ → List ℕ → Type 0} {d e : List ℕ} → ((x y : List ℕ) → R x y → S x y) → Chain R d e → Chain S d e
chain_map f same = same
chain_map f (more {e = e} {f = g} p r) = more (chain_map f p) (f e g r)

-- ---- a slab

pub narrow : (at : List ℕ) (slabs i : ℕ) → Widths at slabs → i < slabs → (get_or at i 0 ≤ get_or at (i + 1) 0) × (width_of at i ≤ 30000)
narrow at slabs i w h = (omega (arith, w.rise i h), omega (arith, w.rise i h, w.top (i + 1) (omega arith)))

-- ---- on the way

-- the slab that comes kth is one of the slabs; and each comes
pub slab_in : (l : Lines) (back : Bool) (k : ℕ) → k < l.slabs → slab_at l back k < l.slabs
slab_in l true k h = omega arith
slab_in l false k h = h

slab_comes : (l : Lines) (back : Bool) (P : ℕ → Type 0) → ((k : ℕ) → k < l.slabs → P (slab_at l back k)) → (i : ℕ) → i < l.slabs → P i
slab_comes l true P f i h = let e : l.slabs - 1 - (l.slabs - 1 - i) ≡ i = omega arith in subst P e (f (l.slabs - 1 - i) (omega arith))
slab_comes l false P f i h = f i h

pub record Sweeping (d₀ d shut at : List ℕ) (l : Lines) (back : Bool) (changed : Bool) (k : ℕ) : Type 0 where
  pub table : Table d
  pub chain : Chain (Across shut at l back) d₀ d
  pub kept : changed ≡ false → (d ≡ d₀) × ((j : ℕ) → j < k → Still shut at l back d (slab_at l back j))
  pub fell : changed ≡ true → total d < total d₀

module _ (d₀ shut at : List ℕ) (l : Lines) (back : Bool) where
  pub sweeping_first : Table d₀ → Sweeping d₀ d₀ shut at l back false 0
  sweeping_first t = record {
    table = t;
    chain = same;
    kept = λ e. (refl, λ j h. absurd (omega arith));
    fell = λ e. absurd (let z : ◌≡◌ {A = ℕ} 0 1 = cc in omega arith);
  }

  module _ (d e : List ℕ) (changed : Bool) (k : ℕ) (s : Sweeping d₀ d shut at l back changed k) (h : k < l.slabs) where
    slab_chain : (b : Bool) → Slabbed d e shut at l back k b → Chain (Across shut at l back) d₀ e
    slab_chain b r = chain_join s.chain (chain_map (λ x y c. record { i = slab_at l back k; slab = slab_in l back k h; change = c }) r.chain)

    -- the slab changed something
    sweeping_more : Slabbed d e shut at l back k true → Sweeping d₀ e shut at l back true (k + 1)
    sweeping_more r = record {
      table = r.table;
      chain = slab_chain true r;
      kept = λ e. absurd (let z : ◌≡◌ {A = ℕ} 0 1 = cc in omega arith);
      fell = λ e. fallen changed s.kept s.fell (r.fell refl);
    }
      where
        fallen : (b : Bool) → (b ≡ false → (d ≡ d₀) × ((j : ℕ) → j < k → Still shut at l back d (slab_at l back j))) → (b ≡ true → total d < total d₀)
            → total e < total d → total e < total d₀
        fallen true p q t = omega (arith, q refl)
        fallen false p q t = omega (arith, ap total (p refl).0)

    -- or nothing
    sweeping_on : Slabbed d e shut at l back k false → Sweeping d₀ e shut at l back changed (k + 1)
    unfolding Still
    sweeping_on r =
        let n = r.kept refl in
        record {
          table = r.table;
          chain = slab_chain false r;
          kept = λ c. (n.0 ∙ (s.kept c).0, below_more _ k (λ j q. subst (λ x. Still shut at l back x (slab_at l back j)) (sym n.0) ((s.kept c).1 j q)) n.1);
          fell = λ c. omega (arith, ap total n.0, s.fell c);
        }

    pub sweeping_next : (b : Bool) → Slabbed d e shut at l back k b → Sweeping d₀ e shut at l back (changed || b) (k + 1)
    sweeping_next true r = rw or-true (sweeping_more r)
    sweeping_next false r = rw or-false (sweeping_on r)

  pub sweeping_end : (d : List ℕ) (changed : Bool) (k : ℕ) → Sweeping d₀ d shut at l back changed k → k ≡ l.slabs → Swept d₀ d shut at l back changed
  sweeping_end d changed k s e =
      record {
        table = s.table;
        chain = s.chain;
        kept = λ c. ((s.kept c).0, slab_comes l back (Still shut at l back d) (λ j q. (s.kept c).1 j (omega arith)));
        fell = s.fell;
      }
