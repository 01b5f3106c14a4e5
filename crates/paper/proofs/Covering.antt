-- Which cells more or fewer items cover, and which wires then go along a seam.
-- The definitions and lemmas under it stand in specs/Laws/Covering.
use Rattle.std.specs.Prelude.{ℕ, List, [], ◌∷◌}
use native.Mathlib.Omega.{arith}
use Rattle.std.proofs.Math.Path.{◌≡◌, ap}
use Rattle.std.proofs.Math.Logic.{inl, inr}
use Rattle.std.proofs.Common.{⊎_elim}
use Rattle.paper.specs.Grid.{Node, step, Meets, Hits, Any, All, Blocked, node}
use Rattle.paper.specs.Layout.{Thing, keep_out, wire, keep_outs, wires, areas, blocks_of, without, Covers, Covered, round, Sealed, Seamed, Seamless, Layout}
use Rattle.paper.specs.Answer.{Bars, BarsNode}
use Rattle.paper.specs.Laws.Lists.{any_imp}
use Rattle.paper.specs.Laws.Among.{without_nil, without_cases}
use Rattle.paper.proofs.Among.{all_without}
use Rattle.paper.specs.Laws.Covering.{seamless_fewer}

any_without : (P : Thing → Type 0) (i : ℕ) (ts : List Thing) → Any P (without i ts) → Any P ts
unfolding Any
any_without P i [] h = rw (without_nil i) at h
any_without P i (u ∷ us) h =
    ⊎_elim (λ c. inr (rw c.1 at h)) (λ c. ⊎_elim inl (λ k. inr (any_without P i us k)) (rw c.1 at h)) (without_cases i u us)

pub seamless_without : (i : ℕ) (ts : List Thing) → Seamless ts → Seamless (without i ts)
unfolding Covered
seamless_without i ts a = seamless_fewer (without i ts) ts (λ q. any_without (λ u. Covers u q) i ts) (without i ts) (all_without (λ u. ¬ (Seamed ts u)) i ts a)

-- a node inside a keep-out is all round covered, by that one
module _ (l : Layout) (p : Node) where
  round_held : (t : Thing) → Bars l wires keep_outs (node p) t → All (Covers t) (round p)
  unfolding Bars blocks_of areas Blocked Any Hits Meets Covers All step
  round_held (keep_out i r) (e, inl h) = (omega arith, (omega arith, (omega arith, (omega arith, tt))))
  round_held (keep_out i r) (e, inr h) = absurd h
  round_held (wire i ps) (e, h) = absurd (let z : ◌≡◌ {A = ℕ} 1 0 = ap (λ s. elim s [ keep_outs ↦ 0 | wires ↦ 1 ]) e in omega arith)

  pub inside_barred : Any (Bars l wires keep_outs (node p)) l.items → Any (BarsNode l keep_outs p) l.items
  unfolding BarsNode Sealed Covered All Any
  inside_barred h =
      let k : Any (λ t. All (Covers t) (round p)) l.items = any_imp _ _ round_held l.items h in
      any_imp (λ t. All (Covers t) (round p)) _ (λ t a. (
        (
          any_imp (λ t. All (Covers t) (round p)) _ (λ t a. a.0) l.items k,
          (
            any_imp (λ t. All (Covers t) (round p)) _ (λ t a. a.1.0) l.items k,
            (
              any_imp (λ t. All (Covers t) (round p)) _ (λ t a. a.1.1.0) l.items k,
              (any_imp (λ t. All (Covers t) (round p)) _ (λ t a. a.1.1.1.0) l.items k, tt),
            ),
          ),
        ),
        inl a.0,
      )) l.items k
