-- The rectangle of two places, by the numbers that the code has.
-- Assumes nothing.
use Rattle.std.specs.Prelude.{ℕ, ◌<◌, min, max, ◌≡◌, refl, Option, Some, None}
use Rattle.std.proofs.Common.{arith, ◌∙◌}
use Rattle.std.proofs.Math.Path.{sym, ap}
use mathlib.Core.List.{List, [], ◌∷◌, head-eq_of_cons-eq}
use Rattle.paper.specs.Laws.Joins.{Touch, Share, beam, post, join_of}
use Rattle.paper.specs.Laws.Joining.{join_beam, join_post, join_none}
use Rattle.blocks.specs.declared.Place.{Place}
use Rattle.seams.specs.Seaming.{place_box, joined_is}

some_none : {A : Type 0} {x : A} {xs : List A} → [] ≡ x ∷ xs → ⊥
some_none e = let z : ◌≡◌ {A = ℕ} 0 1 = ap (λ l. elim l [ [] ↦ 0 | x ∷ xs ↦ 1 ]) e in omega arith

-- what is common on each axis
pub record Commonly (a b : Place) (x0 y0 x1 y1 : ℕ) : Type 0 where
  pub low_x : x0 ≡ max a.x0 b.x0
  pub low_y : y0 ≡ max a.y0 b.y0
  pub high_x : x1 ≡ min a.x1 b.x1
  pub high_y : y1 ≡ min a.y1 b.y1

module _ (a b : Place) (x0 y0 x1 y1 : ℕ) (h : Commonly a b x0 y0 x1 y1) where
  pub joined_beam : (u v : ℕ) → u ≡ min a.x0 b.x0 → v ≡ max a.x1 b.x1 → x0 ≡ x1 → y0 < y1
      → join_of (place_box a) (place_box b) ≡ place_box (record { x0 = u; y0 = y0; x1 = v; y1 = y1 }) ∷ []
  unfolding Touch Share
  joined_beam u v p q e l =
      join_beam (place_box a) (place_box b) (omega (arith, h.low_x, h.high_x)) (omega (arith, h.low_y, h.high_y)) ∙ ap (λ k. k ∷ []) same
    where
      same : beam (place_box a) (place_box b) ≡ place_box (record { x0 = u; y0 = y0; x1 = v; y1 = y1 })
      same = λ i. record {
        along_x = record { lo = sym p i; hi = sym q i; c = 0 };
        along_y = record { lo = sym h.low_y i; hi = sym h.high_y i; c = 0 };
      }

  pub joined_post : (u v : ℕ) → u ≡ min a.y0 b.y0 → v ≡ max a.y1 b.y1 → x0 < x1 → y0 ≡ y1
      → join_of (place_box a) (place_box b) ≡ place_box (record { x0 = x0; y0 = u; x1 = x1; y1 = v }) ∷ []
  unfolding Touch Share
  joined_post u v p q l e =
      join_post (place_box a) (place_box b) (omega (arith, h.low_x, h.high_x)) (omega (arith, h.low_y, h.high_y)) ∙ ap (λ k. k ∷ []) same
    where
      same : post (place_box a) (place_box b) ≡ place_box (record { x0 = x0; y0 = u; x1 = x1; y1 = v })
      same = λ i. record {
        along_x = record { lo = sym h.low_x i; hi = sym h.high_x i; c = 0 };
        along_y = record { lo = sym p i; hi = sym q i; c = 0 };
      }

  pub joined_none : ¬ ((x0 ≡ x1) × (y0 < y1)) → ¬ ((x0 < x1) × (y0 ≡ y1)) → join_of (place_box a) (place_box b) ≡ []
  unfolding Touch Share
  joined_none n m =
      join_none (place_box a) (place_box b) (λ k. n (omega (arith, k.0, h.low_x, h.high_x), omega (arith, k.1, h.low_y, h.high_y)))
      (λ k. m (omega (arith, k.0, h.low_x, h.high_x), omega (arith, k.1, h.low_y, h.high_y)))

-- the rectangle decides what is returned
pub one_joined : (r q : Option Place) → joined_is r ≡ joined_is q → r ≡ q
one_joined (Some p) (Some q) e =
    let b : place_box p ≡ place_box q = head-eq_of_cons-eq e in
    ap Some (λ i. record { x0 = (b i).along_x.lo; y0 = (b i).along_y.lo; x1 = (b i).along_x.hi; y1 = (b i).along_y.hi })
one_joined (Some p) None e = absurd (some_none (sym e))
one_joined None (Some q) e = absurd (some_none e)
one_joined None None e = refl
