-- How the answer is told: no wire, too many runs, or the corners.
-- Assumes nothing.
use Rattle.std.specs.Prelude.{ℕ, ◌≤◌, ◌<◌, ◌≡◌, refl, None, Ok, Err, List, map, length, replicate}
use Rattle.std.proofs.Common.{arith, ap, ◌∙◌}
use Rattle.std.proofs.lemmas.List.{length-map}
use Rattle.paper.specs.declared.Pins.{Pins}
use Rattle.paper.specs.Grid.{Node, Dir}
use Rattle.paper.specs.Wire.{corners}
use Rattle.paper.specs.Padding.{filled}
use Rattle.distances.specs.Lower.{none}
use Rattle.distances.specs.Ways.{Map}
use Rattle.tracks.specs.declared.At.{At}
use Rattle.trace.specs.Trail.{crossing, distance, spot, Toll, Trail, corners_from, over, Traces}
use Rattle.trace.specs.Over.{over_zeros}
use Rattle.trace.specs.Hops.{from_start}
use Rattle.router.specs.declared.Untold.TheVariants.{NoWire, TooManyRuns}
use Rattle.router.specs.Told.{detour_for, Tells}

module _ (m : Map) (d : List ℕ) (o : Toll) (left : ℕ) (s t : At) (p : Pins) where
  pub told_none : distance d (crossing s) ≡ none → Tells m d o left s t p (Err NoWire)
  told_none e = record { none_told = λ z. refl; few_told = λ v l z h. absurd (omega arith); many_told = λ v l z h. absurd (omega arith) }

  module _ (xs ys : List ℕ) (count : ℕ)
      (tr : Traces m d o (crossing t) (crossing s) None left 0 (replicate 25 0) xs (replicate 25 0) ys count) (far : ¬ (distance d (crossing s) ≡ none)) where
    -- the corners that are counted
    counted : (v : List Dir) → Trail m d o (crossing t) None left (crossing s) v → count ≡ length (corners (spot m (crossing s)) v)
    counted v l = omega (arith, tr.counted v l, ap length (from_start (spot m (crossing s)) v))

    pub told_many : 25 < count → (n : ℕ) → n ≡ distance d (crossing s) → Tells m d o left s t p (Err (TooManyRuns n))
    told_many h n f = record { none_told = λ z. absurd (far z); few_told = λ v l z k. absurd (omega (arith, counted v l)); many_told = λ v l z k. ap (λ n. Err (TooManyRuns n)) f }

    -- and those that are written
    wrote : (f : Node → ℕ) (ns : List ℕ) (v : List Dir) → Trail m d o (crossing t) None left (crossing s) v → length (corners (spot m (crossing s)) v) ≤ 25
        → ns ≡ over 0 (map f (corners_from None (spot m (crossing s)) v)) (replicate 25 0) → ns ≡ filled 0 25 (map f (corners (spot m (crossing s)) v))
    wrote f ns v l h e =
        e ∙ ap (λ ps. over 0 (map f ps) (replicate 25 0)) (from_start (spot m (crossing s)) v)
        ∙ over_zeros 25 (map f (corners (spot m (crossing s)) v)) (omega (arith, length-map (corners (spot m (crossing s)) v) f))

    pub told_few : count ≤ 25 → (n w : ℕ) → n ≡ distance d (crossing s) → w ≡ detour_for (distance d (crossing s)) p
        → Tells m d o left s t p (Ok (record { length = n; detour = w; corners = count; xs = xs; ys = ys }))
    told_few h n w f e = record {
      none_told = λ z. absurd (far z);
      few_told = λ v l z k.
          let a = wrote (λ q. q.x) xs v l k (tr.xs_are v l) in
          let b = wrote (λ q. q.y) ys v l k (tr.ys_are v l) in
          let c = counted v l in
          λ i. Ok (record { length = f i; detour = e i; corners = c i; xs = a i; ys = b i });
      many_told = λ v l z k. absurd (omega (arith, counted v l));
    }
