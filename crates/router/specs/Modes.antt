-- How the answer is told in each mode.
-- Assumes nothing.
use Rattle.std.specs.Prelude.{ℕ, zero, suc, ◌≤◌, ◌<◌, min, ◌≡◌, Result, Err, List, [], ◌∷◌, get_or, replicate}
use Rattle.std.proofs.Math.Decide.{dec_le}
use Rattle.std.proofs.Common.{arith, sym}
use Rattle.std.proofs.Math.Path.{refl, subst}
use Rattle.std.proofs.Math.Logic.{by_cases}
use Rattle.paper.specs.declared.Pins.{Pins}
use Rattle.paper.specs.declared.Mode.{Mode}
use Rattle.paper.specs.declared.Mode.TheVariants.{Plain, Fewest}
use Rattle.paper.specs.Grid.{Node, Axis, level, upright}
use Rattle.distances.specs.Lower.{none}
use Rattle.distances.specs.Ways.{Map}
use Rattle.tracks.specs.declared.At.{At}
use Rattle.trace.specs.Trail.{crossing, distance, toll, free, turns_in}
use Rattle.bends.specs.Table.{Bends}
use Rattle.walks.specs.Onward.{Begins}
use Rattle.router.specs.declared.Wire.{Wire}
use Rattle.router.specs.declared.Untold.{Untold}
use Rattle.router.specs.declared.Untold.TheVariants.{NoWire}
use Rattle.router.specs.Told.{Tells, Lent, ToldIn, Fewer}

pub get_or_zeros : (n k : ℕ) → get_or {A = ℕ} (replicate n 0) k 0 ≡ 0
get_or_zeros zero k = refl
get_or_zeros (suc n) zero = refl
get_or_zeros (suc n) (suc k) = get_or_zeros n k

pub least_same : {a b x y : ℕ} → a ≡ x → b ≡ y → min a b ≡ min x y
least_same e f = omega arith

begins : (c : List ℕ) (s : Node) (n : ℕ) → n ≡ min (turns_in c level s) (turns_in c upright s) → Begins (turns_in c) s n
begins c s n e =
    by_cases (dec_le (turns_in c level s) (turns_in c upright s)) (λ h. record { low = low; one = level; is = omega arith }) (λ h. record { low = low; one = upright; is = omega arith })
  where
    low : (x : Axis) → n ≤ turns_in c x s
    low level = omega arith
    low upright = omega arith

module _ (m : Map) (d : List ℕ) (s t : At) (p : Pins) where
  pub fewer_none : distance d (crossing s) ≡ none → Fewer m d s t p (Err NoWire)
  fewer_none e = record { none_told = λ z. refl; turned = λ h. absurd (omega arith) }

  pub fewer_told : (r : Result Wire Untold) → distance d (crossing s) < none → (c : List ℕ) (n : ℕ) → Bends m d (crossing s) (crossing t) c
      → n ≡ min (turns_in c level (crossing s)) (turns_in c upright (crossing s)) → Tells m d (toll 1 c) n s t p r → Fewer m d s t p r
  unfolding Lent
  fewer_told r h c n b e l = record {
    none_told = λ z. absurd (omega arith);
    turned = λ z. record { table = c; left = n; lent = b; begins = begins c (crossing s) n e; tells = l };
  }

  pub in_plain : (o : Mode) (r : Result Wire Untold) → o ≡ Plain → Tells m d free 0 s t p r → ToldIn o m d s t p r
  unfolding Lent
  in_plain o r e l = subst (λ o. ToldIn o m d s t p r) (sym e) (record {
    none_told = l.none_told;
    turned = λ z. record {
      table = 0 ∷ [];
      left = 0;
      lent = tt;
      begins = record { low = λ x. omega arith; one = level; is = refl };
      tells = l;
    };
  })

  pub in_fewest : (o : Mode) (r : Result Wire Untold) → o ≡ Fewest → Fewer m d s t p r → ToldIn o m d s t p r
  in_fewest o r e l = subst (λ o. ToldIn o m d s t p r) (sym e) l
