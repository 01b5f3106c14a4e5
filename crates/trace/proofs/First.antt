-- The four directions in their order, and the first of them that fits.
use Rattle.std.specs.Prelude.{ℕ, zero, suc, ◌<◌, ◌≡◌, refl, Option, Some, None, MatchOption, List}
use Rattle.std.proofs.Common.{arith, sym, ap, ◌∙◌}
use Rattle.std.specs.Borrow.{Bor}
use Rattle.std.specs.Option.{option_copied}
use Rattle.std.specs.List.{AllWithin, HoldsAt, slice_index_or}
use Rattle.paper.specs.Grid.{Node, Dir, E, N, W, S, rank}
use Rattle.distances.specs.Ways.{Map}
use Rattle.trace.specs.declared.TheConstants.{WAYS}
use Rattle.trace.specs.declared.Direction.{Direction}
use Rattle.trace.specs.declared.Direction.TheVariants.{East, North, West, South}
use Rattle.trace.specs.Trail.{dir_of, way_of, Toll, Fits, FirstWay}

-- ---- directions that are one

back : Dir → Direction
back E = East
back N = North
back W = West
back S = South

there : (x : Direction) → back (dir_of x) ≡ x
unfolding back
there East = refl
there North = refl
there West = refl
there South = refl

pub way_one : (a : Option Direction) (x : Direction) → way_of a ≡ Some (dir_of x) → a ≡ Some x
way_one None x e = absurd cc
way_one (Some y) x e = let z : dir_of y ≡ dir_of x = cc in ap Some (sym (there y) ∙ ap back z ∙ there x)

-- ---- the first that fits

module _ (m : Map) (d : List ℕ) (o : Toll) (came : Option Dir) (left : ℕ) (q : Node) where
  abbrev pub Yes : Direction → Type 0
  Yes x = Fits m d o came left q (dir_of x)

  abbrev pub No : Direction → Type 0
  No x = ¬ (Fits m d o came left q (dir_of x))

  passed : (i : ℕ) → AllWithin No WAYS 0 i → (f : Dir) → rank f < i → ¬ (Fits m d o came left q f)
  passed i h E z = h 0 East (omega arith) z
  passed i h N z = h 1 East (omega arith) z
  passed i h W z = h 2 East (omega arith) z
  passed i h S z = h 3 East (omega arith) z

  ranked : (i : ℕ) → i < 4 → rank (dir_of (slice_index_or WAYS i East)) ≡ i
  ranked zero h = refl
  ranked (suc zero) h = refl
  ranked (suc (suc zero)) h = refl
  ranked (suc (suc (suc zero))) h = refl
  ranked (suc (suc (suc (suc i)))) h = absurd (omega arith)

  pub first : (r : Option (Bor Direction))
      → MatchOption r (AllWithin No WAYS 0 4) (λ x. Yes x.now × (i : ℕ) × (i < 4) × HoldsAt (λ y. y ≡ x.now) WAYS i × AllWithin No WAYS 0 i)
      → FirstWay m d o came left q (way_of (option_copied r))
  unfolding FirstWay
  first None n = λ f. passed 4 n f (few f)
    where
      few : (f : Dir) → rank f < 4
      few E = omega arith
      few N = omega arith
      few W = omega arith
      few S = omega arith
  first (Some x) (y, i, h, e, n) =
      let z : rank (dir_of x.now) ≡ i = sym (ap (λ k. rank (dir_of k)) (e East)) ∙ ranked i h in
      (y, λ f l. passed i n f (omega arith))
