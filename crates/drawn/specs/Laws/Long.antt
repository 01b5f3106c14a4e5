-- The length of a wire: the sum over its runs.
-- Assumes nothing.
use Prim.Native.Nat.{ℕ, zero, suc, ◌+◌, ◌≤◌}
use Rattle.std.proofs.Common.{add-one, sym, ◌∙◌}
use Rattle.std.specs.Prelude.{◌≡◌, refl, map, length}
use Rattle.std.specs.List.{sum, range_with_len}
use Rattle.std.proofs.lemmas.List.Sums.{sum_by-cons}
use Rattle.std.proofs.Math.Path.{ap}
use Rattle.paper.specs.declared.Item.{Item}
use Rattle.paper.specs.Limits.{most_corners, most_runs}
use Rattle.paper.specs.Wire.{manhattan}
use Rattle.paper.specs.Drawn.{long_of}
use Rattle.blocks.specs.Flat.{listed}
use Rattle.blocks.specs.Growing.{corner_at}
use Rattle.shapes.specs.Corners.{corners_of}
use Rattle.shapes.specs.Laws.Corners.{corners_one}
use Rattle.drawn.specs.Drawing.{long_at, long_by}

long_listed : (m : Item) (k n : ℕ) → sum (map (long_at m) (range_with_len k n)) ≡ long_of (listed (corner_at m) k (suc n))
unfolding long_of listed
long_listed m k zero = refl
long_listed m k (suc n) =
    sum_by-cons (λ x. x) (long_at m k) (map (long_at m) (range_with_len (k + 1) n)) ∙ ap (λ s. long_at m k + s) (long_listed m (k + 1) n)
    ∙ ap (λ j. manhattan (corner_at m k) (corner_at m j) + long_of (listed (corner_at m) j (suc n))) (add-one k)

pub runs_long : (m : Item) (n : ℕ) → length m.xs ≡ most_corners → length m.ys ≡ most_corners → n ≤ most_runs → long_by m n ≡ long_of (corners_of m (n + 1))
runs_long m n lx ly h = long_listed m 0 n ∙ ap long_of (sym (corners_one m lx ly n h))
