-- What the program hands to the router.
-- Assumes nothing.
use Rattle.std.specs.Prelude.{ℕ, zero, suc, ◌≤◌, ◌≡◌, refl, Some, None, List, Bool, true, false, T}
use Rattle.std.proofs.Common.{arith, subst}
use Rattle.std.proofs.Math.Nat.{sub-zero}
use mathlib.Core.Bool.{not}
use Rattle.paper.specs.Grid.{Block, Blocked}
use Rattle.blocks.specs.declared.Blocks.{Blocks}
use Rattle.blocks.specs.declared.Place.{Place}
use Rattle.blocks.specs.declared.Look.TheVariants.{Either}
use Rattle.blocks.specs.Flat.{first_at, flat, blocks_in, place_area, Fits, Stops, FirstIs, Hit}

-- all the blocks are those of one item
pub record OneItem (b : Blocks) : Type 0 where
  pub one : b.items ≡ 1
  pub starts : first_at b 0 ≡ 0
  pub ends : first_at b 1 ≤ 46

few_ends : (b : Blocks) → OneItem b → (i : ℕ) → i ≤ 1 → first_at b i ≤ 46
few_ends b o zero h = rw o.starts (omega arith)
few_ends b o (suc zero) h = o.ends
few_ends b o (suc (suc i)) h = absurd (omega arith)

-- every place that the item names is there
pub one_fits : (b : Blocks) → OneItem b → Fits b
one_fits b o = record { items_few = omega (arith, o.one); ends_few = λ i h. few_ends b o i (omega (arith, o.one)) }

-- the item's blocks are all of them
one_flat : (b : Blocks) → OneItem b → flat b ≡ blocks_in b 0
one_flat b o = rw (o.one, o.starts, sub-zero) refl

-- where no block is met, none is on the place
pub clear_flat : (b : Blocks) (p : Place) (r : Bool) → OneItem b → Hit b Either p r → T (not r) → ¬ (Blocked (flat b) (place_area p))
unfolding Hit FirstIs Stops
clear_flat b p true o h n = absurd n
clear_flat b p false o (Some i, s, e) n = absurd (cc)
clear_flat b p false o (None, s, e) n =
    λ h. s 0 (omega (arith, o.one), refl, subst (λ (l : List Block). Blocked l (place_area p)) (one_flat b o) h)
