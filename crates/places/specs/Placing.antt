-- What is said of the runs of a wire, in the paper's words.
-- Assumes nothing.
use Rattle.std.specs.Prelude.{ℕ, ◌+◌, ◌≡◌, Result}
use Rattle.paper.specs.declared.Size.{Size}
use Rattle.paper.specs.declared.Item.{Item}
use Rattle.paper.specs.Grid.{Axis, All}
use Rattle.paper.specs.Layout.{wires, Along, ThingFits, Layout}
use Rattle.paper.specs.Answer.{Gives}
use Rattle.paper.specs.Drawn.{run_check, run_checks, corner_checks}
use Rattle.blocks.specs.declared.Blocks.{Blocks}
use Rattle.blocks.specs.Flat.{HeldOf}
use Rattle.blocks.specs.Growing.{corner_at, stretch_at}
use Rattle.paper.specs.declared.Refusal.{Refusal}
use Rattle.shapes.specs.declared.Fault.{Fault}
use Rattle.shapes.specs.Corners.{corners_of}
use Rattle.shapes.specs.Faults.{fault_of}

-- on whatever layout of the size that the blocks hold, with items that fit each alone
abbrev pub OnHeld : Size → Blocks → (Layout → Type 0) → Type 0
OnHeld s b P = (l : Layout) → l.size ≡ s → HeldOf b wires l → All (ThingFits s) l.items → P l

-- there is such a layout
abbrev pub SomeHeld : Size → Blocks → Type 0
SomeHeld s b = (l : Layout) × (l.size ≡ s) × HeldOf b wires l × All (ThingFits s) l.items

-- the item's run at k goes along an axis
abbrev pub Straight : Item → ℕ → Type 0
Straight m k = (a : Axis) × Along a (stretch_at m k)

unfoldable pub RunSays : Size → Blocks → Item → ℕ → Result (Unit {0}) (Fault Refusal) → Type 0
RunSays s b m k r = OnHeld s b (λ l. Gives (run_check l (k + 1) (corner_at m k) (corner_at m (k + 1))) (fault_of r))

unfoldable pub PlacesSay : Size → Blocks → Item → ℕ → Result (Unit {0}) (Fault Refusal) → Type 0
PlacesSay s b m n r = OnHeld s b (λ l. Gives (run_checks l 1 (corners_of m (n + 1))) (fault_of r))

unfoldable pub AllSay : Size → Blocks → Item → ℕ → Result (Unit {0}) (Fault Refusal) → Type 0
AllSay s b m n r = OnHeld s b (λ l. Gives (corner_checks l (corners_of m (n + 1))) (fault_of r))
