-- Demand 3, first half: whatever is fed to a fresh board, its items are those the history says.
-- Assumes nothing.
use Rattle.std.specs.Prelude.{suc, ◌≡◌, refl, length}
use Rattle.std.proofs.Common.{arith, ap}
use mathlib.Core.List.{List, [], ◌∷◌}
use Rattle.paper.specs.Layout.{Thing, Turn, undo, Layout}
use Rattle.paper.specs.History.{Past}

-- ---- the past of a layout

unfoldable pub pasts : List Thing → List Turn → List (List Thing)
pasts ts [] = []
pasts ts (c ∷ cs) = undo c ts ∷ pasts (undo c ts) cs

abbrev pub past : Layout → Past
past l = record { size = l.size; now = l.items; before = pasts l.items l.kept }

-- ---- the past remembers what can be undone, and no more

length_pasts : (ts : List Thing) (cs : List Turn) → length (pasts ts cs) ≡ length cs
unfolding pasts
length_pasts ts [] = refl
length_pasts ts (c ∷ cs) = ap suc (length_pasts (undo c ts) cs)

-- an undo is refused (15) just where the past holds nothing to go back to
pub nothing_before : (l : Layout) → (l.kept ≡ [] → (past l).before ≡ []) × ((past l).before ≡ [] → l.kept ≡ [])
unfolding pasts
nothing_before l = (
  λ e. ap (λ cs. pasts l.items cs) e,
  λ e. none l.kept (omega (arith, ap length e, length_pasts l.items l.kept)),
)
  where
    none : (cs : List Turn) → length cs ≡ 0 → cs ≡ []
    none [] e = refl
    none (c ∷ cs) e = absurd (omega arith)
