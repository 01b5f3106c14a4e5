-- A test for each definition of the grid and of well-formed layouts, and that it says what the definition says.
-- The line `unfolding` of a test names what it computes with: to unfold the test is to unfold all of that.
-- The definitions and lemmas under it stand in specs/Laws/Tests.
use Rattle.std.specs.Prelude.{ℕ, ◌≤◌, ◌≡◌, refl}
use Rattle.std.proofs.Common.{arith}
use Rattle.std.proofs.Math.Bool.{not}
use mathlib.Core.List.{List, [], ◌∷◌}
use Rattle.paper.specs.declared.Size.{Size}
use Rattle.paper.specs.Limits.{most_blocks}
use Rattle.paper.specs.Grid.{Node, Dir, E, N, W, S, step, level, upright, Free, All, Block, grid_with}
use Rattle.paper.specs.Wire.{Legal}
use Rattle.paper.specs.Layout.{Thing, keep_out, wire, areas, block_count, Seamed, Seamless, ThingFits, ItemsFit, Turn, undo, Undoes, Layout, Laid, Sound}
use Rattle.paper.specs.Laws.Lists.{all_imp, all_both}
use Rattle.paper.specs.Laws.Joins.{joined}
use Rattle.paper.specs.Laws.Seams.{solid, Barred}
use Rattle.paper.proofs.Seams.{barred_in, barred_out}
use Rattle.paper.specs.Laws.Says.{says_then, Says, says_as, says_always, says_never, says_and, says_and₃, says_and₄, says_or, says_not, says_le, says_any, allb, says_all, says_pairs}
use Rattle.paper.specs.Laws.Tests.{barredb, blocked_says, can_undo_says, edge_says, freeb, fresh_says, in_range_says, items_fitb, laidb, legalb, meet_says, node_says, soundb, thing_fits_says, undoesb}

-- ---- the grid

module _ (w h : ℕ) (bs : List Block) where
  pub free_says : (p : Node) (d : Dir) → Says (freeb w h bs p d) (Free (grid_with w h bs) p d)
  unfolding freeb Free
  free_says p E = edge_says w h bs level p
  free_says p N = edge_says w h bs upright p
  free_says p W = says_and (says_le _ _) (edge_says w h bs level (step W p))
  free_says p S = says_and (says_le _ _) (edge_says w h bs upright (step S p))

  pub legal_says : (s t : Node) (v : List Dir) → Says (legalb w h bs s t v) (Legal (grid_with w h bs) s t v)
  unfolding legalb Legal
  legal_says s t [] = node_says s t
  legal_says s t (d ∷ v) = says_and (free_says s d) (legal_says (step d s) t v)

-- ---- several items

barred_says : (s : Size) (ts : List Thing) (f : All (ThingFits s) ts) (t : Thing) → Says (barredb ts t) (Barred s ts f t)
unfolding barredb
barred_says s ts f (keep_out i r) = says_never (λ h. let z : ◌≡◌ {A = ℕ} 0 1 = cc in omega arith)
barred_says s ts f (wire i ps) = says_as (λ h. (refl, h)) (λ h. h.1) (says_any (blocked_says (joined (solid ts))) (areas (wire i ps)))

-- of items that each fit
seamless_says : (s : Size) (ts : List Thing) → All (ThingFits s) ts → Says (allb (λ t. not (barredb ts t)) ts) (Seamless ts)
seamless_says s ts f =
    says_as (all_imp _ _ (λ t n k. n (barred_in s ts f t k)) ts)
    (λ a. all_imp (λ t. ThingFits s t × (¬ (Seamed ts t))) _ (λ t h k. h.1 (barred_out s ts f t h.0 k)) ts (all_both _ _ ts f a))
    (says_all (λ t. says_not (barred_says s ts f t)) ts)

-- how few, and along no seam, in the order of the test
abbrev Rest : Size → List Thing → Type 0
Rest s ts = (block_count ts ≤ most_blocks) × Seamless ts

pub items_fit_says : (s : Size) (ts : List Thing) → Says (items_fitb s ts) (ItemsFit s ts)
unfolding items_fitb
items_fit_says s ts =
    says_as (λ h. record { two = record { rising = h.0; each = h.1; apart = h.2; blocks_few = h.3.0 }; seamless = h.3.1 })
    (λ f. let t = f.two in (t.rising, t.each, t.apart, (t.blocks_few, f.seamless)))
    (says_then {C = All (ThingFits s) ts} {E = Rest s ts} (says_and₃ (says_pairs (λ t u. says_le _ _) ts) (says_all (thing_fits_says s) ts)
    (says_pairs (λ t u. says_not (meet_says s.clearance t u)) ts)) (λ each. says_and (says_le _ _) (seamless_says s ts each)))

-- ---- the kept changes

pub undoes_says : (s : Size) (ts : List Thing) (cs : List Turn) → Says (undoesb s ts cs) (Undoes s ts cs)
unfolding undoesb Undoes
undoes_says s ts [] = says_always tt
undoes_says s ts (c ∷ cs) = says_and₃ (can_undo_says c ts) (items_fit_says s (undo c ts)) (undoes_says s (undo c ts) cs)

-- ---- the board

pub laid_says : (l : Layout) → Says (laidb l) (Laid l)
unfolding laidb
laid_says l =
    says_as (λ h. record { range = h.0; fits = h.1; kept_few = h.2; undoes = h.3 }) (λ f. (f.range, f.fits, f.kept_few, f.undoes))
    (says_and₄ (in_range_says _) (items_fit_says _ _) (says_le _ _) (undoes_says _ _ _))

pub sound_says : (l : Layout) → Says (soundb l) (Sound l)
unfolding soundb Sound
sound_says l = says_or (fresh_says l) (laid_says l)
