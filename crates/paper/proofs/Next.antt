-- What an accepted record leaves is sound again: the steps that all kinds share.
-- The definitions and lemmas under it stand in specs/Laws/Next.
use Rattle.std.specs.Prelude.{ℕ, ◌≤◌, List, ◌∷◌}
use Rattle.std.proofs.Common.{arith}
use Rattle.paper.specs.declared.Size.{Size}
use Rattle.paper.specs.Limits.{most_blocks}
use Rattle.paper.specs.Grid.{All}
use Rattle.paper.specs.Layout.{Thing, id_of, block_count, Seamless, Apart, ThingFits, Below, ItemsApart, ItemsFit, added, taken, add, without, Has, Used, undo, CanUndo, Layout, Laid}
use Rattle.paper.specs.Answer.{TooManyBlocks, add_to, take_from}
use Rattle.paper.specs.Laws.Back.{has_add}
use Rattle.paper.specs.Laws.Among.{all_add, pairs_add, rising_add, count_add}
use Rattle.paper.proofs.Among.{all_without, pairs_without, without_add, add_without, not_used_without, count_without}
use Rattle.paper.proofs.Apart.{apart_turn}
use Rattle.paper.specs.Laws.Covering.{seamless_add}
use Rattle.paper.proofs.Covering.{seamless_without}
use Rattle.paper.specs.Laws.Next.{laid_keep}

-- ---- items that fit, with one more, with one less

pub apart_add : (s : Size) (t : Thing) (ts : List Thing) → ItemsApart s ts → ¬ (Used ts (id_of t)) → ThingFits s t
    → All (Apart s.clearance t) ts → block_count (t ∷ ts) ≤ most_blocks → ItemsApart s (add t ts)
apart_add s t ts f n p a few = record {
  rising = rising_add t ts n f.rising;
  each = all_add (ThingFits s) t ts p f.each;
  apart = pairs_add (Apart s.clearance) (apart_turn s.clearance) t ts a f.apart;
  blocks_few = omega (arith, count_add t ts);
}

pub apart_without : (s : Size) (i : ℕ) (ts : List Thing) → ItemsApart s ts → ItemsApart s (without i ts)
apart_without s i ts f = record {
  rising = pairs_without Below i ts f.rising;
  each = all_without (ThingFits s) i ts f.each;
  apart = pairs_without (Apart s.clearance) i ts f.apart;
  blocks_few = omega (arith, f.blocks_few, count_without i ts);
}

pub fits_without : (s : Size) (i : ℕ) (ts : List Thing) → ItemsFit s ts → ItemsFit s (without i ts)
fits_without s i ts f = record { two = apart_without s i ts f.two; seamless = seamless_without i ts f.seamless }

-- ---- the kept changes

pub laid_add : (l : Layout) (t : Thing) → Laid l → ¬ (Used l.items (id_of t)) → ThingFits l.size t
    → All (Apart l.size.clearance t) l.items → Seamless (t ∷ l.items) → ¬ (TooManyBlocks l t) → Laid (add_to l t)
laid_add l t p n fit a z few =
    laid_keep l (add t l.items) (added t) p
    (record { two = apart_add l.size t l.items p.fits.two n fit a (omega arith); seamless = seamless_add t l.items z })
    (unfold CanUndo in has_add t l.items) (unfold undo in without_add t l.items n)

pub laid_take : (l : Layout) (t : Thing) → Laid l → Has l.items t → Laid (take_from l t)
laid_take l t p h =
    laid_keep l (without (id_of t) l.items) (taken t) p
    (fits_without l.size (id_of t) l.items p.fits)
    (unfold CanUndo in not_used_without (id_of t) l.items p.fits.two.rising)
    (unfold undo in add_without t l.items p.fits.two.rising h)
