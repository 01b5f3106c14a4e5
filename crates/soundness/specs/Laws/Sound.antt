-- A board that stands is well formed just if what is read back from it is sound.
-- Assumes nothing.
use Rattle.std.specs.Prelude.{◌≡◌, ◌⊎◌, Bool, length, take}
use Rattle.std.proofs.Math.Path.{refl}
use Rattle.std.proofs.Common.{ap, sym, ◌∙◌, inl, inr}
use Rattle.std.proofs.Math.Logic.{⊎_elim}
use mathlib.Core.List.{map, reverse}
use Rattle.paper.specs.declared.Board.{Board}
use Rattle.paper.specs.Layout.{no_bounds, fresh, Laid, Sound}
use Rattle.paper.specs.Padding.{WellFormed}
use Rattle.paper.specs.Laws.Back.{thing_of, turn_of, layout_of, well_formed}
use Rattle.paper.specs.Laws.Says.{Says, says_as}
use Rattle.paper.specs.Laws.Standing.{Standing, count_is, kept_is, well_standing}

-- no bounds, and nothing there
abbrev pub Unused : Board → Type 0
Unused b = (b.size ≡ no_bounds) × (b.count ≡ 0) × (b.kept ≡ 0)

module _ (b : Board) where
  sized : (layout_of b).size ≡ b.size
  sized = unfold layout_of in refl

  unused_fresh : Unused b → layout_of b ≡ fresh
  unfolding layout_of
  unused_fresh u = λ i. record {
    size = u.0 i;
    items = map thing_of (take (u.1 i) b.items);
    kept = reverse (map turn_of (take (u.2 i) b.changes));
  }

  fresh_unused : Standing b → layout_of b ≡ fresh → Unused b
  fresh_unused s e = (
    sym sized ∙ ap (λ l. l.size) e,
    count_is b s ∙ ap (λ l. length l.items) e,
    kept_is b s ∙ ap (λ l. length l.kept) e,
  )

  pub sound_said : {r : Bool} → Says r (Standing b × (Unused b ⊎ Laid (layout_of b))) → Says r (WellFormed b)
  unfolding WellFormed Sound
  sound_said =
      says_as (λ p. (layout_of b, record { sound = ⊎_elim (λ u. inl (unused_fresh u)) inr p.1; same = p.0.same }))
      (λ w. let s = well_standing b w in (s, ⊎_elim (λ e. inl (fresh_unused s e)) inr (well_formed b w).sound))
