-- What `take_out` cites: its replies, each by what was found.
use Rattle.std.specs.Prelude.{ℕ, ◌≡◌, Some, None}
use mathlib.Core.Path.{refl}
use mathlib.Core.Logic.{inl}
use Rattle.paper.specs.declared.Board.{Board}
use Rattle.paper.specs.declared.Id.{Id}
use Rattle.paper.specs.declared.Record.TheVariants.{TakeOut}
use Rattle.paper.specs.Padding.{board_of, WellFormed}
use Rattle.paper.specs.Answer.{plain, Gives, checks, take_from}
use Rattle.paper.specs.Laws.Back.{layout_of}
use Rattle.paper.specs.Laws.Feeds.{refusing}
use Rattle.paper.specs.Laws.Standing.{Standing, thing_at, well_standing}
use Rattle.items.specs.Items.{IdAt, TheFirst}
use Rattle.feed.specs.Feeding.{Quietly}
use Rattle.feed.specs.Laws.Replying.{no_bounds_yet, take_first, take_set, take_none}

module _ (b : Board) (w : WellFormed b) (i : Id) where
  pub take_early : b.size.w ≡ 0 → Quietly (layout_of b) (TakeOut i) (refusing (plain 2) b)
  unfolding Gives checks layout_of
  take_early z = no_bounds_yet b w (TakeOut i) (λ n. inl (z, refl))

  pub take_asks : (at : ℕ) → IdAt (layout_of b).items i.number (Some at) → Standing b × TheFirst (layout_of b).items at
  take_asks at p = (well_standing b w, take_first b w i.number at p)

  module _ (n : ¬ (b.size.w ≡ 0)) where
    pub taken : (at : ℕ) → IdAt (layout_of b).items i.number (Some at)
        → Quietly (layout_of b) (TakeOut i) (refusing (plain 0) (board_of (take_from (layout_of b) (thing_at (layout_of b).items at))))
    unfolding layout_of
    taken at p = take_set b w i at n p

    pub none_taken : IdAt (layout_of b).items i.number None → Quietly (layout_of b) (TakeOut i) (refusing (plain 5) b)
    unfolding layout_of IdAt
    none_taken u = take_none b w i n u
