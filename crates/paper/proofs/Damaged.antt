-- Boards that break a clause of document 01's "A board is well formed if", each clause in turn: none is well formed.
-- And boards that keep them all, up to the limits: each is.
-- The definitions and lemmas under it stand in specs/Laws/Damaged.
use Rattle.paper.specs.Grid.{All}
use Rattle.paper.specs.Padding.{WellFormed}
use Rattle.paper.specs.Laws.Says.{says_not, says_all}
use Rattle.paper.specs.Laws.Decided.{wellb}
use Rattle.paper.proofs.Decided.{well_says}
use Rattle.paper.specs.Laws.Damaged.{damaged_boards, row, sound_boards, stairs, swaps}

-- ---- well formed

pub well : All WellFormed sound_boards
unfolding wellb stairs row swaps
well = (says_all well_says sound_boards).fact tt

-- ---- not well formed

pub damaged : All (λ b. ¬ (WellFormed b)) damaged_boards
unfolding wellb stairs row swaps
damaged = (says_all (λ b. says_not (well_says b)) damaged_boards).fact tt
