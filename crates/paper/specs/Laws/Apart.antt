-- Items that stand together: the relation has no direction, and a free place stays free beside fewer items.
-- Assumes nothing.
use Rattle.std.specs.Prelude.{ℕ, ◌≡◌, refl, length}
use Rattle.std.proofs.Common.{arith, length-append}
use mathlib.Core.List.{List, [], ◌∷◌, ◌++◌}
use Rattle.std.proofs.lemmas.List.{length-map}
use Rattle.paper.specs.Grid.{Area, Block, widened, Hits, Blocked}
use Rattle.paper.specs.Layout.{Thing, Sort, sort_of, areas, distance, blocks_of, blocks_to, block_count}
use Rattle.paper.specs.Laws.Lists.{any_left, any_right}

-- ---- blocked by one is blocked by all

pub blocked_left : (bs cs : List Block) (a : Area) → Blocked bs a → Blocked (bs ++ cs) a
unfolding Blocked
blocked_left bs cs a h = any_left (λ b. Hits b a) bs cs h

pub blocked_right : (bs cs : List Block) (a : Area) → Blocked cs a → Blocked (bs ++ cs) a
unfolding Blocked
blocked_right bs cs a h = any_right (λ b. Hits b a) bs cs h

-- ---- a new item is apart from each of the others

-- as many blocks as the items count
pub count_blocks : (c : ℕ) (s : Sort) (ts : List Thing) → length (blocks_to c s ts) ≡ block_count ts
unfolding blocks_to block_count blocks_of
count_blocks c s [] = refl
count_blocks c s (t ∷ ts) =
    omega (arith, length-append (blocks_of c s t) (blocks_to c s ts), length-map (areas t) (widened (distance c s (sort_of t))), count_blocks c s ts)
