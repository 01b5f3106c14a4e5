-- There is one answered wire in each mode; and a potential, a lower bound of the steps still to go, shows a wire to be it.
-- The definitions and lemmas under it stand in specs/Laws/Least.
use Rattle.std.proofs.Common.{le_antisymm, sym}
use Rattle.std.specs.Prelude.{◌≡◌, length}
use mathlib.Core.List.{List}
use Rattle.paper.specs.declared.Mode.{Mode}
use Rattle.paper.specs.declared.Mode.TheVariants.{Plain, Fewest}
use Rattle.paper.specs.Grid.{Node, Dir, Grid}
use Rattle.paper.specs.Wire.{runs_of, Straightest, AnsweredIn}
use Rattle.paper.specs.Laws.Least.{first_antisym, one_answer}

-- ---- one answer

one_straightest : (G : Grid) (s t : Node) (w v : List Dir) → Straightest G s t w → Straightest G s t v → w ≡ v
one_straightest G s t w v p q =
    let same : length v ≡ length w = le_antisymm (q.shortest w p.legal) (p.shortest v q.legal) in
    let few : runs_of s v ≡ runs_of s w = le_antisymm (q.straightest w p.legal (sym same)) (p.straightest v q.legal same) in
    first_antisym w v (p.first v q.legal same few) (q.first w p.legal (sym same) (sym few))

-- in either mode one wire is answered
pub one_in : (m : Mode) (G : Grid) (s t : Node) (w v : List Dir) → AnsweredIn m G s t w → AnsweredIn m G s t v → w ≡ v
one_in Plain = one_answer
one_in Fewest = one_straightest
