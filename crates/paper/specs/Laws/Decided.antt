-- Whether a board is well formed is decided by a test: by what is read back from it, and by that giving the board again.
-- Assumes nothing.
use Rattle.std.specs.Prelude.{Bool, ◌&&◌, eqb}
use Rattle.paper.specs.declared.Item.{Item}
use Rattle.paper.specs.declared.Change.{Change}
use Rattle.paper.specs.declared.Board.{Board}
use Rattle.paper.specs.Padding.{item_of, added_kind, change_of, board_of}
use Rattle.paper.specs.Laws.Back.{nodes, thing_of, turn_of, layout_of}
use Rattle.paper.specs.Laws.Says.{listb}
use Rattle.paper.specs.Laws.Tests.{sizeb, soundb}

unfoldable pub itemb : Item → Item → Bool
unfolding listb
itemb m n = eqb m.id n.id && eqb m.runs n.runs && listb eqb m.xs n.xs && listb eqb m.ys n.ys

unfoldable pub changeb : Change → Change → Bool
unfolding itemb
changeb c d = eqb c.kind d.kind && itemb c.item d.item

unfoldable pub boardb : Board → Board → Bool
unfolding sizeb itemb changeb listb
boardb a b =
    sizeb a.size b.size && eqb a.count b.count && listb itemb a.items b.items
    && (eqb a.kept b.kept && listb changeb a.changes b.changes)

unfoldable pub wellb : Board → Bool
unfolding layout_of turn_of thing_of nodes board_of change_of added_kind item_of soundb boardb
wellb b = let l = layout_of b in soundb l && boardb b (board_of l)
