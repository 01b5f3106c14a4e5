-- Whether a board is well formed is decided by a test: by what is read back from it, and by that giving the board again.
-- The definitions and lemmas under it stand in specs/Laws/Decided.
use Rattle.std.specs.Prelude.{◌≡◌}
use Rattle.std.proofs.Common.{ap}
use Rattle.paper.specs.declared.Item.{Item}
use Rattle.paper.specs.declared.Change.{Change}
use Rattle.paper.specs.declared.Board.{Board}
use Rattle.paper.specs.Padding.{board_of, WellFormed}
use Rattle.paper.specs.Laws.Back.{layout_of, well_formed}
use Rattle.paper.specs.Laws.Says.{Says, says_as, says_and, says_and₄, says_eq, says_list}
use Rattle.paper.specs.Laws.Tests.{size_says}
use Rattle.paper.proofs.Tests.{sound_says}
use Rattle.paper.specs.Laws.Decided.{boardb, changeb, itemb, wellb}

item_says : (m n : Item) → Says (itemb m n) (m ≡ n)
unfolding itemb
item_says m n =
    says_as (λ h i. record { id = h.0 i; runs = h.1 i; xs = h.2 i; ys = h.3 i })
    (λ e. (ap (λ m. m.id) e, ap (λ m. m.runs) e, ap (λ m. m.xs) e, ap (λ m. m.ys) e))
    (says_and₄ (says_eq _ _) (says_eq _ _) (says_list says_eq _ _) (says_list says_eq _ _))

change_says : (c d : Change) → Says (changeb c d) (c ≡ d)
unfolding changeb
change_says c d =
    says_as (λ h i. record { kind = h.0 i; item = h.1 i }) (λ e. (ap (λ c. c.kind) e, ap (λ c. c.item) e))
    (says_and (says_eq _ _) (item_says _ _))

board_says : (a b : Board) → Says (boardb a b) (a ≡ b)
unfolding boardb
board_says a b =
    says_as (λ h i. record { size = h.0 i; count = h.1 i; items = h.2 i; kept = h.3.0 i; changes = h.3.1 i })
    (λ e. (ap (λ b. b.size) e, ap (λ b. b.count) e, ap (λ b. b.items) e, (ap (λ b. b.kept) e, ap (λ b. b.changes) e)))
    (says_and₄ (size_says _ _) (says_eq _ _) (says_list item_says _ _) (says_and (says_eq _ _) (says_list change_says _ _)))

pub well_says : (b : Board) → Says (wellb b) (WellFormed b)
unfolding wellb WellFormed
well_says b =
    says_as (λ h. (layout_of b, record { sound = h.0; same = h.1 })) (λ w. let h = well_formed b w in (h.sound, h.same))
    (says_and (sound_says (layout_of b)) (board_says b (board_of (layout_of b))))
