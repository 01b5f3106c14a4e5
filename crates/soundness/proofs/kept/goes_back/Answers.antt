-- `soundness::kept::goes_back` meets its contract: by the kind of the change, and by whether its id is found.
use Rattle.std.proofs.Common.{[], rules, eq-eqb, ne_eqb}
use Rattle.paper.specs.Laws.Back.{layout_of}
use Rattle.paper.specs.Laws.Lists.{length_mapped}
use Rattle.items.specs.Items.{IdAt}
use Rattle.soundness.specs.Laws.Stands.{stands_whole}
use Rattle.soundness.specs.Laws.Front.{all_placed}
use Rattle.soundness.specs.Laws.Latest.{latest_turn, latest_whole, taken_used, taken_free, added_used, added_free}
use Rattle.soundness.proofs.kept.goes_back.Goals as goal

pub joins-requires : goal.joins-requires
unfolding layout_of
joins-requires c =
    let b = c.args.board in
    let whole = stands_whole b (search (rules, length_mapped)) (search (rules, length_mapped)) c.requires.0 in
    (all_placed b.size _ whole c.requires.1.each, latest_whole b c.requires.0 _ c.requires.2)

pub returns-then-change-ne-TAKEN : goal.returns-then-change-ne-TAKEN
unfolding IdAt
returns-then-change-ne-TAKEN c =
    let b = c.args.board in
    added_used b c.requires.0 c.requires.1 _ (latest_turn b c.requires.0 _) _ _ (record { id = 0; runs = 0; xs = []; ys = [] }) c.if-change-ne-TAKEN.true (latest_whole b c.requires.0 _ c.requires.2)
    c.in-Some.ensures.0 c.in-Some.ensures.1 (search rules)

pub returns-else-change-ne-TAKEN : goal.returns-else-change-ne-TAKEN
unfolding IdAt
returns-else-change-ne-TAKEN c =
    let b = c.args.board in
    rw (eq-eqb _ 5 c.if-change-ne-TAKEN.false)
    (taken_used b c.requires.0 c.requires.1 _ (latest_turn b c.requires.0 _) _ c.if-change-ne-TAKEN.false c.in-Some.ensures.0 c.in-Some.ensures.1)

pub returns-then-change-eq-TAKEN : goal.returns-then-change-eq-TAKEN
unfolding IdAt layout_of
returns-then-change-eq-TAKEN c =
    let b = c.args.board in
    taken_free b c.requires.0 c.requires.1 _ (latest_turn b c.requires.0 _) _ c.if-change-eq-TAKEN.true c.in-None.ensures c.joins.ensures

pub returns-else-change-eq-TAKEN : goal.returns-else-change-eq-TAKEN
unfolding IdAt
returns-else-change-eq-TAKEN c =
    let b = c.args.board in
    rw (ne_eqb _ 5 c.if-change-eq-TAKEN.false)
    (added_free b c.requires.0 c.requires.1 _ (latest_turn b c.requires.0 _) c.if-change-eq-TAKEN.false c.in-None.ensures)
