-- `seams::round` meets its contract: cell by cell; the smallest of the four places.
use Rattle.std.proofs.Common.{arith}
use Rattle.paper.specs.Grid.{All}
use Rattle.seams.specs.Laws.Rounding.{found_none, not_sunk, round_at}
use Rattle.seams.proofs.round.Goals.{then-x-eq0-via-then-x-eq0, then-x-eq0-via-else-x-eq0+then-y-eq0}
use Rattle.seams.proofs.round.Goals as goal

pub returns-then-x-eq0 : goal.returns-then-x-eq0
returns-then-x-eq0 c =
    not_sunk _ _ _ (λ h. elim c.then-x-eq0.branch [ then-x-eq0-via-then-x-eq0 w ↦ omega arith | then-x-eq0-via-else-x-eq0+then-y-eq0 w ↦ omega arith ])

pub returns-in_err-i : goal.returns-in_err-i
unfolding All
returns-in_err-i c = rw c.from_residual.ensures (not_sunk _ _ _ (λ h. found_none _ _ c.in_err-i.ensures h.2.0))

pub returns-in_err-j : goal.returns-in_err-j
unfolding All
returns-in_err-j c = rw c.from_residual-in_err-j.ensures (not_sunk _ _ _ (λ h. found_none _ _ c.in_err-j.ensures h.2.1.0))

pub returns-in_err-k : goal.returns-in_err-k
unfolding All
returns-in_err-k c = rw c.from_residual-in_err-k.ensures (not_sunk _ _ _ (λ h. found_none _ _ c.in_err-k.ensures h.2.1.1.0))

pub returns-in_err-l : goal.returns-in_err-l
unfolding All
returns-in_err-l c = rw c.from_residual-in_err-l.ensures (not_sunk _ _ _ (λ h. found_none _ _ c.in_err-l.ensures h.2.1.1.1.0))

pub returns : goal.returns
returns c =
    round_at _ _ _ _ _ _ _ _ (omega arith) (omega arith) c.in_ok-i.ensures c.in_ok-j.ensures c.in_ok-k.ensures c.in_ok-l.ensures (cc)
