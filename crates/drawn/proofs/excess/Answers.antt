-- `drawn::excess` meets its contract: the router tells a shortest length, since there is a wire.
use native.Mathlib.Omega.{arith}
use mathlib.Core.Path.{refl}
use Rattle.drawn.specs.Laws.Excess.{no_longer, over_by}
use Rattle.drawn.proofs.excess.Goals as goal

pub find_wire-found-requires : goal.find_wire-found-requires
find_wire-found-requires c = (c.requires.0, c.requires.1)

pub overflow_sub-result : goal.overflow_sub-result
overflow_sub-result c =
    let h = no_longer _ _ _ c.find_wire-found.result c.find_wire-found.ensures _ c.requires.2 _ refl in
    omega (arith, h, c.shortest.ensures)

pub returns : goal.returns
returns c = over_by _ _ _ c.find_wire-found.result c.find_wire-found.ensures _ c.requires.2 _ c.shortest.ensures
