-- `soundness::several::items_fit` meets its contract: the items before i fit, and `last` is the highest of their ids.
use Rattle.paper.specs.Layout.{ItemsApart}
use Rattle.soundness.specs.Shape.{things_of}
use Rattle.soundness.specs.Laws.Joined.{Tops}
use Rattle.soundness.proofs.several.items_fit.Given as goal

abbrev pub invariant-loop-i : goal.invariant-loop-i
invariant-loop-i l = ItemsApart l.size (things_of l.i l.items) × Tops l.last (things_of l.i l.items)
