-- The latest change can be undone, and leaves items that fit two by two.
-- Assumes nothing.
use Rattle.std.specs.Prelude.{◌≡◌, Bool, List, ◌∷◌}
use Rattle.paper.specs.Layout.{ItemsApart, Turn, undo, CanUndo, Layout}
use Rattle.paper.specs.Laws.Says.{Says}

-- r says whether it does, of the latest change c
unfoldable pub GoesBack : Layout → Bool → Type 0
GoesBack l r = (c : Turn) (cs : List Turn) → l.kept ≡ c ∷ cs → Says r (CanUndo c l.items × ItemsApart l.size (undo c l.items))
