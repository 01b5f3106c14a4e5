-- What `used` cites: an item that was found has the id.
use Rattle.std.specs.Prelude.{ℕ, ◌≡◌, Bool, Option, Some, None, is_some, List}
use mathlib.Core.Path.{subst}
use Rattle.paper.specs.Layout.{Thing, Used}
use Rattle.paper.specs.Laws.Says.{Says, says_always, says_never}
use Rattle.items.specs.Items.{IdAt}
use Rattle.items.specs.Laws.Found.{used_at}

pub used_says : (ts : List Thing) (i : ℕ) (f : Option ℕ) → IdAt ts i f → (r : Bool) → r ≡ is_some f → Says r (Used ts i)
unfolding IdAt
used_says ts i (Some k) h r e = rw e (says_always (subst (Used ts) h.1 (used_at ts k h.0)))
used_says ts i None h r e = rw e (says_never h)
