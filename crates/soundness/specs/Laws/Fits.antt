-- One item fits: by its id and its corners.
-- Assumes nothing.
use Rattle.std.specs.Prelude.{◌+◌, ◌≤◌, ◌≡◌, Bool, false}
use native.Mathlib.Omega.{arith}
use Rattle.std.proofs.Common.{sym}
use Rattle.std.proofs.Math.Path.{subst}
use Rattle.paper.specs.declared.Size.{Size}
use Rattle.paper.specs.declared.Item.{Item}
use Rattle.paper.specs.Layout.{RectFits, WireFits, ThingFits}
use Rattle.paper.specs.Laws.Back.{thing_of}
use Rattle.paper.specs.Laws.Says.{Says, says_as, says_never}
use Rattle.paper.specs.Laws.Standing.{thing_id}
use Rattle.shapes.specs.Corners.{corners_of}
use Rattle.soundness.specs.Fitting.{rect_of}
use Rattle.soundness.specs.Laws.Whole.{thing_keep_out, thing_wire}
use Rattle.soundness.specs.Laws.Joined.{id_fits}

module _ (s : Size) (m : Item) where
  pub no_id : m.id ≡ 0 → Says false (ThingFits s (thing_of m))
  no_id e = says_never (λ f. omega (arith, id_fits s (thing_of m) f, thing_id m))

  module _ (r : Bool) (some : ¬ (m.id ≡ 0)) where
    pub fits_keep_out : m.runs ≡ 0 → Says r (RectFits s (rect_of m)) → Says r (ThingFits s (thing_of m))
    unfolding ThingFits
    fits_keep_out e q =
        subst (λ t. Says r (ThingFits s t)) (sym (thing_keep_out m e)) (says_as (λ f. (omega arith, f)) (λ f. f.1) q)

    pub fits_wire : 1 ≤ m.runs → Says r (WireFits s (corners_of m (m.runs + 1))) → Says r (ThingFits s (thing_of m))
    unfolding ThingFits
    fits_wire h q = subst (λ t. Says r (ThingFits s t)) (sym (thing_wire m h)) (says_as (λ f. (omega arith, f)) (λ f. f.1) q)
