-- A wire fits on a board just if its corners lie on it and nothing is wrong with its shape.
-- Assumes nothing.
use Rattle.std.specs.Prelude.{ℕ, ◌+◌, ◌≤◌, ◌<◌, ◌≡◌, refl, Bool, false, Result, Ok, Err, is_ok, List, length}
use Rattle.std.proofs.Common.{arith, ◌∙◌}
use Rattle.std.proofs.Math.Path.{ap}
use Rattle.std.proofs.Math.Logic.{⊎_elim}
use Rattle.paper.specs.declared.Size.{Size}
use Rattle.paper.specs.declared.Item.{Item}
use Rattle.paper.specs.declared.Refusal.{Refusal}
use Rattle.paper.specs.Codes.{code_of}
use Rattle.paper.specs.Limits.{most_corners, most_runs}
use Rattle.paper.specs.Grid.{Node, level, upright}
use Rattle.paper.specs.Wire.{runs}
use Rattle.paper.specs.Layout.{OnBoard, WireFits}
use Rattle.paper.specs.Answer.{plain, Gives}
use Rattle.paper.specs.Drawn.{form_checks}
use Rattle.paper.specs.Laws.Says.{Says, says_as, says_always, says_never}
use Rattle.paper.specs.Laws.Checks.{Coded, Clear, clear_of, of_clear, one_verdict}
use Rattle.paper.proofs.Bent.{by_turns, turning_shape}
use Rattle.paper.specs.Laws.Bent.{shape_coded}
use Rattle.paper.specs.Laws.Traced.{either}
use Rattle.blocks.specs.Growing.{corner_at, stretch_at}
use Rattle.blocks.specs.Laws.Lists.{length_listed}
use Rattle.shapes.specs.declared.Fault.{Fault}
use Rattle.shapes.specs.Corners.{corners_of}
use Rattle.shapes.specs.Faults.{fault_of}
use Rattle.shapes.specs.Laws.Corners.{corners_all, corners_at, runs_are}

-- a fault has a code
pub coded : (r : Refusal) → 1 ≤ code_of r
coded r = grind arith

-- the verdict is 0 just where nothing is wrong
pub ok_says : (f : Result (Unit {0}) (Fault Refusal)) → Says (is_ok f) ((fault_of f).code ≡ 0)
ok_says (Ok u) = says_always refl
ok_says (Err f) = says_never (λ z. omega (arith, coded f.why))

pub form_coded : (ps : List Node) → Coded (form_checks ps)
unfolding Coded
form_coded ps = (omega arith, shape_coded 1 (runs ps))

module _ (s : Size) (m : Item) (lx : length m.xs ≡ most_corners) (ly : length m.ys ≡ most_corners) (n : ℕ) where
  -- a wire off the board does not fit
  pub fits_not : n ≤ most_runs → ¬ ((k : ℕ) → k < n + 1 → OnBoard s (corner_at m k)) → (r : Bool) → r ≡ false → Says r (WireFits s (corners_of m (n + 1)))
  fits_not few off r e = rw e (says_never (λ w. off (corners_at m lx ly (OnBoard s) (n + 1) (omega arith) w.on)))

  module _ (some : 1 ≤ n) (few : n ≤ most_runs) (on : (k : ℕ) → k < n + 1 → OnBoard s (corner_at m k))
      (f : Result (Unit {0}) (Fault Refusal)) (g : Gives (form_checks (corners_of m (n + 1))) (fault_of f)) where
    runs_long : length (runs (corners_of m (n + 1))) ≡ n
    runs_long = ap length (runs_are m lx ly n few) ∙ length_listed (stretch_at m) 0 n

    faultless : (fault_of f).code ≡ 0 → WireFits s (corners_of m (n + 1))
    unfolding Clear
    faultless z =
        let c = clear_of (form_checks (corners_of m (n + 1))) (fault_of f) z (form_coded (corners_of m (n + 1))) g in
        record {
          ends = c.0;
          some = omega (arith, runs_long);
          few = omega (arith, runs_long);
          turning = let t = by_turns 1 (runs (corners_of m (n + 1))) (omega (arith, runs_long)) c.1 in either t.0 (runs (corners_of m (n + 1))) t.1;
          on = corners_all m lx ly (OnBoard s) (n + 1) (omega arith) (n + 1) (omega arith) on;
        }

    fitting : WireFits s (corners_of m (n + 1)) → (fault_of f).code ≡ 0
    unfolding Clear
    fitting w =
        let rs = runs (corners_of m (n + 1)) in
        let c : Clear (form_checks (corners_of m (n + 1))) = (w.ends, ⊎_elim (turning_shape level 1 rs) (turning_shape upright 1 rs) w.turning) in
        ap (λ v. v.code) (one_verdict (form_checks (corners_of m (n + 1))) (fault_of f) (plain 0) g (of_clear (form_checks (corners_of m (n + 1))) c))

    pub fits_said : (r : Bool) → r ≡ is_ok f → Says r (WireFits s (corners_of m (n + 1)))
    fits_said r e = rw e (says_as faultless fitting (ok_says f))
