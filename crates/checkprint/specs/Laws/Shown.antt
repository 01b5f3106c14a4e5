-- What a line shows: the excess with 0, the run with 9, 20, 23 and 24, and nothing more with the other codes.
-- Assumes nothing.
use Rattle.std.specs.Prelude.{ℕ, zero, suc, ◌≤◌, ◌≡◌, refl, ◌⊎◌, List, [], ◌∷◌, ◌++◌}
use Rattle.std.proofs.Common.{arith, ap, inl, inr, ⊎_elim}
use Rattle.paper.specs.declared.Board.{Board}
use Rattle.paper.specs.declared.Judged.{Judged}
use Rattle.paper.specs.Grid.{Node}
use Rattle.paper.specs.Layout.{Layout}
use Rattle.paper.specs.Drawn.{drawn, judgement, Judges}
use Rattle.paper.specs.Laws.Named.{Named, none, shape, place}
use Rattle.paper.proofs.Named.{run_named}
use Rattle.text.specs.Text.{Part, number, byte}
use Rattle.sheet.specs.Sheet.{space, line_end}
use Rattle.checkprint.specs.Checked.{told_in, told_of, line_of}

-- ---- after the code

pub told_excess : (code run excess : ℕ) → code ≡ 0 → told_in code run excess ≡ byte space ∷ number excess ∷ []
unfolding told_in
told_excess zero run excess e = refl
told_excess (suc code) run excess e = absurd (omega arith)

pub told_run : (code run excess : ℕ) → ¬ (code ≡ 0) → 1 ≤ run → told_in code run excess ≡ byte space ∷ number run ∷ []
unfolding told_in
told_run zero run excess h l = absurd (h refl)
told_run (suc code) zero excess h l = absurd (omega arith)
told_run (suc code) (suc run) excess h l = refl

pub told_none : (code run excess : ℕ) → ¬ (code ≡ 0) → run ≡ 0 → told_in code run excess ≡ []
unfolding told_in
told_none zero run excess h e = absurd (h refl)
told_none (suc code) zero excess h e = refl
told_none (suc code) (suc run) excess h e = absurd (omega arith)

-- ---- the line

-- number, code and, after a space, what stands there
abbrev pub line_with : ℕ → ℕ → List Part → List Part
line_with n code told = number n ∷ byte space ∷ number code ∷ told ++ byte line_end ∷ []

pub data Shows (n : ℕ) (r : Judged) : Type 0 where
  shows_excess : r.code ≡ 0 → line_of n r ≡ line_with n r.code (byte space ∷ number r.excess ∷ []) → Shows n r
  shows_run : (r.code ≡ 9) ⊎ (r.code ≡ 20) ⊎ (r.code ≡ 23) ⊎ (r.code ≡ 24) → 1 ≤ r.run
      → line_of n r ≡ line_with n r.code (byte space ∷ number r.run ∷ []) → Shows n r
  shows_code : (r.code ≡ 17) ⊎ (r.code ≡ 2) ⊎ (r.code ≡ 22) ⊎ (r.code ≡ 10) → line_of n r ≡ line_with n r.code [] → Shows n r

module _ (n : ℕ) (r : Judged) where
  line : (told : List Part) → told_of r ≡ told → line_of n r ≡ line_with n r.code told
  line told e = ap (line_with n r.code) e

  by_excess : r.code ≡ 0 → Shows n r
  by_excess e = shows_excess e (line _ (told_excess r.code r.run r.excess e))

  by_run : (r.code ≡ 9) ⊎ (r.code ≡ 20) ⊎ (r.code ≡ 23) ⊎ (r.code ≡ 24) → ¬ (r.code ≡ 0) → 1 ≤ r.run → Shows n r
  by_run e h l = shows_run e l (line _ (told_run r.code r.run r.excess h l))

  by_code : (r.code ≡ 17) ⊎ (r.code ≡ 2) ⊎ (r.code ≡ 22) ⊎ (r.code ≡ 10) → ¬ (r.code ≡ 0) → r.run ≡ 0 → Shows n r
  by_code e h z = shows_code e (line _ (told_none r.code r.run r.excess h z))

  named_shown : (l : Layout) (ps : List Node) → Named l ps (judgement r) → Shows n r
  named_shown l ps (none (inl e)) = by_excess (ap (λ v. v.code) e)
  named_shown l ps (none (inr (inl e))) = let c = ap (λ v. v.code) e in by_code (inr (inl c)) (λ z. omega arith) (ap (λ v. v.place) e)
  named_shown l ps (none (inr (inr (inl e)))) = let c = ap (λ v. v.code) e in by_code (inr (inr (inl c))) (λ z. omega arith) (ap (λ v. v.place) e)
  named_shown l ps (none (inr (inr (inr e)))) = let c = ap (λ v. v.code) e in by_code (inr (inr (inr c))) (λ z. omega arith) (ap (λ v. v.place) e)
  named_shown l ps (shape f) =
      let c = ap (λ v. v.code) f.said in by_run (inr (inr (inl c))) (λ z. omega arith) (omega (arith, ap (λ v. v.place) f.said))
  named_shown l ps (place c f) =
      let k : 1 ≤ r.run = omega (arith, ap (λ v. v.place) f.said) in
      ⊎_elim (λ b. by_run (inl b.0) (λ z. omega (arith, b.0)) k)
      (⊎_elim (λ b. by_run (inr (inl b.0)) (λ z. omega (arith, b.0)) k) (λ b. by_run (inr (inr (inr b.0))) (λ z. omega (arith, b.0)) k))
      f.bad

pub line_shown : (b : Board) (ns : List ℕ) (r : Judged) (n : ℕ) → Judges b ns r → Shows n r
unfolding Judges
line_shown b ns r n (inl f) = by_code n r (inl (ap (λ r. r.code) f.1)) (λ z. omega (arith, ap (λ r. r.code) f.1)) (ap (λ r. r.run) f.1)
line_shown b ns r n (inr f) = named_shown n r f.0 (drawn ns) (run_named f.0 ns r f.2)
