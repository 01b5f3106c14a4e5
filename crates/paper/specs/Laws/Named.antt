-- The run that is named is the first bad one, and it is named with 23, 9, 20 and 24 alone.
-- Assumes nothing.
use Rattle.std.specs.Prelude.{ℕ, suc, ◌+◌, ◌≡◌, refl, ◌⊎◌, length}
use Rattle.std.proofs.Common.{arith, sym, ap, ◌∙◌}
use Rattle.std.proofs.Math.Nat.{add-zero}
use Rattle.std.proofs.Math.Path.{subst}
use Rattle.std.proofs.Math.Logic.{inl, inr, ⊎_elim}
use mathlib.Core.List.{List, [], ◌∷◌, ◌++◌, head-eq_of_cons-eq}
use Rattle.paper.specs.declared.Verdict.{Verdict}
use Rattle.paper.specs.Grid.{Node, Area}
use Rattle.paper.specs.Wire.{between, runs}
use Rattle.paper.specs.Layout.{OnBoard, Layout}
use Rattle.paper.specs.Answer.{placed, plain, Gives}
use Rattle.paper.specs.Drawn.{Bent, Unturned, InKeepOut, NearWire, shape_checks, run_check, run_checks}
use Rattle.paper.specs.Laws.Checks.{Clear}

-- ---- a bad shape

-- the run is empty or slanted, or goes along the axis of the last of those before it
unfoldable pub BadAfter : List Area → Area → Type 0
BadAfter [] r = Bent r
BadAfter (q ∷ []) r = Bent r ⊎ Unturned q r
BadAfter (p ∷ q ∷ qs) r = BadAfter (q ∷ qs) r

-- of runs that are counted from k: the one after `front` is bad, and none of `front` is
pub record FirstBent (k : ℕ) (rs : List Area) (v : Verdict) : Type 0 where
  pub front : List Area
  pub this : Area
  pub back : List Area
  pub split : rs ≡ front ++ this ∷ back
  pub fine : Clear (shape_checks k front)
  pub bad : BadAfter front this
  pub said : v ≡ placed 23 (k + length front)

-- with one more run before them
one_more : (k : ℕ) (q r : Area) (rs : List Area) (v : Verdict) → ¬ (Bent q) → ¬ (Unturned q r) → FirstBent (suc k) (r ∷ rs) v → FirstBent k (q ∷ r ∷ rs) v
unfolding Clear shape_checks BadAfter
one_more k q r rs v h u f = go f.front f.split f.fine f.bad f.said
  where
    more : (n : ℕ) → v ≡ placed 23 (suc k + n) → v ≡ placed 23 (k + suc n)
    more n e = let z : suc k + n ≡ k + suc n = omega arith in e ∙ ap (placed 23) z

    go : (front : List Area) → r ∷ rs ≡ front ++ f.this ∷ f.back → Clear (shape_checks (suc k) front) → BadAfter front f.this
        → v ≡ placed 23 (suc k + length front) → FirstBent k (q ∷ r ∷ rs) v
    go [] e c b s = record { front = q ∷ []; this = f.this; back = f.back; split = ap (λ l. q ∷ l) e; fine = (h, tt); bad = inl b; said = more 0 s }
    go (x ∷ front) e c b s = record {
      front = q ∷ x ∷ front;
      this = f.this;
      back = f.back;
      split = ap (λ l. q ∷ l) e;
      fine = (h, (subst (λ r. ¬ (Unturned q r)) (head-eq_of_cons-eq e) u, c));
      bad = b;
      said = more (length (x ∷ front)) s;
    }

pub first_bent : (k : ℕ) (rs : List Area) (v : Verdict) → Gives (shape_checks k rs) v → FirstBent k rs v ⊎ (v ≡ plain 0)
unfolding Gives shape_checks Clear BadAfter
first_bent k [] v g = inr g
first_bent k (r ∷ []) v (inl g) = inl (record { front = []; this = r; back = []; split = refl; fine = tt; bad = g.0; said = rw (add-zero k) g.1 })
first_bent k (r ∷ []) v (inr g) = inr g.1
first_bent k (q ∷ r ∷ rs) v (inl g) = inl (record { front = []; this = q; back = r ∷ rs; split = refl; fine = tt; bad = g.0; said = rw (add-zero k) g.1 })
first_bent k (q ∷ r ∷ rs) v (inr (h, inl g)) =
    let e : suc k ≡ k + 1 = omega arith in
    inl (record { front = q ∷ []; this = r; back = rs; split = refl; fine = (h, tt); bad = inr g.0; said = g.1 ∙ ap (placed 23) e })
first_bent k (q ∷ r ∷ rs) v (inr (h, inr (u, g))) = ⊎_elim (λ f. inl (one_more k q r rs v h u f)) inr (first_bent (suc k) (r ∷ rs) v g)

-- ---- a bad place

-- the run from p to q is off the board, enters a keep-out or is too near to a wire: the first of these
abbrev pub BadPlace : Layout → Node → Node → ℕ → Type 0
BadPlace l p q c =
    ((c ≡ 9) × (¬ (OnBoard l.size p × OnBoard l.size q)))
    ⊎ ((c ≡ 20) × (¬ (¬ (OnBoard l.size p × OnBoard l.size q))) × InKeepOut l (between p q))
    ⊎ ((c ≡ 24) × (¬ (¬ (OnBoard l.size p × OnBoard l.size q))) × (¬ (InKeepOut l (between p q))) × NearWire l (between p q))

-- of corners whose runs are counted from k: the run from `from` to `to` is bad, and none before it is
pub record FirstBad (l : Layout) (k : ℕ) (ps : List Node) (v : Verdict) : Type 0 where
  pub front : List Node
  pub from : Node
  pub to : Node
  pub back : List Node
  pub split : ps ≡ front ++ from ∷ to ∷ back
  pub fine : Clear (run_checks l k (front ++ from ∷ []))
  pub bad : BadPlace l from to v.code
  pub said : v ≡ placed v.code (k + length front)

module _ (l : Layout) where
  -- with one more run before them
  run_more : (k : ℕ) (p q : Node) (ps : List Node) (v : Verdict) → Clear (run_check l k p q) → FirstBad l (suc k) (q ∷ ps) v → FirstBad l k (p ∷ q ∷ ps) v
  unfolding Clear run_checks
  run_more k p q ps v h f = go f.front f.split f.fine f.said
    where
      first : (x : Node) (xs : List Node) → q ≡ x → Clear (run_checks l (suc k) (x ∷ xs)) → Clear (run_checks l k (p ∷ x ∷ xs))
      first x xs e c = let g : Clear (run_check l k p x) = subst (λ q. Clear (run_check l k p q)) e h in (g.0, (g.1.0, (g.1.1.0, c)))

      go : (front : List Node) → q ∷ ps ≡ front ++ f.from ∷ f.to ∷ f.back → Clear (run_checks l (suc k) (front ++ f.from ∷ []))
          → v ≡ placed v.code (suc k + length front) → FirstBad l k (p ∷ q ∷ ps) v
      go front e c s = record {
        front = p ∷ front;
        from = f.from;
        to = f.to;
        back = f.back;
        split = ap (λ l. p ∷ l) e;
        fine = fine front e c;
        bad = f.bad;
        said = let z : suc k + length front ≡ k + suc (length front) = omega arith in s ∙ ap (placed v.code) z;
      }
        where
          fine : (front : List Node) → q ∷ ps ≡ front ++ f.from ∷ f.to ∷ f.back → Clear (run_checks l (suc k) (front ++ f.from ∷ []))
              → Clear (run_checks l k (p ∷ front ++ f.from ∷ []))
          fine [] e c = first f.from [] (head-eq_of_cons-eq e) c
          fine (x ∷ front) e c = first x (front ++ f.from ∷ []) (head-eq_of_cons-eq e) c

  here : (k c : ℕ) (p q : Node) (ps : List Node) (v : Verdict) → BadPlace l p q c → v ≡ placed c k → FirstBad l k (p ∷ q ∷ ps) v
  unfolding Clear run_checks
  here k c p q ps v b e = record {
    front = [];
    from = p;
    to = q;
    back = ps;
    split = refl;
    fine = tt;
    bad = subst (BadPlace l p q) (sym (ap (λ v. v.code) e)) b;
    said = rw (e, add-zero k) refl;
  }

  pub first_bad : (k : ℕ) (ps : List Node) (v : Verdict) → Gives (run_checks l k ps) v → FirstBad l k ps v ⊎ (v ≡ plain 0)
  unfolding Gives run_checks Clear
  first_bad k [] v g = inr g
  first_bad k (p ∷ []) v g = inr g
  first_bad k (p ∷ q ∷ ps) v (inl g) = inl (here k 9 p q ps v (inl (refl, g.0)) g.1)
  first_bad k (p ∷ q ∷ ps) v (inr (a, inl g)) = inl (here k 20 p q ps v (inr (inl (refl, a, g.0))) g.1)
  first_bad k (p ∷ q ∷ ps) v (inr (a, inr (b, inl g))) = inl (here k 24 p q ps v (inr (inr (refl, a, b, g.0))) g.1)
  first_bad k (p ∷ q ∷ ps) v (inr (a, inr (b, inr (c, g)))) = ⊎_elim (λ f. inl (run_more k p q ps v (a, (b, (c, tt))) f)) inr (first_bad (suc k) (q ∷ ps) v g)

-- ---- the whole

-- no run is named with 0, 2, 22 and 10; with 23 it is the first bad shape, with 9, 20 and 24 the first bad place of runs whose shapes are good
pub data Named (l : Layout) (ps : List Node) (v : Verdict) : Type 0 where
  none : (v ≡ plain 0) ⊎ (v ≡ plain 2) ⊎ (v ≡ plain 22) ⊎ (v ≡ plain 10) → Named l ps v
  shape : FirstBent 1 (runs ps) v → Named l ps v
  place : Clear (shape_checks 1 (runs ps)) → FirstBad l 1 ps v → Named l ps v
