-- A wire drawn by hand: what is said of it is determined, and it is accepted just if it is a legal wire. The answered wire exceeds by nothing.
-- Assumes nothing.
use Rattle.std.specs.Prelude.{ℕ, zero, suc, ◌+◌, ◌≡◌, refl, ◌⊎◌, length}
use Rattle.std.proofs.Common.{arith, sym, ap, ◌∙◌}
use Rattle.std.proofs.Math.Path.{subst}
use Rattle.std.proofs.Math.Logic.{inl, inr, ⊎_elim}
use mathlib.Core.List.{List, [], ◌∷◌}
use Rattle.paper.specs.declared.Board.{Board}
use Rattle.paper.specs.declared.Judged.{Judged}
use Rattle.paper.specs.Grid.{Node, Dir, Grid, Area, Block, Hits, Any, Blocked}
use Rattle.paper.specs.Wire.{Legal, ToGo, corners, runs}
use Rattle.paper.specs.Layout.{Thing, keep_out, wire, keep_outs, wires, blocks_of, blocks_to, grid_of, last_of, Layout}
use Rattle.paper.specs.Padding.{Holds, WellFormed}
use Rattle.paper.specs.Answer.{Bars, flat}
use Rattle.paper.specs.Drawn.{drawn, shape_checks, run_checks, corner_checks, drawn_checks, Exceeds, judgement, JudgedOn, Judges}
use Rattle.paper.specs.Laws.Lists.{any_split}
use Rattle.paper.specs.Laws.Checks.{one_verdict, Coded, coded_join}
use Rattle.paper.specs.Laws.Back.{one_layout}
use Rattle.paper.specs.Laws.Joins.{joined}
use Rattle.paper.specs.Laws.Bent.{shape_coded}

-- ---- one judgement

pub one_to_go : (G : Grid) (t p : Node) (m n : ℕ) → ToGo G t p m → ToGo G t p n → m ≡ n
one_to_go G t p m n a b = omega (arith, a.least b.by b.legal, b.least a.by a.legal, a.long, b.long)

one_excess : (G : Grid) (ps : List Node) (m n : ℕ) → Exceeds G ps m → Exceeds G ps n → m ≡ n
unfolding Exceeds
one_excess G [] m n a b = absurd a
one_excess G (p ∷ ps) m n a b = omega (arith, one_to_go G (last_of p ps) p a.0 b.0 a.1 b.1, a.2, b.2)

judged_same : (l : Layout) (ns : List ℕ) (r q : Judged) → JudgedOn l ns r → JudgedOn l ns q → r ≡ q
judged_same l ns r q a b = go r.code refl
  where
    v : judgement r ≡ judgement q
    v = one_verdict (drawn_checks l ns) (judgement r) (judgement q) a.said b.said

    c : r.code ≡ q.code
    c = ap (λ v. v.code) v

    go : (k : ℕ) → r.code ≡ k → r ≡ q
    go zero e =
        let x : r.excess ≡ q.excess = one_excess _ (drawn ns) r.excess q.excess (a.accepted e) (b.accepted (sym c ∙ e)) in
        λ i. record { code = (v i).code; run = (v i).place; excess = x i }
    go (suc k) e =
        let x : r.excess ≡ q.excess = a.refused (λ h. omega arith) ∙ sym (b.refused (λ h. omega (arith, c))) in
        λ i. record { code = (v i).code; run = (v i).place; excess = x i }

pub one_judged : (b : Board) (ns : List ℕ) (r q : Judged) → Judges b ns r → Judges b ns q → r ≡ q
unfolding Judges WellFormed
one_judged b ns r q (inl f) (inl g) = f.1 ∙ sym g.1
one_judged b ns r q (inl f) (inr g) = absurd (f.0 (g.0, g.1))
one_judged b ns r q (inr f) (inl g) = absurd (g.0 (f.0, f.1))
one_judged b ns r q (inr f) (inr g) =
    judged_same g.0 ns r q (subst (λ l. JudgedOn l ns r) (one_layout b f.0 g.0 f.1 g.1) f.2) g.2

-- what is said on a board is what is said on the layout that it holds
pub judges_on : (b : Board) (l : Layout) (ns : List ℕ) (r : Judged) → Holds b l → Judges b ns r → JudgedOn l ns r
unfolding Judges WellFormed
judges_on b l ns r h (inl f) = absurd (f.0 (l, h))
judges_on b l ns r h (inr f) = subst (λ l. JudgedOn l ns r) (one_layout b f.0 l f.1 h) f.2

-- ---- what stands in a run's way

module _ (l : Layout) (a : Area) where
  sorted : (t : Thing) → Blocked (blocks_of l.size.clearance wires t) a → Bars l wires keep_outs a t ⊎ Bars l wires wires a t
  unfolding Bars
  sorted (keep_out i r) b = inl (refl, b)
  sorted (wire i ps) b = inr (refl, b)

  pub none_among : (ts : List Thing) → ¬ (Any (Bars l wires keep_outs a) ts) → ¬ (Any (Bars l wires wires a) ts) → ¬ (Blocked (blocks_to l.size.clearance wires ts) a)
  unfolding Any blocks_to Blocked
  none_among [] k w h = h
  none_among (t ∷ ts) k w h =
      ⊎_elim (λ b. ⊎_elim (λ x. k (inl x)) (λ x. w (inl x)) (sorted t b)) (λ b. none_among ts (λ x. k (inr x)) (λ x. w (inr x)) b)
      (any_split (λ b. Hits b a) (blocks_of l.size.clearance wires t) (blocks_to l.size.clearance wires ts) h)

-- by the blocks and the rectangles of two: nothing is in the run's way just where no item and no seam is
abbrev pub shut : Layout → List Block
shut l = joined (blocks_to l.size.clearance wires l.items)

-- ---- the checks of the runs

pub run_coded : (l : Layout) (k : ℕ) (ps : List Node) → Coded (run_checks l k ps)
unfolding Coded run_checks
run_coded l k [] = tt
run_coded l k (p ∷ []) = tt
run_coded l k (p ∷ q ∷ ps) = (omega arith, (omega arith, (omega arith, run_coded l (suc k) (q ∷ ps))))

-- ---- the truth

pub drawn_flat : (ps : List Node) → (drawn (flat ps) ≡ ps) × (length (flat ps) ≡ length ps + length ps)
unfolding drawn flat
drawn_flat [] = (refl, refl)
drawn_flat (p ∷ ps) = let m = drawn_flat ps in (ap (λ l. p ∷ l) m.0, omega (arith, m.1))

-- ---- the excess

-- a legal walk has just these corners, and it is n steps longer than a shortest one
pub record Walk (l : Layout) (ps : List Node) (n : ℕ) : Type 0 where
  pub from : Node
  pub to : Node
  pub two : ¬ (from ≡ to)
  pub by : List Dir
  pub legal : Legal (grid_of l.size l.items) from to by
  pub corners_are : corners from by ≡ ps
  pub shortest : ℕ
  pub to_go : ToGo (grid_of l.size l.items) to from shortest
  pub excess : length by ≡ shortest + n

pub corner_coded : (l : Layout) (ps : List Node) → Coded (corner_checks l ps)
unfolding Coded
corner_coded l ps = (omega arith, coded_join (shape_checks 1 (runs ps)) (run_checks l 1 ps) (shape_coded 1 (runs ps)) (run_coded l 1 ps))

pub length_drawn : (ns : List ℕ) (k : ℕ) → length ns ≡ k + k → length (drawn ns) ≡ k
unfolding drawn
length_drawn [] k e = omega arith
length_drawn (x ∷ []) zero e = absurd (omega arith)
length_drawn (x ∷ []) (suc k) e = absurd (omega arith)
length_drawn (x ∷ y ∷ ns) zero e = absurd (omega arith)
length_drawn (x ∷ y ∷ ns) (suc k) e = ap suc (length_drawn ns k (omega arith))
