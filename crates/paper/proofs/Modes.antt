-- Document 02, order 6: what is answered in one mode, beside what is answered in the other.
-- The definitions and lemmas under it stand in specs/Laws/Modes.
use Prim.Native.Nat.{ℕ, zero, suc, ◌≤◌}
use Rattle.std.proofs.Common.{arith, sym, ap, subst, subst₂, ◌∙◌, inl, inr}
use Rattle.std.specs.Prelude.{◌≡◌, Bool, true, false, ◌&&◌, ◌||◌, length, T, eqb, ltb}
use Rattle.std.proofs.Math.Path.{refl}
use Rattle.std.proofs.Math.Bool.{not}
use mathlib.Core.List.{List, [], ◌∷◌}
use Rattle.std.proofs.Math.Dec.{leb}
use Rattle.paper.specs.declared.Size.{Size}
use Rattle.paper.specs.declared.Pins.{Pins}
use Rattle.paper.specs.declared.Board.{Board}
use Rattle.paper.specs.declared.Reply.{Reply}
use Rattle.paper.specs.declared.Mode.TheVariants.{Plain, Fewest}
use Rattle.paper.specs.Grid.{Node, Dir, E, N, rank, step, Block, grid_with}
use Rattle.paper.specs.Wire.{Legal, First, Answered, corners, turns, runs, runs_of, Straightest, gap, manhattan}
use Rattle.paper.specs.Layout.{Thing, keep_out, wires, areas, blocks_of, blocks_to, grid_of, Layout}
use Rattle.paper.specs.Padding.{WellFormed}
use Rattle.paper.specs.Reading.{Reads}
use Rattle.paper.specs.Answer.{plain, verdict, Gives, source, target, checks, Does, Replies, Fed}
use Rattle.paper.specs.Laws.Says.{Says, says_self, says_as, says_always, says_never, says_and, says_or, says_if, says_le, says_eq}
use Rattle.paper.specs.Laws.Tests.{nodeb, node_says, freeb, legalb}
use Rattle.paper.proofs.Tests.{free_says, legal_says}
use Rattle.paper.specs.Laws.Certificate.{dirsb, says_dirs}
use Rattle.paper.specs.Laws.Detour.{length_detour}
use Rattle.paper.specs.Laws.Joins.{joins, joined}
use Rattle.paper.proofs.Seams.{in_joined}
use Rattle.paper.specs.Laws.Least.{rank_inj}
use Rattle.paper.specs.Laws.Read.{one_record}
use Rattle.paper.specs.Laws.Back.{length_runs, one_layout}
use Rattle.paper.specs.Laws.Next.{checks_coded}
use Rattle.paper.specs.Laws.Checks.{one_verdict, Clear, clear_of, of_clear}
use Rattle.paper.specs.Laws.Modes.{asks, fewest_no_more}

-- ---- as short, with no more runs

-- a corner more than runs
corners_runs : (s : Node) (w : List Dir) → length (corners s w) ≡ suc (runs_of s w)
unfolding corners
corners_runs s [] = unfold runs in refl
corners_runs s (d ∷ w) = ap suc (sym (length_runs s (turns d (step d s) w)))

-- ---- what kind 4 answers, kind 8 answers

-- no check that a plain ask passes stops the other, since its wire has no more runs
passes : (l : Layout) (p : Pins) (n : ℕ) (w : List Dir) → Answered (grid_of l.size l.items) (source p) (target p) w
    → Gives (checks l (asks Plain p) n) (plain 0) → Gives (checks l (asks Fewest p) n) (plain 0)
unfolding checks Clear
passes l p n w a g =
    let c = clear_of (checks l (asks Plain p) n) (plain 0) refl (checks_coded l (asks Plain p) n) g in
    let d = c.1.1.1 in
    let e = d.1.1.1 in
    let f = e.1.1.1 in
    of_clear (checks l (asks Fewest p) n) (
      c.0,
      (c.1.0, (c.1.1.0, (d.0, (d.1.0, (d.1.1.0, (e.0, (e.1.0, (e.1.1.0, (λ k. f.0 (w, a, omega (arith, k.2, few k.0 k.1)), tt))))))))),
    )
  where
    few : (v : List Dir) → Straightest (grid_of l.size l.items) (source p) (target p) v → runs_of (source p) v ≤ runs_of (source p) w
    few v b = (fewest_no_more (grid_of l.size l.items) (source p) (target p) w v a b).1

both : (l : Layout) (p : Pins) (s s' t t' : List ℕ) (r u : Reply) → Replies l (asks Plain p) s s' r → r.code ≡ 0 → Replies l (asks Fewest p) t t' u
    → length s ≡ length t → (u.code ≡ 0) × (u.length ≡ r.length) × (u.corners ≤ r.corners)
unfolding Does
both l p s s' t t' r u f z h e =
    let a = f.accepted z in
    let w : List Dir = a.1.0 in
    let said : Gives (checks l (asks Plain p) (length t)) (plain 0)
    = subst (λ n. Gives (checks l (asks Plain p) n) (plain 0)) e (of_clear _ (clear_of _ (verdict r) z (checks_coded l (asks Plain p) (length s)) f.code)) in
    let c : u.code ≡ 0 = ap (λ v. v.code) (one_verdict _ (verdict u) (plain 0) h.code (passes l p (length t) w a.1.1 said)) in
    let b = h.accepted c in
    let v : List Dir = b.1.0 in
    let k = fewest_no_more (grid_of l.size l.items) (source p) (target p) w v a.1.1 b.1.1 in (
      c,
      b.2.length_is ∙ ap (λ o. o.long) b.1.2 ∙ k.0 ∙ sym (ap (λ o. o.long) a.1.2) ∙ sym a.2.length_is,
      omega (
        arith,
        a.2.corners_are,
        b.2.corners_are,
        ap (λ o. length o.turned) a.1.2,
        ap (λ o. length o.turned) b.1.2,
        corners_runs (source p) w,
        corners_runs (source p) v,
        k.1,
      ),
    )

-- both fed to one board, with as many numbers lent: the second is answered, as short and with no more corners
pub fewest_answers : (b : Board) (x y s s' t t' : List ℕ) (r u : Reply) (p : Pins) → Fed b x s s' r → Reads x (asks Plain p) → r.code ≡ 0
    → Fed b y t t' u → Reads y (asks Fewest p) → length s ≡ length t → (u.code ≡ 0) × (u.length ≡ r.length) × (u.corners ≤ r.corners)
unfolding Fed WellFormed
fewest_answers b x y s s' t t' r u p (inl f) rx z g ry e = absurd (omega (arith, ap (λ v. v.code) f.1))
fewest_answers b x y s s' t t' r u p (inr f) rx z (inl g) ry e = absurd (g.0 (f.0, f.2))
fewest_answers b x y s s' t t' r u p (inr f) rx z (inr g) ry e =
    both f.0 p s s' t t' r u
    (subst (λ q. Replies f.0 q s s' r) (one_record x f.1 (asks Plain p) f.3 rx) f.4) z
    (subst₂ (λ m q. Replies m q t t' u) (one_layout b g.0 f.0 g.2 f.2) (one_record y g.1 (asks Fewest p) g.3 ry) g.4) e

-- ---- a board on which they differ

unfoldable firstb : List Dir → List Dir → Bool
firstb [] v = true
firstb (a ∷ w) [] = false
firstb (a ∷ w) (b ∷ v) = ltb (rank a) (rank b) || (eqb (rank a) (rank b) && firstb w v)

first_says : (w v : List Dir) → Says (firstb w v) (First w v)
unfolding firstb First
first_says [] v = says_always tt
first_says (a ∷ w) [] = says_never (λ f. f)
first_says (a ∷ w) (b ∷ v) =
    says_or (says_le _ _) (says_and (says_as (rank_inj a b) (ap rank) (says_eq _ _)) (first_says w v))

module _ (w h : ℕ) (bs : List Block) where
  -- each legal walk of n steps from p to t passes the test
  unfoldable walksb : ℕ → Node → Node → (List Dir → Bool) → Bool
  unfolding dirsb freeb nodeb
  walksb zero p t f = not (nodeb p t) || f []
  walksb (suc n) p t f = dirsb (λ d. not (freeb w h bs p d) || walksb n (step d p) t (λ v. f (d ∷ v)))

  walks_all : (n : ℕ) (p t : Node) (f : List Dir → Bool) → T (walksb n p t f) → (v : List Dir) → Legal (grid_with w h bs) p t v → length v ≡ n → T (f v)
  unfolding walksb Legal
  walks_all zero p t f k [] l e = (says_if (node_says p t) (says_self (f []))).fact k l
  walks_all zero p t f k (d ∷ v) l e = absurd (omega arith)
  walks_all (suc n) p t f k [] l e = absurd (omega arith)
  walks_all (suc n) p t f k (d ∷ v) l e =
      let each = (says_dirs (λ d. says_if (free_says w h bs p d) (says_self (walksb n (step d p) t (λ v. f (d ∷ v)))))).fact k in
      walks_all n (step d p) t (λ v. f (d ∷ v)) (each d l.0) v l.1 (omega arith)

  module _ (s t : Node) (v : List Dir) (legal : T (legalb w h bs s t v)) (straight : length v ≡ manhattan s t) where
    is_legal : Legal (grid_with w h bs) s t v
    is_legal = (legal_says w h bs s t v).fact legal

    -- as long as the pins are apart: none is shorter
    none_shorter : (u : List Dir) → Legal (grid_with w h bs) s t u → length v ≤ length u
    none_shorter u l = omega (arith, length_detour (grid_with w h bs) s t u l)

    first_of_all : T (walksb (length v) s t (firstb v)) → Answered (grid_with w h bs) s t v
    first_of_all k = record {
      legal = is_legal;
      shortest = none_shorter;
      first = λ u l e. (first_says v u).fact (walks_all (length v) s t (firstb v) k u l e);
    }

    -- no fewer runs, and with as many it comes later
    unfoldable straightb : List Dir → Bool
    unfolding firstb
    straightb u = leb (runs_of s v) (runs_of s u) && (not (eqb (runs_of s u) (runs_of s v)) || firstb v u)

    straight_says : (u : List Dir) → Says (straightb u) ((runs_of s v ≤ runs_of s u) × (runs_of s u ≡ runs_of s v → First v u))
    unfolding straightb
    straight_says u = says_and (says_le _ _) (says_if (says_eq _ _) (first_says v u))

    straightest_of_all : T (walksb (length v) s t straightb) → Straightest (grid_with w h bs) s t v
    straightest_of_all k = record {
      legal = is_legal;
      shortest = none_shorter;
      straightest = λ u l e. ((straight_says u).fact (walks_all (length v) s t straightb k u l e)).0;
      first = λ u l e. ((straight_says u).fact (walks_all (length v) s t straightb k u l e)).1;
    }

abbrev small : Size
small = record { w = 3; h = 3; clearance = 1 }

abbrev block : List Thing
block = keep_out 1 (record { x0 = 1; y0 = 0; x1 = 2; y1 = 2 }) ∷ []

abbrev here : Node
here = record { x = 0; y = 1 }

abbrev there : Node
there = record { x = 3; y = 3 }

abbrev shut : List Block
shut = joined (blocks_to 1 wires block)

-- 3 × 3, clearance 1, a keep-out (1,0)-(2,2), from (0,1) to (3,3): 0:1 1:1 1:2 3:2 3:3 is answered by kind 4, 0:1 0:3 3:3 by kind 8
pub modes_differ : Answered (grid_of small block) here there (E ∷ N ∷ E ∷ E ∷ N ∷ []) × Straightest (grid_of small block) here there (N ∷ N ∷ E ∷ E ∷ E ∷ [])
unfolding walksb legalb firstb straightb corners turns runs manhattan gap blocks_to blocks_of areas joins
modes_differ = (
  (in_joined Plain small block here there _ (omega arith)).1 (first_of_all 3 3 shut here there (E ∷ N ∷ E ∷ E ∷ N ∷ []) tt refl tt),
  (in_joined Fewest small block here there _ (omega arith)).1 (straightest_of_all 3 3 shut here there (N ∷ N ∷ E ∷ E ∷ E ∷ []) tt refl tt),
)
