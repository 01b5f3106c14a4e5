-- A wire told by its corners is walked: the word of unit steps that has just these corners, and how long it is.
-- The definitions and lemmas under it stand in specs/Laws/Walked.
use Prim.Native.Nat.{ℕ, zero, suc, ◌+◌, ◌-◌, ◌<◌, min, max}
use native.Mathlib.Omega.{arith}
use Rattle.std.proofs.Math.Decide.{dec_lt}
use Rattle.std.specs.Prelude.{◌≡◌, true, false, eqb}
use Rattle.std.proofs.Math.Path.{refl, ap, subst}
use Rattle.std.proofs.Common.{sym, ◌∙◌}
use Rattle.std.proofs.Math.Logic.{⊎_elim}
use mathlib.Core.List.{List, [], ◌∷◌, ◌++◌}
use Rattle.std.proofs.Math.ListN.{replicate, length-append, length-replicate}
use Rattle.paper.specs.Grid.{Node, Dir, E, N, W, S, rank, step, Axis, level, upright, Grid, Edge, Free, Block, All, Blocked, edge, grid_with}
use Rattle.paper.specs.Wire.{Legal, turns, corners, between, runs, manhattan, gap}
use Rattle.paper.specs.Layout.{Along, across, Turning, last_of}
use Rattle.paper.specs.Drawn.{long_of}
use Rattle.paper.specs.Laws.Steps.{axis_of, back, onward, west, south, Inside}
use Rattle.paper.specs.Laws.Traced.{turns_on, turns_at}
use Rattle.paper.specs.Laws.Walked.{Within, Word, clear_within}

-- ---- a straight run that is not blocked is walked

-- q lies n steps from p in the direction
unfoldable Ahead : Dir → ℕ → Node → Node → Type 0
Ahead E n p q = (p.x + n ≡ q.x) × (p.y ≡ q.y)
Ahead N n p q = (p.y + n ≡ q.y) × (p.x ≡ q.x)
Ahead W n p q = (q.x + n ≡ p.x) × (p.y ≡ q.y)
Ahead S n p q = (q.y + n ≡ p.y) × (p.x ≡ q.x)

ahead_none : (d : Dir) (p q : Node) → Ahead d 0 p q → p ≡ q
unfolding Ahead
ahead_none E p q a = let e : p.x ≡ q.x = omega arith in λ i. record { x = e i; y = a.1 i }
ahead_none N p q a = let e : p.y ≡ q.y = omega arith in λ i. record { x = a.1 i; y = e i }
ahead_none W p q a = let e : p.x ≡ q.x = omega arith in λ i. record { x = e i; y = a.1 i }
ahead_none S p q a = let e : p.y ≡ q.y = omega arith in λ i. record { x = a.1 i; y = e i }

module _ (w h : ℕ) (bs : List Block) where
  abbrev G : Grid
  G = grid_with w h bs

  first_free : (d : Dir) (n : ℕ) (p q : Node) → Ahead d (suc n) p q → Inside G p → Inside G q → ¬ (Blocked bs (between p q)) → Free G p d
  unfolding Ahead Free Edge Within step
  first_free E n p q a i j c = (omega arith, omega arith, clear_within bs (edge level p) (between p q) (omega arith) c)
  first_free N n p q a i j c = (omega arith, omega arith, clear_within bs (edge upright p) (between p q) (omega arith) c)
  first_free W n p q a i j c =
      let e = west p (omega arith) in
      (omega arith, (omega (arith, e), omega arith, clear_within bs (edge level (step W p)) (between p q) (omega (arith, e)) c))
  first_free S n p q a i j c =
      let e = south p (omega arith) in
      (omega arith, (omega arith, omega (arith, e), clear_within bs (edge upright (step S p)) (between p q) (omega (arith, e)) c))

  ahead_next : (d : Dir) (n : ℕ) (p q : Node) → Ahead d (suc n) p q → Inside G p → Inside G q
      → Ahead d n (step d p) q × Inside G (step d p) × Within (between (step d p) q) (between p q)
  unfolding Ahead Within step
  ahead_next E n p q a i j = omega arith
  ahead_next N n p q a i j = omega arith
  ahead_next W n p q a i j = omega (arith, west p (omega arith))
  ahead_next S n p q a i j = omega (arith, south p (omega arith))

  straight_legal : (t : Node) (d : Dir) (n : ℕ) (p q : Node) (v : List Dir) → Ahead d n p q → Inside G p → Inside G q → ¬ (Blocked bs (between p q))
      → Legal G q t v → Legal G p t (replicate n d ++ v)
  unfolding Legal
  straight_legal t d zero p q v a i j c l = subst (λ p. Legal G p t v) (sym (ahead_none d p q a)) l
  straight_legal t d (suc n) p q v a i j c l =
      let k = ahead_next d n p q a i j in
      (first_free d n p q a i j c, straight_legal t d n (step d p) q v k.0 k.1 j (clear_within bs (between (step d p) q) (between p q) k.2 c) l)

  -- ---- its corners

  rank_same : (d : Dir) → eqb (rank d) (rank d) ≡ true
  rank_same E = refl
  rank_same N = refl
  rank_same W = refl
  rank_same S = refl

  rank_turn : (d e : Dir) → axis_of e ≡ across (axis_of d) → eqb (rank d) (rank e) ≡ false
  rank_turn d e h =
      ⊎_elim (λ k. absurd (same_axis (axis_of d) (ap axis_of k.0 ∙ h)))
      (λ k. ⊎_elim (λ m. m.1) (λ m. absurd (same_axis (axis_of d) (sym (back_axis d) ∙ ap axis_of (sym m) ∙ h))) k) (onward d e)
    where
      same_axis : (a : Axis) → a ≡ across a → ⊥
      same_axis level e = let z : ◌≡◌ {A = ℕ} 0 1 = cc in omega arith
      same_axis upright e = let z : ◌≡◌ {A = ℕ} 0 1 = cc in omega arith

      back_axis : (d : Dir) → axis_of (back d) ≡ axis_of d
      back_axis E = refl
      back_axis N = refl
      back_axis W = refl
      back_axis S = refl

  turns_run : (d : Dir) (n : ℕ) (p q : Node) (v : List Dir) → Ahead d n p q → Inside G p → Inside G q → turns d p (replicate n d ++ v) ≡ turns d q v
  turns_run d zero p q v a i j = ap (λ p. turns d p v) (ahead_none d p q a)
  turns_run d (suc n) p q v a i j =
      let k = ahead_next d n p q a i j in
      turns_on d d p (replicate n d ++ v) (rank_same d) ∙ turns_run d n (step d p) q v k.0 k.1 j

  -- ---- the word of a wire with these corners

  -- the direction and the number of steps of a straight run
  record Run (a : Axis) (p q : Node) : Type 0 where
    dir : Dir
    more : ℕ
    axis : axis_of dir ≡ a
    ahead : Ahead dir (suc more) p q
    long : manhattan p q ≡ suc more

  same : (a b : ℕ) → min a b ≡ max a b → (a ≡ b) × (gap a b ≡ 0)
  unfolding gap
  same a b h = let e : a ≡ b = omega arith in (e, omega (arith, e))

  apart : (a b : ℕ) → a < b → (a + suc (b - a - 1) ≡ b) × (gap a b ≡ suc (b - a - 1)) × (gap b a ≡ suc (b - a - 1))
  unfolding gap
  apart a b h = (omega arith, omega arith, omega arith)

  one_apart : (a b : ℕ) → min a b < max a b → ¬ (a < b) → b < a
  one_apart a b h n = omega arith

  run : (a : Axis) (p q : Node) → Along a (between p q) → Run a p q
  unfolding Along Ahead manhattan
  run level p q h =
      let y = same p.y q.y h.0 in
      elim (dec_lt p.x q.x) [
        | yes l ↦ let k = apart p.x q.x l in record { dir = E; more = q.x - p.x - 1; axis = refl; ahead = (k.0, y.0); long = omega (arith, k.1, y.1) }
        | no l ↦ let k = apart q.x p.x (one_apart p.x q.x h.1 l) in record { dir = W; more = p.x - q.x - 1; axis = refl; ahead = (k.0, y.0); long = omega (arith, k.2, y.1) }
      ]
  run upright p q h =
      let x = same p.x q.x h.0 in
      elim (dec_lt p.y q.y) [
        | yes l ↦ let k = apart p.y q.y l in record { dir = N; more = q.y - p.y - 1; axis = refl; ahead = (k.0, x.0); long = omega (arith, k.1, x.1) }
        | no l ↦ let k = apart q.y p.y (one_apart p.y q.y h.1 l) in record { dir = S; more = p.y - q.y - 1; axis = refl; ahead = (k.0, x.0); long = omega (arith, k.2, x.1) }
      ]

  pub word : (a : Axis) (p q : Node) (ps : List Node) → Turning a (runs (p ∷ q ∷ ps)) → All (Inside G) (p ∷ q ∷ ps) → All (λ r. ¬ (Blocked bs r)) (runs (p ∷ q ∷ ps))
      → Word w h bs a p (q ∷ ps)
  unfolding Turning All runs last_of corners long_of Legal
  word a p q [] t i c =
      let r = run a p q t.0 in
      let k = ahead_next r.dir r.more p q r.ahead i.0 i.1.0 in
      record {
        first = r.dir;
        rest = replicate r.more r.dir ++ [];
        axis = r.axis;
        legal = straight_legal q r.dir (suc r.more) p q [] r.ahead i.0 i.1.0 c.0 refl;
        corners_are = ap (λ l. p ∷ l) (turns_run r.dir r.more (step r.dir p) q [] k.0 k.1 i.1.0 ∙ (unfold turns in refl));
        long = omega (arith, r.long, length-append (replicate r.more r.dir) [], length-replicate r.more r.dir);
      }
  word a p q (s ∷ ps) t i c =
      let r = run a p q t.0 in
      let k = ahead_next r.dir r.more p q r.ahead i.0 i.1.0 in
      let m = word (across a) q s ps t.1 i.1 c.1 in
      let x : axis_of m.first ≡ across (axis_of r.dir) = m.axis ∙ ap across (sym r.axis) in
      record {
        first = r.dir;
        rest = replicate r.more r.dir ++ (m.first ∷ m.rest);
        axis = r.axis;
        legal = straight_legal _ r.dir (suc r.more) p q (m.first ∷ m.rest) r.ahead i.0 i.1.0 c.0 m.legal;
        corners_are =
            ap (λ l. p ∷ l) (turns_run r.dir r.more (step r.dir p) q (m.first ∷ m.rest) k.0 k.1 i.1.0
            ∙ turns_at r.dir m.first q m.rest (rank_turn r.dir m.first x) ∙ m.corners_are);
        long = omega (arith, r.long, m.long, length-append (replicate r.more r.dir) (m.first ∷ m.rest), length-replicate r.more r.dir);
      }
