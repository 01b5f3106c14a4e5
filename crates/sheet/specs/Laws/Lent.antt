-- What stands in the lent slice does not matter: the reply is the same, and so are the corners written.
-- Assumes nothing.
use Rattle.std.specs.Prelude.{ℕ, zero, suc, ◌+◌, ◌≤◌, ◌≡◌, refl, List, [], ◌∷◌, ◌++◌, length, take, drop}
use Rattle.std.proofs.Common.{arith, sym, ap, ap₂, subst, ◌∙◌, inl, inr, length-append, take_at, length-take-le}
use Rattle.paper.specs.declared.Board.{Board}
use Rattle.paper.specs.declared.Record.{Record}
use Rattle.paper.specs.declared.Reply.{Reply}
use Rattle.paper.specs.Grid.{Node}
use Rattle.paper.specs.Layout.{Layout}
use Rattle.paper.specs.Answer.{Gives, verdict, checks, flat, written, Tells, Replies, Fed}
use Rattle.paper.proofs.One.{one_reply}

-- how many numbers the reply's corners take
abbrev pub count : Reply → ℕ
count r = r.corners + r.corners

length_flat : (ps : List Node) → length (flat ps) ≡ length ps + length ps
unfolding flat
length_flat [] = refl
length_flat (p ∷ ps) = omega (arith, length_flat ps)

-- ---- what was written

Wrote : List ℕ → List ℕ → Reply → Type 0
Wrote s s' r = (ps : List Node) × (count r ≡ length (flat ps)) × (s' ≡ written ps s)

tells_wrote : {long away : ℕ} {ps : List Node} {b : Board} {s s' : List ℕ} {r : Reply} → Tells long away ps b s s' r → Wrote s s' r
unfolding Wrote
tells_wrote {ps} t = (ps, omega (arith, t.corners_are, length_flat ps), t.slice_is)

replies_wrote : (l : Layout) (rec : Record) (s s' : List ℕ) (r : Reply) → Replies l rec s s' r → Wrote s s' r
replies_wrote l rec s s' r f = go r.code refl
  where
    go : (k : ℕ) → r.code ≡ k → Wrote s s' r
    go zero e = tells_wrote (f.accepted e).2
    go (suc k) e = tells_wrote (f.refused (λ z. omega arith))

fed_wrote : (b : Board) (bytes s s' : List ℕ) (r : Reply) → Fed b bytes s s' r → Wrote s s' r
unfolding Fed
fed_wrote b bytes s s' r (inl f) = tells_wrote f.2
fed_wrote b bytes s s' r (inr f) = replies_wrote f.0 f.1 s s' r f.4

-- the corners that a reply counts stand in the slice
pub fed_room : (b : Board) (bytes s s' : List ℕ) (r : Reply) → Fed b bytes s s' r → count r ≤ length s'
unfolding Wrote
fed_room b bytes s s' r f =
    let w = fed_wrote b bytes s s' r f in
    omega (arith, w.1, ap length w.2, length-append (flat w.0) (drop (length (flat w.0)) s))

-- ---- another slice lent

tells_lent : {long away : ℕ} {ps : List Node} {b : Board} {s s' : List ℕ} {r : Reply} (t : List ℕ) → Tells long away ps b s s' r
    → Tells long away ps b t (take (count r) s' ++ drop (count r) t) r
tells_lent {ps} {s} {r} t f =
    let e : count r ≡ length (flat ps) = omega (arith, f.corners_are, length_flat ps) in
    record {
      length_is = f.length_is;
      detour_is = f.detour_is;
      corners_are = f.corners_are;
      board_is = f.board_is;
      slice_is = ap₂ ◌++◌ (ap (take (count r)) f.slice_is ∙ take_at (flat ps) (drop (length (flat ps)) s) (count r) (sym e)) (ap (λ k. drop k t) e);
    }

fed_lent : (b : Board) (bytes s s' t : List ℕ) (r : Reply) → length s ≡ length t → Fed b bytes s s' r
    → Fed b bytes t (take (count r) s' ++ drop (count r) t) r
unfolding Fed
fed_lent b bytes s s' t r e (inl f) = inl (f.0, f.1, tells_lent t f.2)
fed_lent b bytes s s' t r e (inr f) =
    let g : Replies f.0 f.1 s s' r = f.4 in
    inr (
      f.0,
      f.1,
      f.2,
      f.3,
      record {
        code = subst (λ m. Gives (checks f.0 f.1 m) (verdict r)) e g.code;
        refused = λ n. tells_lent t (g.refused n);
        accepted = λ z. let a = g.accepted z in (a.0, a.1, tells_lent t a.2);
      },
    )

-- slices of one length: one reply, and the same corners
pub one_told : (b : Board) (bytes s s₁ t t₁ : List ℕ) (r₁ r₂ : Reply) → length s ≡ length t → Fed b bytes s s₁ r₁ → Fed b bytes t t₁ r₂
    → (r₁ ≡ r₂) × (take (count r₁) s₁ ≡ take (count r₂) t₁)
one_told b bytes s s₁ t t₁ r₁ r₂ e p q =
    let k : ℕ = count r₁ in
    let o = one_reply b bytes t (take k s₁ ++ drop k t) t₁ r₁ r₂ (fed_lent b bytes s s₁ t r₁ e p) q in (
      o.0,
      sym (take_at (take k s₁) (drop k t) k (length-take-le k s₁ (fed_room b bytes s s₁ r₁ p)))
          ∙ ap₂ (λ r x. take (count r) x) o.0 o.1,
    )
