-- What the promise leaves open: nothing. One code, one outcome, one reply, refused or not.
-- The definitions and lemmas under it stand in specs/Laws/One.
use Rattle.std.specs.Prelude.{ℕ, zero, suc, ◌≡◌, refl, length}
use Rattle.std.proofs.Common.{arith, sym, ap, ap₂, ◌∙◌, inl, inr}
use mathlib.Core.List.{List, [], ◌∷◌, head-eq_of_cons-eq, tail-eq_of_cons-eq}
use Rattle.paper.specs.declared.Board.{Board}
use Rattle.paper.specs.declared.Reply.{Reply}
use Rattle.paper.specs.declared.Record.{Record}
use Rattle.paper.specs.declared.Record.TheVariants.{Bounds, KeepOut, Lay, Ask, TakeOut, Undo, Malformed}
use Rattle.paper.specs.Layout.{wire, grid_of, undo, Layout, Sound}
use Rattle.paper.specs.Padding.{board_of, WellFormed}
use Rattle.paper.specs.Answer.{verdict, source, target, way, checks, add_to, take_from, Outcome, quiet, told, Does, Accepted, left, Replies, Fed}
use Rattle.paper.specs.Laws.Checks.{one_verdict}
use Rattle.paper.proofs.Least.{one_in}
use Rattle.paper.specs.Laws.Back.{one_layout}
use Rattle.paper.specs.Laws.Read.{one_record}
use Rattle.paper.specs.Laws.One.{one_item, sound_rising, tells_same}

-- ---- one outcome

pub one_outcome : (l : Layout) (rec : Record) (o o' : Outcome) → Sound l → Does l rec o → Does l rec o' → o ≡ o'
unfolding Does
one_outcome l Malformed o o' z p q = absurd p
one_outcome l (Bounds b) o o' z p q = p ∙ sym q
one_outcome l (KeepOut i r) o o' z p q = p ∙ sym q
one_outcome l (Lay i n) o o' z p q =
    p.2 ∙ ap (λ w. told n.pins w (add_to l (wire i.number (way n.pins w)))) (one_in n.mode (grid_of l.size l.items) (source n.pins) (target n.pins) p.0 q.0 p.1 q.1)
    ∙ sym q.2
one_outcome l (Ask n) o o' z p q =
    p.2 ∙ ap (λ w. told n.pins w l) (one_in n.mode (grid_of l.size l.items) (source n.pins) (target n.pins) p.0 q.0 p.1 q.1) ∙ sym q.2
one_outcome l (TakeOut i) o o' z p q =
    p.3 ∙ ap (λ t. quiet (take_from l t)) (one_item l.items p.0 q.0 (sound_rising l z) p.1 q.1 (p.2 ∙ sym q.2)) ∙ sym q.3
one_outcome l Undo o o' z p q =
    let same : p.0 ∷ p.1 ≡ q.0 ∷ q.1 = sym p.2 ∙ q.2 in
    p.3 ∙ ap₂ (λ c cs. quiet (record { size = l.size; items = undo c l.items; kept = cs })) (head-eq_of_cons-eq same) (tail-eq_of_cons-eq same) ∙ sym q.3

-- ---- one reply

accepted_same : (l : Layout) (rec : Record) (s s₁ s₂ : List ℕ) (r₁ r₂ : Reply) → Sound l → verdict r₁ ≡ verdict r₂
    → Accepted l rec s s₁ r₁ → Accepted l rec s s₂ r₂ → (r₁ ≡ r₂) × (s₁ ≡ s₂)
accepted_same l rec s s₁ s₂ r₁ r₂ z c p q =
    let o : Outcome = q.0 in
    tells_same o.long o.away o.turned (board_of o.layout) s s₁ s₂ r₁ r₂ c
    (rw (one_outcome l rec p.0 q.0 z p.1 q.1) at p.2) q.2

replies_same : (l : Layout) (rec : Record) (s s₁ s₂ : List ℕ) (r₁ r₂ : Reply) → Sound l
    → Replies l rec s s₁ r₁ → Replies l rec s s₂ r₂ → (r₁ ≡ r₂) × (s₁ ≡ s₂)
replies_same l rec s s₁ s₂ r₁ r₂ z p q = go r₁.code refl
  where
    v : verdict r₁ ≡ verdict r₂
    v = one_verdict (checks l rec (length s)) (verdict r₁) (verdict r₂) p.code q.code

    c : r₁.code ≡ r₂.code
    c = ap (λ v. v.code) v

    go : (k : ℕ) → r₁.code ≡ k → (r₁ ≡ r₂) × (s₁ ≡ s₂)
    go zero e = accepted_same l rec s s₁ s₂ r₁ r₂ z v (p.accepted e) (q.accepted (sym c ∙ e))
    go (suc k) e = tells_same 0 0 [] (board_of (left l)) s s₁ s₂ r₁ r₂ v (p.refused (λ h. omega arith)) (q.refused (λ h. omega (arith, c)))

-- a reply and what is left in the slice are determined, for every board, all bytes and every slice
pub one_reply : (b : Board) (bytes s s₁ s₂ : List ℕ) (r₁ r₂ : Reply) → Fed b bytes s s₁ r₁ → Fed b bytes s s₂ r₂ → (r₁ ≡ r₂) × (s₁ ≡ s₂)
unfolding Fed WellFormed
one_reply b bytes s s₁ s₂ r₁ r₂ (inl p) (inl q) = tells_same 0 0 [] b s s₁ s₂ r₁ r₂ (p.1 ∙ sym q.1) p.2 q.2
one_reply b bytes s s₁ s₂ r₁ r₂ (inl p) (inr q) = absurd (p.0 (q.0, q.2))
one_reply b bytes s s₁ s₂ r₁ r₂ (inr p) (inl q) = absurd (q.0 (p.0, p.2))
one_reply b bytes s s₁ s₂ r₁ r₂ (inr p) (inr q) =
    replies_same q.0 q.1 s s₁ s₂ r₁ r₂ q.2.sound
    (rw (one_layout b p.0 q.0 p.2 q.2, one_record bytes p.1 q.1 p.3 q.3) at p.4) q.4
