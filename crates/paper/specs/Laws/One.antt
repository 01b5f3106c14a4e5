-- What the promise leaves open: nothing. One code, one outcome, one reply, refused or not.
-- Assumes nothing.
use Rattle.std.specs.Prelude.{ℕ, ◌≡◌}
use Rattle.std.proofs.Common.{arith, sym, ap, ◌∙◌, inl, inr}
use mathlib.Core.List.{List, [], ◌∷◌}
use Rattle.paper.specs.declared.Board.{Board}
use Rattle.paper.specs.declared.Reply.{Reply}
use Rattle.paper.specs.Grid.{Node, Any, Pairs}
use Rattle.paper.specs.Layout.{Thing, id_of, Below, Has, Layout, Sound}
use Rattle.paper.specs.Answer.{verdict, Tells}
use Rattle.paper.specs.Laws.Lists.{all_has}

-- ---- one outcome

pub sound_rising : (l : Layout) → Sound l → Pairs Below l.items
unfolding Sound Pairs
sound_rising l (inl e) = rw e tt
sound_rising l (inr p) = p.fits.two.rising

pub one_item : (ts : List Thing) (t u : Thing) → Pairs Below ts → Has ts t → Has ts u → id_of t ≡ id_of u → t ≡ u
unfolding Pairs Any
one_item [] t u r p q e = absurd p
one_item (v ∷ vs) t u r (inl p) (inl q) e = sym p ∙ q
one_item (v ∷ vs) t u r (inl p) (inr q) e = absurd (omega (arith, ap id_of p, all_has (Below v) vs u r.0 q))
one_item (v ∷ vs) t u r (inr p) (inl q) e = absurd (omega (arith, ap id_of q, all_has (Below v) vs t r.0 p))
one_item (v ∷ vs) t u r (inr p) (inr q) e = one_item vs t u r.1 p q e

-- ---- one reply

pub tells_same : (n d : ℕ) (ps : List Node) (b : Board) (s s₁ s₂ : List ℕ) (r₁ r₂ : Reply) → verdict r₁ ≡ verdict r₂
    → Tells n d ps b s s₁ r₁ → Tells n d ps b s s₂ r₂ → (r₁ ≡ r₂) × (s₁ ≡ s₂)
tells_same n d ps b s s₁ s₂ r₁ r₂ c p q =
    let long : r₁.length ≡ r₂.length = p.length_is ∙ sym q.length_is in
    let away : r₁.detour ≡ r₂.detour = p.detour_is ∙ sym q.detour_is in
    let turned : r₁.corners ≡ r₂.corners = p.corners_are ∙ sym q.corners_are in
    let left : r₁.board ≡ r₂.board = p.board_is ∙ sym q.board_is in
    (λ i. record { code = (c i).code; pin = (c i).place; id = (c i).id; length = long i; detour = away i; corners = turned i; board = left i }, p.slice_is ∙ sym q.slice_is)
