-- Demand 3, second half: boards with equal size, clearance and items answer every record but an undo alike, however they came about.
-- Assumes nothing.
use Rattle.std.specs.Prelude.{ℕ, zero, suc, ◌≡◌, List, [], map, length, take}
use Rattle.std.proofs.Common.{arith, ap₂, subst, ◌∙◌, inl, inr}
use Rattle.std.proofs.Math.Path.{refl, sym, ap}
use Rattle.paper.specs.declared.Size.{Size}
use Rattle.paper.specs.declared.Board.{Board}
use Rattle.paper.specs.declared.Reply.{Reply}
use Rattle.paper.specs.declared.Record.{Record}
use Rattle.paper.specs.declared.Record.TheVariants.{Bounds, KeepOut, Lay, Ask, TakeOut, Undo, Malformed}
use Rattle.paper.specs.Grid.{Node}
use Rattle.paper.specs.Layout.{Thing, wire, grid_of, Turn, without, Layout, fresh}
use Rattle.paper.specs.Padding.{board_of, WellFormed}
use Rattle.paper.specs.Reading.{Reads}
use Rattle.paper.specs.Answer.{Check, Bars, Closes, BarsNode, verdict, source, target, way, checks, add_to, Outcome, quiet, told, Does, Tells, left, Replies, Fed}
use Rattle.paper.specs.History.{Call, FedAll, SameItems, Alike}
use Rattle.paper.proofs.Least.{one_in}
use Rattle.paper.specs.Laws.Back.{thing_of, layout_of, held}
use Rattle.paper.specs.Laws.Read.{one_record}
use Rattle.paper.specs.Laws.Checks.{one_verdict}
use Rattle.paper.proofs.Story.{history}

-- ---- replies that tell the same

same_items : (l₁ l₂ : Layout) → l₁.size ≡ l₂.size → l₁.items ≡ l₂.items → SameItems (board_of l₁) (board_of l₂)
unfolding board_of
same_items l₁ l₂ es ei = record { size = es; count = ap length ei; items = ap (λ ts. (board_of (record { size = l₁.size; items = ts; kept = [] })).items) ei }

tells_alike : (n d : ℕ) (ps : List Node) (b₁ b₂ : Board) (s s₁ s₂ : List ℕ) (r₁ r₂ : Reply) → verdict r₁ ≡ verdict r₂ → SameItems b₁ b₂
    → Tells n d ps b₁ s s₁ r₁ → Tells n d ps b₂ s s₂ r₂ → Alike s₁ s₂ r₁ r₂
tells_alike n d ps b₁ b₂ s s₁ s₂ r₁ r₂ c e p q = record {
  said = c;
  long = p.length_is ∙ sym q.length_is;
  away = p.detour_is ∙ sym q.detour_is;
  turned = p.corners_are ∙ sym q.corners_are;
  slice = p.slice_is ∙ sym q.slice_is;
  left = rw (p.board_is, q.board_is) e;
}

-- ---- one size, one list of items, two lists of kept changes

abbrev keeping : Size → List Thing → List Turn → Layout
keeping z ts k = record { size = z; items = ts; kept = k }

-- an outcome without the kept changes
abbrev plain : Outcome → Outcome
plain o = record { long = o.long; away = o.away; turned = o.turned; layout = keeping o.layout.size o.layout.items [] }

module _ (z : Size) (ts : List Thing) (k₁ k₂ : List Turn) where
  same_checks : (rec : Record) (n : ℕ) → ¬ (rec ≡ Undo) → ◌≡◌ {A = List Check} (checks (keeping z ts k₁) rec n) (checks (keeping z ts k₂) rec n)
  unfolding checks Bars Closes BarsNode
  same_checks Malformed n u = refl
  same_checks (Bounds b) n u = refl
  same_checks (KeepOut i r) n u = refl
  same_checks (Lay i p) n u = refl
  same_checks (Ask p) n u = refl
  same_checks (TakeOut i) n u = refl
  same_checks Undo n u = absurd (u refl)

  same_outcome : (rec : Record) (o o' : Outcome) → ¬ (rec ≡ Undo) → Does (keeping z ts k₁) rec o → Does (keeping z ts k₂) rec o' → plain o ≡ plain o'
  unfolding Does
  same_outcome Malformed o o' u p q = absurd p
  same_outcome (Bounds b) o o' u p q = ap plain p ∙ sym (ap plain q)
  same_outcome (KeepOut i r) o o' u p q = ap plain p ∙ sym (ap plain q)
  same_outcome (Lay i n) o o' u p q =
      ap plain p.2
      ∙ ap (λ w. plain (told n.pins w (add_to (keeping z ts k₁) (wire i.number (way n.pins w)))))
      (one_in n.mode (grid_of z ts) (source n.pins) (target n.pins) p.0 q.0 p.1 q.1)
      ∙ sym (ap plain q.2)
  same_outcome (Ask n) o o' u p q =
      ap plain p.2
      ∙ ap (λ w. plain (told n.pins w (keeping z ts k₁))) (one_in n.mode (grid_of z ts) (source n.pins) (target n.pins) p.0 q.0 p.1 q.1)
      ∙ sym (ap plain q.2)
  same_outcome (TakeOut i) o o' u p q =
      ap plain p.3 ∙ ap (λ j. quiet (keeping z (without j ts) [])) (p.2 ∙ sym q.2) ∙ sym (ap plain q.3)
  same_outcome Undo o o' u p q = absurd (u refl)

  alike_replies : (rec : Record) (s s₁ s₂ : List ℕ) (r₁ r₂ : Reply) → ¬ (rec ≡ Undo)
      → Replies (keeping z ts k₁) rec s s₁ r₁ → Replies (keeping z ts k₂) rec s s₂ r₂ → Alike s₁ s₂ r₁ r₂
  alike_replies rec s s₁ s₂ r₁ r₂ u p q = go r₁.code refl
    where
      v : verdict r₁ ≡ verdict r₂
      v = one_verdict (checks (keeping z ts k₂) rec (length s)) (verdict r₁) (verdict r₂) (rw (same_checks rec (length s) u) at p.code) q.code

      c : r₁.code ≡ r₂.code
      c = ap (λ v. v.code) v

      go : (k : ℕ) → r₁.code ≡ k → Alike s₁ s₂ r₁ r₂
      go zero e =
          let f = p.accepted e in
          let g = q.accepted (sym c ∙ e) in
          let o : plain f.0 ≡ plain g.0 = same_outcome rec f.0 g.0 u f.1 g.1 in
          tells_alike g.0.long g.0.away g.0.turned (board_of f.0.layout) (board_of g.0.layout) s s₁ s₂ r₁ r₂ v
          (same_items f.0.layout g.0.layout (ap (λ o. o.layout.size) o) (ap (λ o. o.layout.items) o))
          (subst (λ o. Tells o.long o.away o.turned (board_of f.0.layout) s s₁ r₁) o f.2) g.2
      go (suc k) e =
          tells_alike 0 0 [] (board_of (left (keeping z ts k₁))) (board_of (left (keeping z ts k₂))) s s₁ s₂ r₁ r₂ v
          (same_items (keeping z ts k₁) (keeping z ts k₂) refl refl) (p.refused (λ h. omega arith)) (q.refused (λ h. omega (arith, c)))

-- ---- any two well-formed boards

pub alike : (b₁ b₂ : Board) (bytes s s₁ s₂ : List ℕ) (r₁ r₂ : Reply) → WellFormed b₁ → WellFormed b₂ → SameItems b₁ b₂ → ¬ (Reads bytes Undo)
    → Fed b₁ bytes s s₁ r₁ → Fed b₂ bytes s s₂ r₂ → Alike s₁ s₂ r₁ r₂
unfolding Fed layout_of
alike b₁ b₂ bytes s s₁ s₂ r₁ r₂ w₁ w₂ e u (inl p) q = absurd (p.0 w₁)
alike b₁ b₂ bytes s s₁ s₂ r₁ r₂ w₁ w₂ e u (inr p) (inl q) = absurd (q.0 w₂)
alike b₁ b₂ bytes s s₁ s₂ r₁ r₂ w₁ w₂ e u (inr p) (inr q) =
    let l : Layout = p.0 in
    let m : Layout = q.0 in
    let rec : Record = q.1 in
    let g : l ≡ layout_of b₁ = held b₁ l p.2 in
    let h : m ≡ layout_of b₂ = held b₂ m q.2 in
    let es : l.size ≡ m.size = ap (λ k. k.size) g ∙ e.size ∙ sym (ap (λ k. k.size) h) in
    let ei : l.items ≡ m.items
    = ap (λ k. k.items) g ∙ ap₂ (λ n ms. map thing_of (take n ms)) e.count e.items ∙ sym (ap (λ k. k.items) h) in
    let f : l ≡ keeping m.size m.items l.kept = λ j. record { size = es j; items = ei j; kept = l.kept } in
    alike_replies m.size m.items l.kept m.kept rec s s₁ s₂ r₁ r₂ (λ k. u (subst (Reads bytes) k q.3))
    (subst (λ k. Replies k rec s s₁ r₁) f (subst (λ k. Replies l k s s₁ r₁) (one_record bytes p.1 rec p.3 q.3) p.4)) q.4

-- The demand's own words: two boards, each fed any list of records from a fresh one, with equal size, clearance and items.
pub answer_alike : (cs₁ cs₂ : List Call) (b₁ b₂ : Board) → FedAll (board_of fresh) cs₁ b₁ → FedAll (board_of fresh) cs₂ b₂ → SameItems b₁ b₂
    → (bytes s s₁ s₂ : List ℕ) (r₁ r₂ : Reply) → ¬ (Reads bytes Undo) → Fed b₁ bytes s s₁ r₁ → Fed b₂ bytes s s₂ r₂ → Alike s₁ s₂ r₁ r₂
answer_alike cs₁ cs₂ b₁ b₂ f₁ f₂ e bytes s s₁ s₂ r₁ r₂ u =
    alike b₁ b₂ bytes s s₁ s₂ r₁ r₂ (history cs₁ b₁ f₁).2 (history cs₂ b₂ f₂).2 e u
