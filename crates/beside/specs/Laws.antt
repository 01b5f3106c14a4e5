-- What follows from the definitions: nothing here has to be believed.
-- Assumes nothing.
use Rattle.std.specs.Prelude.{ℕ, zero, suc, ◌≡◌, refl, ◌⊎◌, Bool, List, [], ◌∷◌, get_or}
use Rattle.std.proofs.Common.{arith, sym, ap, subst, ◌∙◌, inl, inr}
use Rattle.paper.specs.declared.Board.{Board}
use Rattle.paper.specs.declared.Reply.{Reply}
use Rattle.paper.specs.declared.Refusal.{Refusal}
use Rattle.paper.specs.declared.Refusal.TheVariants.{IllFormed, OtherIndex}
use Rattle.paper.specs.Layout.{Layout, fresh, Sound}
use Rattle.paper.specs.Padding.{board_of, Holds, WellFormed}
use Rattle.paper.specs.declared.Record.{Record}
use Rattle.paper.specs.declared.Record.TheVariants.{Bounds, KeepOut, Lay, Ask, TakeOut, Undo, Malformed}
use Rattle.paper.specs.Answer.{plain, BeforeBounds, Outcome, Does, flat, Fed}
use Rattle.paper.specs.Laws.Back.{layout_of, held, one_layout, well_formed}
use Rattle.paper.specs.Laws.One.{tells_same}
use Rattle.paper.proofs.One.{one_reply}
use Rattle.paper.specs.Laws.Says.{Says, says_as}
use Rattle.paper.specs.Laws.Feeds.{refusing}
use Rattle.feed.specs.Feeding.{CaseIs}
use Rattle.feed.specs.Laws.Kinds.{kind_read, Case, of_kind}
use Rattle.feed.specs.Laws.Met.{refusal}
use Rattle.index.specs.declared.Index.{Index}
use Rattle.index.specs.declared.Crowding.{Crowding}
use Rattle.index.specs.Bits.{no_index}
use Rattle.crowding.specs.Crowding.{Built, IndexOf}
use Rattle.crowding.specs.Laws.One.{one_index, one_lines}
use Rattle.beside.specs.declared.Kept.{Kept}
use Rattle.beside.specs.Beside.{Agrees, AsItWas, FedBeside, Call, FedAll, Crowds}

-- ---- a board and its index

pub agrees_well : (b : Board) (i : Index) → Agrees b i → WellFormed b
unfolding Agrees WellFormed
agrees_well b i a = (a.0, a.1)

pub agrees_read : (b : Board) (i : Index) → Agrees b i → IndexOf (layout_of b) i
unfolding Agrees
agrees_read b i a = subst (λ l. IndexOf l i) (held b a.0 a.1) a.2

pub agrees_of : (b : Board) (i : Index) → WellFormed b → IndexOf (layout_of b) i → Agrees b i
unfolding Agrees
agrees_of b i w h = (layout_of b, well_formed b w, h)

-- there is one
pub one_agrees : (b : Board) (i j : Index) → Agrees b i → Agrees b j → i ≡ j
one_agrees b i j p q = one_index (layout_of b) i j (agrees_read b i p) (agrees_read b j q)

pub agrees_fresh : Agrees (board_of fresh) no_index
unfolding Agrees Sound IndexOf
agrees_fresh = (fresh, record { sound = inl refl; same = refl }, inl (refl, refl))

-- ---- one reply

as_it_was : {n : ℕ} {b : Board} {i : Index} {s s₁ s₂ : List ℕ} {r₁ r₂ : Kept} → AsItWas n b i s s₁ r₁ → AsItWas n b i s s₂ r₂
    → (r₁ ≡ r₂) × (s₁ ≡ s₂)
as_it_was {b = b} {s = s} {s₁ = s₁} {s₂ = s₂} {r₁ = r₁} {r₂ = r₂} p q =
    let e = tells_same 0 0 [] b s s₁ s₂ r₁.reply r₂.reply (p.0 ∙ sym q.0) p.1 q.1 in
    let f = p.2 ∙ sym q.2 in
    (λ k. record { reply = e.0 k; index = f k }, e.1)

pub one_beside : (b : Board) (i : Index) (bytes s s₁ s₂ : List ℕ) (r₁ r₂ : Kept) → FedBeside b i bytes s s₁ r₁ → FedBeside b i bytes s s₂ r₂
    → (r₁ ≡ r₂) × (s₁ ≡ s₂)
unfolding FedBeside
one_beside b i bytes s s₁ s₂ r₁ r₂ (inl p) (inl q) = as_it_was p.1 q.1
one_beside b i bytes s s₁ s₂ r₁ r₂ (inl p) (inr (inl q)) = absurd (p.0 q.0)
one_beside b i bytes s s₁ s₂ r₁ r₂ (inl p) (inr (inr q)) = absurd (p.0 (agrees_well b i q.0))
one_beside b i bytes s s₁ s₂ r₁ r₂ (inr (inl p)) (inl q) = absurd (q.0 p.0)
one_beside b i bytes s s₁ s₂ r₁ r₂ (inr (inl p)) (inr (inl q)) = as_it_was p.2 q.2
one_beside b i bytes s s₁ s₂ r₁ r₂ (inr (inl p)) (inr (inr q)) = absurd (p.1 q.0)
one_beside b i bytes s s₁ s₂ r₁ r₂ (inr (inr p)) (inl q) = absurd (q.0 (agrees_well b i p.0))
one_beside b i bytes s s₁ s₂ r₁ r₂ (inr (inr p)) (inr (inl q)) = absurd (q.1 p.0)
one_beside b i bytes s s₁ s₂ r₁ r₂ (inr (inr p)) (inr (inr q)) =
    let e = one_reply b bytes s s₁ s₂ r₁.reply r₂.reply p.1 q.1 in
    let f = one_agrees r₁.reply.board r₁.index r₂.index p.2 (subst (λ r. Agrees r.board r₂.index) (sym e.0) q.2) in
    (λ k. record { reply = e.0 k; index = f k }, e.1)

-- ---- a refusal changes nothing

pub refusal_keeps : (b : Board) (i : Index) (bytes s s' : List ℕ) (r : Kept) → FedBeside b i bytes s s' r → ¬ (r.reply.code ≡ 0)
    → (r.reply.board ≡ b) × (r.index ≡ i) × (s' ≡ s)
unfolding FedBeside flat
refusal_keeps b i bytes s s' r (inl p) n = (p.1.1.board_is, p.1.2, p.1.1.slice_is)
refusal_keeps b i bytes s s' r (inr (inl p)) n = (p.2.1.board_is, p.2.2, p.2.1.slice_is)
refusal_keeps b i bytes s s' r (inr (inr p)) n =
    let f = refusal b bytes s s' r.reply p.1 n in
    (f.1, one_agrees b r.index i (subst (λ c. Agrees c r.index) f.1 p.2) p.0, f.0)

-- ---- after any list of calls the index is that of the items

next : (b : Board) (i : Index) (bytes s s' : List ℕ) (r : Kept) → Agrees b i → FedBeside b i bytes s s' r → Agrees r.reply.board r.index
unfolding FedBeside
next b i bytes s s' r a (inl p) = absurd (p.0 (agrees_well b i a))
next b i bytes s s' r a (inr (inl p)) = absurd (p.1 a)
next b i bytes s s' r a (inr (inr p)) = p.2

pub kept_on : (b : Board) (i : Index) (cs : List Call) (b' : Board) (i' : Index) → Agrees b i → FedAll b i cs b' i' → Agrees b' i'
unfolding FedAll
kept_on b i [] b' i' a f = rw (f.0, f.1) a
kept_on b i (c ∷ cs) b' i' a f = kept_on c.kept.reply.board c.kept.index cs b' i' (next b i c.bytes c.lent c.after c.kept a f.0) f.1

pub kept_afresh : (cs : List Call) (b : Board) (i : Index) → FedAll (board_of fresh) no_index cs b i → Agrees b i
kept_afresh cs b i f = kept_on (board_of fresh) no_index cs b i agrees_fresh f

-- ---- for the proofs of this crate

-- a test against the index built afresh
pub agrees_says : (b : Board) (i j : Index) {t : Bool} → WellFormed b → IndexOf (layout_of b) j → Says t (i ≡ j) → Says t (Agrees b i)
agrees_says b i j w h =
    says_as (λ e. agrees_of b i w (subst (λ k. IndexOf (layout_of b) k) (sym e) h)) (λ a. one_index (layout_of b) i j (agrees_read b i a) h)

-- why a board and an index are refused before anything is asked of them
abbrev pub Unfit : Board → Index → Refusal → Type 0
Unfit b i why = ((¬ (WellFormed b)) × (why ≡ IllFormed)) ⊎ (WellFormed b × (¬ (Agrees b i)) × (why ≡ OtherIndex))

-- what `told` gives back
pub told_as : (k : ℕ) (b : Board) (i : Index) (s : List ℕ) → AsItWas k b i s s (record { reply = refusing (plain k) b; index = i })
unfolding flat
told_as k b i s = (refl, record { length_is = refl; detour_is = refl; corners_are = refl; board_is = refl; slice_is = refl }, refl)

-- after bounds
pub built_of : (l : Layout) (i : Index) → IndexOf l i → ¬ (BeforeBounds l) → Built l i
unfolding IndexOf
built_of l i (inl p) n = absurd (n p.0)
built_of l i (inr p) n = p.1

-- refused, or an ask
unfoldable pub LeavesItems : List ℕ → ℕ → Type 0
LeavesItems bytes code = (¬ (code ≡ 0)) ⊎ (get_or bytes 0 0 ≡ 4) ⊎ (get_or bytes 0 0 ≡ 8)

-- an accepted ask leaves the layout
ask_leaves : (l : Layout) (rec : Record) (o : Outcome) → CaseIs 3 rec → Does l rec o → o.layout ≡ l
unfolding CaseIs Does
ask_leaves l rec o (inl e) d = absurd (subst (λ r. Does l r o) e d)
ask_leaves l (Bounds s) o (inr k) d = absurd (omega (arith, k))
ask_leaves l (KeepOut i r) o (inr k) d = absurd (omega (arith, k))
ask_leaves l (Lay i q) o (inr k) d = absurd (omega (arith, k))
ask_leaves l (Ask q) o (inr k) d = ap (λ o. o.layout) d.2
ask_leaves l (TakeOut i) o (inr k) d = absurd (omega (arith, k))
ask_leaves l Undo o (inr k) d = absurd (omega (arith, k))
ask_leaves l Malformed o (inr k) d = absurd d

asks : (k : ℕ) → (k ≡ 4) ⊎ (k ≡ 8) → Case k 3
asks k (inl e) = inl (omega arith, e)
asks k (inr e) = inr (inl (e, refl))

pub leaves_same : (b : Board) (bytes s s' : List ℕ) (r : Reply) → Fed b bytes s s' r → LeavesItems bytes r.code → r.board ≡ b
unfolding LeavesItems Fed
leaves_same b bytes s s' r (inl p) h = p.2.board_is
leaves_same b bytes s s' r (inr p) (inl n) = (p.4.refused n).board_is ∙ sym p.2.same
leaves_same b bytes s s' r (inr p) (inr k) = go r.code refl
  where
    go : (n : ℕ) → r.code ≡ n → r.board ≡ b
    go zero e =
        let a = p.4.accepted e in
        a.2.board_is ∙ ap board_of (ask_leaves p.0 p.1 a.0 (of_kind p.1 _ 3 (kind_read bytes p.1 p.3) (asks _ k)) a.1) ∙ sym p.2.same
    go (suc n) e = (p.4.refused (λ z. omega arith)).board_is ∙ sym p.2.same

-- ---- one sheet

holds_well : (b : Board) (l : Layout) → Holds b l → WellFormed b
unfolding WellFormed
holds_well b l h = (l, h)

holds_agrees : (b : Board) (i : Index) (l : Layout) → Holds b l → IndexOf l i → Agrees b i
unfolding Agrees
holds_agrees b i l h x = (l, h, x)

pub one_crowding : (b : Board) (i : Index) (r s : Crowding) → Crowds b i r → Crowds b i s → r ≡ s
unfolding Crowds
one_crowding b i r s (inl p) (inl q) = p.1 ∙ sym q.1
one_crowding b i r s (inl p) (inr (inl q)) = absurd (p.0 q.0)
one_crowding b i r s (inl p) (inr (inr q)) = absurd (p.0 (holds_well b q.0 q.1))
one_crowding b i r s (inr (inl p)) (inl q) = absurd (q.0 p.0)
one_crowding b i r s (inr (inl p)) (inr (inl q)) = p.2 ∙ sym q.2
one_crowding b i r s (inr (inl p)) (inr (inr q)) = absurd (p.1 (holds_agrees b i q.0 q.1 q.2))
one_crowding b i r s (inr (inr p)) (inl q) = absurd (q.0 (holds_well b p.0 p.1))
one_crowding b i r s (inr (inr p)) (inr (inl q)) = absurd (q.1 (holds_agrees b i p.0 p.1 p.2))
one_crowding b i r s (inr (inr (l, h, x, inl p))) (inr (inr (m, k, y, inl q))) = p.1 ∙ sym q.1
one_crowding b i r s (inr (inr (l, h, x, inl p))) (inr (inr (m, k, y, inr q))) = absurd (q.0 (rw (one_layout b m l k h) p.0))
one_crowding b i r s (inr (inr (l, h, x, inr p))) (inr (inr (m, k, y, inl q))) = absurd (p.0 (rw (one_layout b l m h k) q.0))
one_crowding b i r s (inr (inr (l, h, x, inr p))) (inr (inr (m, k, y, inr q))) =
    one_lines l i r s p.1 (rw (one_layout b l m h k) q.1)
