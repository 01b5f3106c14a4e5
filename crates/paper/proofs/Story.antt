-- Demand 3, first half: whatever is fed to a fresh board, its items are those the history says.
-- The definitions and lemmas under it stand in specs/Laws/Story.
use Rattle.std.specs.Prelude.{ℕ, zero, suc, ◌≡◌, refl, length, take}
use Rattle.std.proofs.Common.{arith, sym, ap, ap₂, subst, ◌∙◌, inl, inr}
use mathlib.Core.List.{List, [], ◌∷◌, head-eq_of_cons-eq, tail-eq_of_cons-eq}
use Rattle.paper.specs.declared.Board.{Board}
use Rattle.paper.specs.declared.Record.{Record}
use Rattle.paper.specs.declared.Record.TheVariants.{Bounds, KeepOut, Lay, Ask, TakeOut, Undo, Malformed}
use Rattle.paper.specs.Limits.{most_kept}
use Rattle.paper.specs.Layout.{Thing, keep_out, wire, grid_of, Turn, add, undo, Layout, fresh, Sound}
use Rattle.paper.specs.Padding.{board_of, Holds, WellFormed}
use Rattle.paper.specs.Reading.{Reads}
use Rattle.paper.specs.Answer.{verdict, source, target, way, checks, changed, Outcome, Does, Accepted, Replies, Fed}
use Rattle.paper.specs.History.{Past, start, becomes, Passes, Call, FedAll, Moves, Story}
use Rattle.paper.proofs.Least.{one_in}
use Rattle.paper.specs.Laws.Back.{layout_of, held, one_layout}
use Rattle.paper.specs.Laws.Read.{one_record}
use Rattle.paper.proofs.Among.{without_add, add_without}
use Rattle.paper.specs.Laws.Checks.{Spared}
use Rattle.paper.specs.Laws.Next.{Spares, spares, laid}
use Rattle.paper.proofs.Kept.{sound_next}
use Rattle.paper.specs.Laws.Story.{past, pasts}

-- ---- the past of a layout

pasts_take : (n : ℕ) (ts : List Thing) (cs : List Turn) → pasts ts (take n cs) ≡ take n (pasts ts cs)
unfolding pasts
pasts_take zero ts cs = refl
pasts_take (suc n) ts [] = refl
pasts_take (suc n) ts (c ∷ cs) = ap (λ l. undo c ts ∷ l) (pasts_take n (undo c ts) cs)

-- a change that can be undone to what was is a change of the past
past_keep : (l : Layout) (ts : List Thing) (c : Turn) → undo c ts ≡ l.items → past (changed l ts c) ≡ becomes (past l) ts
unfolding pasts
past_keep l ts c e =
    let b : pasts ts (take most_kept (c ∷ l.kept)) ≡ take most_kept (l.items ∷ pasts l.items l.kept)
    = pasts_take most_kept ts (c ∷ l.kept) ∙ ap (λ us. take most_kept (us ∷ pasts us l.kept)) e in
    λ i. record { size = l.size; now = ts; before = b i }

-- what a record does to a layout it does to its past
pub passes : (l : Layout) (rec : Record) (n : ℕ) (o : Outcome) → Sound l → Spares l rec n → Does l rec o → Passes (past l) rec (past o.layout)
unfolding Does Passes Spared checks pasts
passes l Malformed n o z h d = d
passes l (Bounds b) n o z h d = rw d
passes l (KeepOut i r) n o z h d =
    rw d (past_keep l _ _ (unfold undo in without_add (keep_out i.number r) l.items (h 4)))
passes l (Lay i q) n o z h d =
    (d.0, d.1, rw d.2 (past_keep l _ _ (unfold undo in without_add (wire i.number (way q.pins d.0)) l.items (h 4))))
passes l (Ask q) n o z h d = rw d.2
passes l (TakeOut i) n o z h d =
    rw (d.3, ← d.2) (past_keep l _ _ (unfold undo in add_without d.0 l.items (laid l z (h 2)).fits.two.rising d.1))
passes l Undo n o z h d =
    (undo d.0 l.items, pasts (undo d.0 l.items) d.1, ap (λ ds. pasts l.items ds) d.2, rw d.3)

-- ---- the calls tell one story

one_past : (h : Past) (rec : Record) (h₁ h₂ : Past) → Passes h rec h₁ → Passes h rec h₂ → h₁ ≡ h₂
unfolding Passes
one_past h Malformed h₁ h₂ p q = absurd p
one_past h (Bounds b) h₁ h₂ p q = p ∙ sym q
one_past h (KeepOut i r) h₁ h₂ p q = p ∙ sym q
one_past h (Lay i n) h₁ h₂ p q =
    p.2 ∙ ap (λ w. becomes h (add (wire i.number (way n.pins w)) h.now))
    (one_in n.mode (grid_of h.size h.now) (source n.pins) (target n.pins) p.0 q.0 p.1 q.1) ∙ sym q.2
one_past h (Ask n) h₁ h₂ p q = p ∙ sym q
one_past h (TakeOut i) h₁ h₂ p q = p ∙ sym q
one_past h Undo h₁ h₂ p q =
    let e : p.0 ∷ p.1 ≡ q.0 ∷ q.1 = sym p.2 ∙ q.2 in
    p.3 ∙ ap₂ (λ ts bs. record { size = h.size; now = ts; before = bs }) (head-eq_of_cons-eq e) (tail-eq_of_cons-eq e) ∙ sym q.3

one_move : (h : Past) (c : Call) (h₁ h₂ : Past) → Moves h c h₁ → Moves h c h₂ → h₁ ≡ h₂
unfolding Moves
one_move h c h₁ h₂ p q = go c.reply.code refl
  where
    go : (k : ℕ) → c.reply.code ≡ k → h₁ ≡ h₂
    go zero e =
        let m = p.0 e in
        let n = q.0 e in
        one_past h n.0 h₁ h₂ (subst (λ r. Passes h r h₁) (one_record c.bytes m.0 n.0 m.1 n.1) m.2) n.2
    go (suc k) e = p.1 (λ z. omega arith) ∙ sym (q.1 (λ z. omega arith))

pub one_story : (h : Past) (cs : List Call) (h₁ h₂ : Past) → Story h cs h₁ → Story h cs h₂ → h₁ ≡ h₂
unfolding Story
one_story h [] h₁ h₂ p q = p ∙ sym q
one_story h (c ∷ cs) h₁ h₂ p q =
    one_story q.0 cs h₁ h₂ (subst (λ m. Story m cs h₁) (one_move h c p.0 q.0 p.1 q.1) p.2) q.2

-- ---- and it is the board's

moved : (b : Board) (c : Call) (l : Layout) → Holds b l → Fed b c.bytes c.lent c.after c.reply
    → (m : Layout) × Holds c.reply.board m × Moves (past l) c (past m)
unfolding Fed WellFormed Moves
moved b c l k (inl f) = absurd (f.0 (l, k))
moved b c l k (inr f) = go c.reply.code refl
  where
    rec : Record
    rec = f.1

    R : Replies l rec c.lent c.after c.reply
    R = subst (λ m. Replies m rec c.lent c.after c.reply) (one_layout b f.0 l f.2 k) f.4

    go : (n : ℕ) → c.reply.code ≡ n → (m : Layout) × Holds c.reply.board m
        × ((c.reply.code ≡ 0 → (rec : Record) × Reads c.bytes rec × Passes (past l) rec (past m)) × (¬ (c.reply.code ≡ 0) → past m ≡ past l))
    go zero e =
        let a : Accepted l rec c.lent c.after c.reply = R.accepted e in
        let g : Spares l rec (length c.lent) = spares l rec (length c.lent) (verdict c.reply) e R.code in (
          a.0.layout,
          record { sound = sound_next l c.bytes rec (length c.lent) a.0 k.sound f.3 g a.1; same = a.2.board_is },
          (
            λ z. (rec, f.3, passes l rec (length c.lent) a.0 k.sound g a.1),
            λ z. absurd (z e),
          ),
        )
    go (suc n) e = (l, record { sound = k.sound; same = (R.refused (λ z. omega arith)).board_is }, (λ z. absurd (omega arith), λ z. refl))

fed_story : (b b' : Board) (cs : List Call) (l : Layout) → Holds b l → FedAll b cs b' → (m : Layout) × Holds b' m × Story (past l) cs (past m)
unfolding FedAll Story
fed_story b b' [] l k f = (l, rw f k, refl)
fed_story b b' (c ∷ cs) l k f =
    let r = moved b c l k f.0 in
    let q = fed_story c.reply.board b' cs r.0 r.1 f.1 in
    (q.0, q.1, (past r.0, r.2, q.2))

-- Whatever is fed to a fresh board, one record after another: the records tell a story (one only, by `one_story`), the board is well
-- formed, and its size and its items are those of the story.
pub history : (cs : List Call) (b : Board) → FedAll (board_of fresh) cs b
    → (h : Past) × Story start cs h × WellFormed b × ((layout_of b).size ≡ h.size) × ((layout_of b).items ≡ h.now)
unfolding Sound WellFormed pasts
history cs b f =
    let r = fed_story (board_of fresh) b cs fresh (record { sound = inl refl; same = refl }) f in
    let e : layout_of b ≡ r.0 = sym (held b r.0 r.1) in
    (past r.0, r.2, (r.0, r.1), ap (λ l. l.size) e, ap (λ l. l.items) e)
