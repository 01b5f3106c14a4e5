-- Which replies name a pin and an item: those with 11 and 18, and no others.
-- The definitions and lemmas under it stand in specs/Laws/Blamed.
use Rattle.std.specs.Prelude.{ℕ, ◌≤◌, ◌≡◌, refl, ◌⊎◌, List, [], ◌∷◌, ◌++◌}
use Rattle.std.proofs.Common.{arith, sym, ap, subst, ◌∙◌, inl, inr, ⊎_elim}
use Rattle.paper.specs.declared.Board.{Board}
use Rattle.paper.specs.declared.Id.{Id}
use Rattle.paper.specs.declared.Question.{Question}
use Rattle.paper.specs.declared.Reply.{Reply}
use Rattle.paper.specs.declared.Verdict.{Verdict}
use Rattle.paper.specs.declared.Record.{Record}
use Rattle.paper.specs.declared.Record.TheVariants.{Bounds, KeepOut, Lay, Ask, TakeOut, Undo, Malformed}
use Rattle.paper.specs.Grid.{Node}
use Rattle.paper.specs.Layout.{wire, id_of, Sort, keep_outs, wires, Used, Layout}
use Rattle.paper.specs.Padding.{Holds}
use Rattle.paper.specs.Answer.{named, plain, Check, ◌if◌, Applies, Gives, BarsNode, Blocking, source, target, TheWire, way, TooManyBlocks, pin_checks, checks, verdict, Fed}
use Rattle.paper.specs.Laws.Lists.{any_imp}
use Rattle.paper.specs.Laws.Blamed.{Blamed, Blames, none, pin}

-- ---- what each check of a list gives, the list gives

unfoldable Each : (Verdict → Type 0) → List Check → Type 0
Each P [] = Unit {0}
Each P (c ∷ cs) = ((v : Verdict) → Applies c v → P v) × Each P cs

gives_each : (P : Verdict → Type 0) (cs : List Check) → P (plain 0) → Each P cs → (v : Verdict) → Gives cs v → P v
unfolding Each Gives
gives_each P [] z e v g = subst P (sym g) z
gives_each P (c ∷ cs) z e v (inl a) = e.0 v a
gives_each P (c ∷ cs) z e v (inr g) = gives_each P cs z e.1 v g.1

each_join : (P : Verdict → Type 0) (cs ds : List Check) → Each P cs → Each P ds → Each P (cs ++ ds)
unfolding Each
each_join P [] ds h k = k
each_join P (c ∷ cs) ds h k = (h.0, each_join P cs ds h.1 k)

-- ---- one check

low : (n : ℕ) → n ≤ 10 → ¬ (Blames n)
low n h b = ⊎_elim (λ e. omega arith) (λ e. omega arith) b

high : (n : ℕ) → 12 ≤ n → n ≤ 17 → ¬ (Blames n)
high n g h b = ⊎_elim (λ e. omega arith) (λ e. omega arith) b

module _ (l : Layout) where
  quiet : (n : ℕ) → ¬ (Blames n) → (v : Verdict) → v ≡ plain n → Blamed l.items v
  quiet n b v e =
      let c : v.code ≡ n = ap (λ v. v.code) e in
      none (subst (λ c. ¬ (Blames c)) (sym c) b) (e ∙ ap plain (sym c))

  blocking_used : (of : Sort) (p : Node) (i : ℕ) → Blocking l of p i → Used l.items i
  blocking_used of p i b = any_imp (λ t. (id_of t ≡ i) × BarsNode l of p t) (λ t. id_of t ≡ i) (λ t h. h.0) l.items b

  plainly : (n : ℕ) → ¬ (Blames n) → {A : Type 0} (v : Verdict) → A × (v ≡ plain n) → Blamed l.items v
  plainly n b v a = quiet n b v a.1

  naming : (n i : ℕ) → Blames n → (i ≡ 1) ⊎ (i ≡ 2) → (of : Sort) (p : Node) (v : Verdict)
      → (j : ℕ) × Blocking l of p j × ((k : ℕ) → Blocking l of p k → j ≤ k) × (v ≡ named n i j) → Blamed l.items v
  naming n i b h of p v a = subst (Blamed l.items) (sym a.3) (pin b h (blocking_used of p a.0 a.1))

  -- ---- every list

  pins : (q : Question) → Each (Blamed l.items) (pin_checks l q)
  unfolding Each
  pins q = (
    plainly 9 (low 9 (omega arith)),
    (
      plainly 10 (low 10 (omega arith)),
      (
        naming 11 1 (inl refl) (inl refl) keep_outs (source q.pins),
        (
          naming 18 1 (inr refl) (inl refl) wires (source q.pins),
          (
            naming 11 2 (inl refl) (inr refl) keep_outs (target q.pins),
            (
              naming 18 2 (inr refl) (inr refl) wires (target q.pins),
              (plainly 12 (high 12 (omega arith) (omega arith)), (plainly 13 (high 13 (omega arith) (omega arith)), tt)),
            ),
          ),
        ),
      ),
    ),
  )

  abbrev room : Id → Question → List Check
  room i q = (14 if TheWire l q (λ w. TooManyBlocks l (wire i.number (way q.pins w)))) ∷ []

  last : (i : Id) (q : Question) → Each (Blamed l.items) (room i q)
  unfolding Each
  last i q = (plainly 14 (high 14 (omega arith) (omega arith)), tt)

  each : (rec : Record) (n : ℕ) → Each (Blamed l.items) (checks l rec n)
  unfolding Each checks
  each Malformed n = (plainly 1 (low 1 (omega arith)), tt)
  each (Bounds s) n = (plainly 3 (low 3 (omega arith)), tt)
  each (KeepOut i r) n = (
    plainly 2 (low 2 (omega arith)),
    (
      plainly 4 (low 4 (omega arith)),
      (
        plainly 6 (low 6 (omega arith)),
        (plainly 7 (low 7 (omega arith)), (plainly 8 (low 8 (omega arith)), (plainly 14 (high 14 (omega arith) (omega arith)), tt))),
      ),
    ),
  )
  each (Lay i q) n = (
    plainly 2 (low 2 (omega arith)),
    (
      plainly 16 (high 16 (omega arith) (omega arith)),
      (plainly 4 (low 4 (omega arith)), each_join (Blamed l.items) (pin_checks l q) (room i q) (pins q) (last i q)),
    ),
  )
  each (Ask q) n = (plainly 2 (low 2 (omega arith)), (plainly 16 (high 16 (omega arith) (omega arith)), pins q))
  each (TakeOut i) n = (plainly 2 (low 2 (omega arith)), (plainly 5 (low 5 (omega arith)), tt))
  each Undo n = (plainly 2 (low 2 (omega arith)), (plainly 15 (high 15 (omega arith) (omega arith)), tt))

  pub said_blamed : (rec : Record) (n : ℕ) (v : Verdict) → Gives (checks l rec n) v → Blamed l.items v
  said_blamed rec n v g = gives_each (Blamed l.items) (checks l rec n) (quiet 0 (low 0 (omega arith)) (plain 0) refl) (each rec n) v g

-- a pin and an item are named exactly with 11 and 18, and the item is one of the board's
pub pin_told : (b : Board) (bytes s s' : List ℕ) (r : Reply) → Fed b bytes s s' r
    → (verdict r ≡ plain 17) ⊎ ((l : Layout) × Holds b l × Blamed l.items (verdict r))
unfolding Fed
pin_told b bytes s s' r (inl f) = inl f.1
pin_told b bytes s s' r (inr f) = inr (f.0, f.2, said_blamed f.0 f.1 _ (verdict r) f.4.code)
