-- What a line shows: corners of an accepted lay or ask and of nothing else, a pin and an item with 11 and 18 alone, and code 1 of a piece that is
-- not 12 bytes.
-- Assumes nothing.
use Rattle.std.specs.Prelude.{ℕ, zero, suc, ◌≤◌, ◌≡◌, refl, ◌⊎◌, List, [], ◌∷◌, length}
use Rattle.std.proofs.Common.{arith, ap, subst, inl, inr, ⊎_elim}
use Rattle.paper.specs.declared.Board.{Board}
use Rattle.paper.specs.declared.Reply.{Reply}
use Rattle.paper.specs.declared.Verdict.{Verdict}
use Rattle.paper.specs.declared.Record.{Record}
use Rattle.paper.specs.declared.Record.TheVariants.{Bounds, KeepOut, Lay, Ask, TakeOut, Undo, Malformed}
use Rattle.paper.specs.Grid.{Node, Dir}
use Rattle.paper.specs.Wire.{corners}
use Rattle.paper.specs.Layout.{Thing, Layout}
use Rattle.paper.specs.Padding.{WellFormed}
use Rattle.paper.specs.Reading.{Reads}
use Rattle.paper.specs.Answer.{Gives, verdict, checks, Outcome, Does, Replies, Fed}
use Rattle.paper.specs.Laws.Blamed.{Blames, Blamed, none, pin}
use Rattle.paper.proofs.Blamed.{pin_told}
use Rattle.paper.specs.Laws.Read.{one_record}
use Rattle.text.specs.Text.{number, byte}
use Rattle.sheet.specs.Sheet.{space, blame_in}
use Rattle.sheet.specs.Laws.Lines.{blame_told}

-- the record is a lay or an ask
unfoldable pub AsksWire : Record → Type 0
AsksWire (Bounds s) = ⊥
AsksWire (KeepOut i r) = ⊥
AsksWire (Lay i p) = Unit {0}
AsksWire (Ask p) = Unit {0}
AsksWire (TakeOut i) = ⊥
AsksWire Undo = ⊥
AsksWire Malformed = ⊥

some_corner : (s : Node) (w : List Dir) → 1 ≤ length (corners s w)
unfolding corners
some_corner s [] = omega arith
some_corner s (d ∷ w) = omega arith

-- the corners of an accepted record
TurnsIff : Record → Outcome → Type 0
TurnsIff rec o = (1 ≤ length o.turned → AsksWire rec) × (AsksWire rec → 1 ≤ length o.turned)

quiet_turns : (rec : Record) (o : Outcome) → ¬ (AsksWire rec) → o.turned ≡ [] → TurnsIff rec o
unfolding TurnsIff
quiet_turns rec o n e = (λ h. absurd (omega (arith, ap length e)), λ a. absurd (n a))

told_turns : (rec : Record) (o : Outcome) (s : Node) (w : List Dir) → AsksWire rec → o.turned ≡ corners s w → TurnsIff rec o
unfolding TurnsIff
told_turns rec o s w a e = (λ h. a, λ b. omega (arith, ap length e, some_corner s w))

does_turns : (l : Layout) (rec : Record) (o : Outcome) → Does l rec o → TurnsIff rec o
unfolding Does AsksWire
does_turns l (Bounds s) o d = quiet_turns (Bounds s) o (λ a. a) (ap (λ x. x.turned) d)
does_turns l (KeepOut i r) o d = quiet_turns (KeepOut i r) o (λ a. a) (ap (λ x. x.turned) d)
does_turns l (Lay i p) o d = told_turns (Lay i p) o _ d.0 tt (ap (λ x. x.turned) d.2)
does_turns l (Ask p) o d = told_turns (Ask p) o _ d.0 tt (ap (λ x. x.turned) d.2)
does_turns l (TakeOut i) o d = quiet_turns (TakeOut i) o (λ a. a) (ap (λ x. x.turned) d.3)
does_turns l Undo o d = quiet_turns Undo o (λ a. a) (ap (λ x. x.turned) d.3)
does_turns l Malformed o d = absurd d

replies_turns : (l : Layout) (rec : Record) (s s' : List ℕ) (r : Reply) → Replies l rec s s' r
    → (1 ≤ r.corners → (r.code ≡ 0) × AsksWire rec) × (r.code ≡ 0 → AsksWire rec → 1 ≤ r.corners)
unfolding TurnsIff
replies_turns l rec s s' r f = go r.code refl
  where
    go : (k : ℕ) → r.code ≡ k → (1 ≤ r.corners → (r.code ≡ 0) × AsksWire rec) × (r.code ≡ 0 → AsksWire rec → 1 ≤ r.corners)
    go zero e =
        let a = f.accepted e in
        let t = does_turns l rec a.0 a.1 in (
          λ h. (e, t.0 (omega (arith, a.2.corners_are))),
          λ z w. omega (arith, t.1 w, a.2.corners_are),
        )
    go (suc k) e =
        let a = f.refused (λ z. omega arith) in
        let none : r.corners ≡ 0 = a.corners_are in
        (λ h. absurd (omega arith), λ z. absurd (omega arith))

pub corners_told : (b : Board) (bytes s s' : List ℕ) (rec : Record) (r : Reply) → Reads bytes rec → Fed b bytes s s' r
    → (1 ≤ r.corners → (r.code ≡ 0) × AsksWire rec) × (r.code ≡ 0 → AsksWire rec → 1 ≤ r.corners)
unfolding Fed
corners_told b bytes s s' rec r q (inl f) =
    let none : r.corners ≡ 0 = f.2.corners_are in
    (λ h. absurd (omega arith), λ z. absurd (omega (arith, ap (λ v. v.code) f.1)))
corners_told b bytes s s' rec r q (inr f) =
    replies_turns f.0 rec s s' r (subst (λ x. Replies f.0 x s s' r) (one_record bytes f.1 rec f.3 q) f.4)

-- ---- a pin and an item stand on the line exactly with 11 and 18

pub blame_shown : (b : Board) (bytes s s' : List ℕ) (r : Reply) → Fed b bytes s s' r
    → ((¬ (Blames r.code)) × (blame_in r.pin r.id ≡ []))
    ⊎ (Blames r.code × (blame_in r.pin r.id ≡ byte space ∷ number r.pin ∷ byte space ∷ number r.id ∷ []))
unfolding blame_in
blame_shown b bytes s s' r f =
    ⊎_elim
    (λ e. inl (λ h. ⊎_elim (λ k. omega (arith, k, ap (λ v. v.code) e)) (λ k. omega (arith, k, ap (λ v. v.code) e)) h, ap (λ v. blame_in v.place v.id) e))
    (λ h. shown h.2) (pin_told b bytes s s' r f)
  where
    shown : {ts : List Thing} → Blamed ts (verdict r)
        → ((¬ (Blames r.code)) × (blame_in r.pin r.id ≡ []))
        ⊎ (Blames r.code × (blame_in r.pin r.id ≡ byte space ∷ number r.pin ∷ byte space ∷ number r.id ∷ []))
    shown (none n e) = inl (n, ap (λ v. blame_in v.place v.id) e)
    shown (pin k h u) = inr (k, blame_told r.pin r.id (λ z. ⊎_elim (λ e. omega (arith, e, z)) (λ e. omega (arith, e, z)) h))

-- ---- a piece that is not 12 bytes

malformed : (l : Layout) (n : ℕ) (v : Verdict) → Gives (checks l Malformed n) v → v.code ≡ 1
unfolding Gives checks
malformed l n v (inl g) = ap (λ v. v.code) g.1
malformed l n v (inr g) = absurd (g.0 tt)

pub short_code : (b : Board) (bytes s s' : List ℕ) (r : Reply) → WellFormed b → ¬ (length bytes ≡ 12) → Fed b bytes s s' r → r.code ≡ 1
unfolding Fed Reads
short_code b bytes s s' r w n (inl f) = absurd (f.0 w)
short_code b bytes s s' r w n (inr f) =
    ⊎_elim (λ p. absurd (n p.twelve))
    (λ e. malformed f.0 (length s) (verdict r) (subst (λ x. Gives (checks f.0 x (length s)) (verdict r)) e.0 f.4.code)) f.3
