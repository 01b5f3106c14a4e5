-- A node in the midst of four cells of keep-outs, as the arrays and as the things have it.
-- Assumes nothing.
use Rattle.std.specs.Prelude.{ℕ, ◌+◌, ◌≤◌, ◌<◌, ◌≡◌, refl, List, length, T, Option, Some, None}
use Rattle.std.proofs.Common.{arith, sym, subst, ⊎_elim}
use Rattle.std.proofs.Math.Logic.{inl, inr}
use Rattle.paper.specs.Grid.{Node, E, N, step, Meets, Hits, Any, All, Blocked}
use Rattle.paper.specs.Layout.{Thing, keep_out, wire, Sort, Covers, Covered, round, Sealed}
use Rattle.paper.specs.Laws.Lists.{any_elim}
use Rattle.paper.specs.Laws.Standing.{thing_at}
use Rattle.blocks.specs.declared.Blocks.{Blocks}
use Rattle.blocks.specs.declared.Place.{Place}
use Rattle.blocks.specs.declared.Look.TheVariants.{KeepOuts}
use Rattle.blocks.specs.Flat.{Stops, Held}
use Rattle.seams.specs.Seaming.{HoldsOne, Sunk, RoundIs}
use Rattle.blocks.specs.Laws.Found.{FoundAmong, first_of, some_at, StopsAt, stops_thing, thing_stops}
use Rattle.seams.specs.Laws.Closing.{at_any, kept_blocks}

-- the place is the cell that has q for its high corner
abbrev CellOf : Place → Node → Type 0
CellOf s q = ((s.x0 + 1 ≡ q.x) × (s.x1 ≡ q.x)) × ((s.y0 + 1 ≡ q.y) × (s.y1 ≡ q.y))

covers_out : (c : ℕ) (to : Sort) (s : Place) (q : Node) (t : Thing) → CellOf s q → StopsAt c to KeepOuts s t → Covers t q
unfolding StopsAt Covers Blocked Any Hits Meets
covers_out c to s q (keep_out i r) e h = ⊎_elim (λ k. omega arith) (λ k. absurd k) (rw (kept_blocks c to i r) at h.1)
covers_out c to s q (wire i ps) e h = absurd (subst T (sym h.0) tt)

covers_in : (c : ℕ) (to : Sort) (s : Place) (q : Node) (t : Thing) → CellOf s q → Covers t q → StopsAt c to KeepOuts s t
unfolding StopsAt Covers Blocked Any Hits Meets
covers_in c to s q (keep_out i r) e h = (refl, rw (kept_blocks c to i r) (inl (omega arith)))
covers_in c to s q (wire i ps) e h = absurd h

-- a cell that is covered is there
covers_some : (t : Thing) (q : Node) → Covers t q → (1 ≤ q.x) × (1 ≤ q.y)
unfolding Covers
covers_some (keep_out i r) q h = (omega arith, omega arith)
covers_some (wire i ps) q h = absurd h

module _ {b : Blocks} {c : ℕ} {to : Sort} {ts : List Thing} (held : Held b c to ts) where
  cell_out : (s : Place) (q : Node) → CellOf s q → ((i : ℕ) × Stops b KeepOuts s i) → Covered ts q
  unfolding Covered
  cell_out s q e h =
      let u = stops_thing held KeepOuts s h.0 h.1 in
      at_any (λ t. Covers t q) ts h.0 u.0 (covers_out c to s q (thing_at ts h.0) e u.1)

  cell_in : (s : Place) (q : Node) → CellOf s q → Covered ts q → (i : ℕ) × Stops b KeepOuts s i
  unfolding Covered
  cell_in s q e h =
      let u = some_at (λ t. Covers t q) ts h in
      (u.0, thing_stops held KeepOuts s u.0 u.1 (covers_in c to s q (thing_at ts u.0) e u.2))

  module _ (x y : ℕ) where
    abbrev here : Node
    here = record { x = x; y = y }

    sunk_out : Sunk b x y → Sealed ts (round here)
    unfolding Sealed All step
    sunk_out h =
        let z = h.2 in (
          cell_out _ here (omega (arith, h.0, h.1)) z.0,
          (
            cell_out _ (step E here) (omega (arith, h.0, h.1)) z.1.0,
            (
              cell_out _ (step N here) (omega (arith, h.0, h.1)) z.1.1.0,
              (cell_out _ (step N (step E here)) (omega (arith, h.0, h.1)) z.1.1.1.0, tt),
            ),
          ),
        )

    sunk_in : Sealed ts (round here) → Sunk b x y
    unfolding Sealed All step Covered
    sunk_in h =
        let s = any_elim (λ t. Covers t here) (λ t k. covers_some t here k) ts h.0 in (
          s.0,
          s.1,
          (
            cell_in _ here (omega (arith, s.0, s.1)) h.0,
            (
              cell_in _ (step E here) (omega (arith, s.0, s.1)) h.1.0,
              (
                cell_in _ (step N here) (omega (arith, s.0, s.1)) h.1.1.0,
                (cell_in _ (step N (step E here)) (omega (arith, s.0, s.1)) h.1.1.1.0, tt),
              ),
            ),
          ),
        )

    -- a keep-out that holds one of the cells
    module _ (hx : 1 ≤ x) (hy : 1 ≤ y) (i : ℕ) where
      holds_out : HoldsOne b x y i → (i < length ts) × Any (Covers (thing_at ts i)) (round here)
      unfolding Any step
      holds_out (inl s) = let u = stops_thing held KeepOuts _ i s in (u.0, inl (covers_out c to _ here _ (omega arith) u.1))
      holds_out (inr (inl s)) = let u = stops_thing held KeepOuts _ i s in (u.0, inr (inl (covers_out c to _ (step E here) _ (omega arith) u.1)))
      holds_out (inr (inr (inl s))) = let u = stops_thing held KeepOuts _ i s in (u.0, inr (inr (inl (covers_out c to _ (step N here) _ (omega arith) u.1))))
      holds_out (inr (inr (inr (inl s)))) =
          let u = stops_thing held KeepOuts _ i s in (u.0, inr (inr (inr (inl (covers_out c to _ (step N (step E here)) _ (omega arith) u.1)))))
      holds_out (inr (inr (inr (inr s)))) = absurd s

      holds_in : i < length ts → Any (Covers (thing_at ts i)) (round here) → HoldsOne b x y i
      unfolding Any step
      holds_in l (inl h) = inl (thing_stops held KeepOuts _ i l (covers_in c to _ here _ (omega arith) h))
      holds_in l (inr (inl h)) = inr (inl (thing_stops held KeepOuts _ i l (covers_in c to _ (step E here) _ (omega arith) h)))
      holds_in l (inr (inr (inl h))) = inr (inr (inl (thing_stops held KeepOuts _ i l (covers_in c to _ (step N here) _ (omega arith) h))))
      holds_in l (inr (inr (inr (inl h)))) = inr (inr (inr (inl (thing_stops held KeepOuts _ i l (covers_in c to _ (step N (step E here)) _ (omega arith) h)))))
      holds_in l (inr (inr (inr (inr h)))) = absurd h

    -- it blocks the node: it holds one of the cells, and each lies in some keep-out
    abbrev pub Encloses : Thing → Type 0
    Encloses t = Sealed ts (round here) × Any (Covers t) (round here)

    -- the one that is found is the first that does
    pub round_found : (r : Option ℕ) → RoundIs b x y r → FoundAmong Encloses ts r
    unfolding RoundIs FoundAmong
    round_found (Some i) f =
        let hx = f.0.0 in
        let hy = f.0.1 in
        let u = holds_out hx hy i f.1 in
        first_of Encloses ts i u.0 (sunk_out f.0, u.1) (λ j l q. f.2 j l (holds_in hx hy j (omega (arith, u.0)) q.1))
    round_found None f = λ a. let s = some_at Encloses ts a in f (sunk_in s.2.0)
