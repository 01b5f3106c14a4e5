-- Wires: what the scans say of pins, what the router's answer says of the codes, and the replies that tell a wire.
-- Assumes nothing.
use Prim.Native.Nat.{ℕ, zero, suc, ◌-◌, ◌≤◌, ◌<◌}
use native.Mathlib.Omega.{arith}
use Rattle.std.specs.Prelude.{◌≡◌, refl, Bool, true, false, Option, Some, None, Result, Ok, Err}
use Rattle.std.proofs.Common.{sym, subst, ◌∙◌}
use Rattle.std.proofs.Math.Path.{ap}
use Rattle.std.proofs.Math.Logic.{inl, inr, ⊎_elim}
use mathlib.Core.List.{List, [], ◌∷◌, ◌++◌, map}
use Rattle.std.proofs.Math.ListN.{length}
use Rattle.paper.specs.declared.Pins.{Pins}
use Rattle.paper.specs.declared.Size.{Size}
use Rattle.paper.specs.declared.Verdict.{Verdict}
use Rattle.paper.specs.declared.Mode.{Mode}
use Rattle.paper.specs.declared.Question.{Question}
use Rattle.paper.specs.declared.Refusal.{Refusal}
use Rattle.paper.specs.declared.Refusal.TheVariants.{OffBoard, OneNode}
use Rattle.paper.specs.Codes.{code_of}
use Rattle.paper.specs.Limits.{most_corners}
use Rattle.paper.specs.Grid.{Node, Dir, Grid, Any, Pairs, Blocked, node, step, rank, grid_with}
use Rattle.paper.specs.Wire.{Legal, AnsweredIn, corners, turns, runs}
use Rattle.paper.specs.Layout.{Thing, id_of, Sort, keep_outs, wires, Below, blocks_to, block_count, grid_of, OnBoard, Layout, InRange}
use Rattle.paper.specs.Padding.{filled}
use Rattle.paper.specs.Answer.{named, plain, ◌if◌, Gives, source, target, BarsNode, Blocking, NoWire, TheWire, way, TooManyRuns, pin_checks}
use Rattle.paper.specs.Laws.Back.{length_runs}
use Rattle.paper.specs.Laws.Checks.{Coded, Clear, clear_of, of_clear, clear_join, gives_first, gives_then}
use Rattle.paper.specs.Laws.Drawn.{none_among}
use Rattle.paper.specs.Laws.Lists.{any_imp}
use Rattle.paper.specs.Laws.Smallest.{HasId, above}
use Rattle.paper.specs.Laws.Standing.{thing_at}
use Rattle.paper.proofs.Least.{one_in}
use Rattle.paper.specs.Laws.Least.{in_legal}
use Rattle.paper.proofs.Covering.{inside_barred}
use Rattle.paper.specs.Laws.Joins.{joined}
use Rattle.blocks.specs.declared.Blocks.{Blocks}
use Rattle.blocks.specs.Flat.{flat, Fits, HeldOf}
use Rattle.blocks.specs.Laws.Held.{held_fits, flat_held}
use Rattle.blocks.specs.Laws.Found.{FirstOf, FoundAmong, scan_sort}
use Rattle.seams.specs.Laws.Sunk.{round_found}
use Rattle.shapes.specs.Laws.Fits.{coded}
use Rattle.router.specs.declared.Wire.{Wire as RouterWire}
use Rattle.router.specs.declared.Untold.{Untold}
use Rattle.router.specs.declared.Untold.TheVariants.{NoWire as NoRoute, TooManyRuns as ManyRuns}
use Rattle.router.specs.Route.{Found, Written, Routes, AnswersIn, Asked}
use Rattle.router.specs.One.{routes_of}
use Rattle.router.specs.Cells.{answers_cells}
use Rattle.feed.specs.declared.Blame.{Blame}
use Rattle.feed.specs.declared.wires.Stop.{Stop}
use Rattle.feed.specs.declared.wires.Stop.TheVariants.{Alone, AtPin}
use Rattle.feed.specs.Feeding.{said_of, untold_of, FirstAt, StopsPin, one_checks, start_checks, StopsPins, Spelled, Told, Wires}

-- ---- the smallest id

module _ (P : Thing → Type 0) where
  -- the id of the first that was found is the smallest
  first_named : (ts : List Thing) (i : ℕ) → Pairs Below ts → FirstOf P ts i
      → (i < length ts) × HasId P ts (id_of (thing_at ts i)) × ((k : ℕ) → HasId P ts k → id_of (thing_at ts i) ≤ k)
  unfolding FirstOf Any Pairs
  first_named [] i r f = absurd f
  first_named (t ∷ ts) zero r f = (omega arith, inl (refl, f), λ k h. ⊎_elim (λ e. omega (arith, e.0)) (λ e. above P t ts k r.0 e) h)
  first_named (t ∷ ts) (suc i) r f =
      let m = first_named ts i r.1 f.1 in
      (omega (arith, m.0), inr m.1, λ k h. ⊎_elim (λ e. absurd (f.0 e.1)) (λ e. m.2 k e) h)

  none_named : (ts : List Thing) → ¬ (Any P ts) → (j : ℕ) → ¬ (HasId P ts j)
  none_named ts n j h = n (any_imp (λ t. (id_of t ≡ j) × P t) P (λ t x. x.1) ts h)

  some_named : (ts : List Thing) → ((j : ℕ) → ¬ (HasId P ts j)) → ¬ (Any P ts)
  unfolding Any
  some_named [] n a = a
  some_named (t ∷ ts) n (inl p) = n (id_of t) (inl (refl, p))
  some_named (t ∷ ts) n (inr a) = some_named ts (λ j h. n j (inr h)) a

-- what stops a pin, in the words of its checks
module _ (b : Blocks) (l : Layout) (held : HeldOf b wires l) (rising : Pairs Below l.items) (p : Node) where
  among : (of : Sort) (f : Option ℕ) → FirstAt b of p.x p.y f → FoundAmong (BarsNode l of p) l.items f
  unfolding FirstAt BarsNode
  among keep_outs f h = round_found held p.x p.y f h
  among wires f h = scan_sort l wires held _ wires f h

  none : (of : Sort) → FirstAt b of p.x p.y None → (j : ℕ) → ¬ (Blocking l of p j)
  unfolding FoundAmong
  none of h = none_named (BarsNode l of p) l.items (among of None h)

  first : (of : Sort) (i : ℕ) → FirstAt b of p.x p.y (Some i)
      → (i < length l.items) × Blocking l of p (id_of (thing_at l.items i)) × ((k : ℕ) → Blocking l of p k → id_of (thing_at l.items i) ≤ k)
  unfolding FoundAmong
  first of i h = first_named (BarsNode l of p) l.items i rising (among of (Some i) h)

  -- an item stops it, or nothing does
  barred : (pin : ℕ) (why : Refusal) (at i : ℕ) → StopsPin b p.x p.y pin (Err (AtPin why at i))
      → (at ≡ pin) × (i < length l.items) × Gives (one_checks l pin p) (named (code_of why) pin (id_of (thing_at l.items i)))
  unfolding StopsPin Gives
  barred pin why at i (e, inl h) =
      let f = first keep_outs i h.1 in
      (e, f.0, inl (id_of (thing_at l.items i), f.1, f.2, ap (λ c. named (code_of c) pin (id_of (thing_at l.items i))) h.0))
  barred pin why at i (e, inr h) =
      let f = first wires i h.2 in
      (e, f.0, inr (none keep_outs h.1, inl (id_of (thing_at l.items i), f.1, f.2, ap (λ c. named (code_of c) pin (id_of (thing_at l.items i))) h.0)))

  free : (pin : ℕ) → StopsPin b p.x p.y pin (Ok tt) → Clear (one_checks l pin p)
  unfolding StopsPin Clear
  free pin h = (none keep_outs h.0, (none wires h.1, tt))

-- what stops two pins
module _ (s : Size) (b : Blocks) (p : Pins) where
  sized : (l : Layout) → l.size ≡ s → OnBoard s (source p) × OnBoard s (target p) → OnBoard l.size (source p) × OnBoard l.size (target p)
  sized l e o = subst (λ s. OnBoard s (source p) × OnBoard s (target p)) (sym e) o

  pub stop_off : ¬ (OnBoard s (source p) × OnBoard s (target p)) → StopsPins s b p (Err (Alone OffBoard))
  unfolding StopsPins Gives
  stop_off n l z held rising = inl (λ o. n (subst (λ s. OnBoard s (source p) × OnBoard s (target p)) z o), refl)

  module _ (on : OnBoard s (source p) × OnBoard s (target p)) where
    pub stop_one : source p ≡ target p → StopsPins s b p (Err (Alone OneNode))
    unfolding StopsPins Gives
    stop_one q l z held rising = inr (sized l z on, inl (q, refl))

    module _ (two : ¬ (source p ≡ target p)) where
      -- after the first two checks
      on_two : (l : Layout) → l.size ≡ s → (v : Verdict) → Gives (one_checks l 1 (source p) ++ one_checks l 2 (target p)) v → Gives (start_checks l p) v
      unfolding Gives
      on_two l z v g = inr (sized l z on, inr (two, g))

      by_first : (f : Stop) → StopsPin b p.sx p.sy 1 (Err f) → StopsPins s b p (Err f)
      unfolding StopsPins StopsPin
      by_first (Alone why) h l z held rising = absurd h
      by_first (AtPin why at i) h l z held rising =
          let k = barred b l held rising (source p) 1 why at i h in (
            k.1,
            on_two l z _ (subst (λ j. Gives (one_checks l 1 (source p) ++ one_checks l 2 (target p)) (named (code_of why) j (id_of (thing_at l.items i)))) (sym k.0)
                (gives_first (one_checks l 1 (source p)) (one_checks l 2 (target p)) _ (λ c. omega (arith, c, coded why)) k.2)),
          )

      pub stop_first : (f : Stop) → StopsPin b p.sx p.sy 1 (Err f) → (r : Result (Unit {0}) Stop) → r ≡ Err f → StopsPins s b p r
      stop_first f h r e = subst (StopsPins s b p) (sym e) (by_first f h)

      pub stop_second : StopsPin b p.sx p.sy 1 (Ok tt) → (r : Result (Unit {0}) Stop) → StopsPin b p.tx p.ty 2 r → StopsPins s b p r
      unfolding StopsPins StopsPin
      stop_second g (Ok u) h l z held rising =
          on_two l z (plain 0)
          (of_clear _ (clear_join (one_checks l 1 (source p)) (one_checks l 2 (target p)) (free b l held rising (source p) 1 g) (free b l held rising (target p) 2 h)))
      stop_second g (Err (Alone why)) h l z held rising = absurd h
      stop_second g (Err (AtPin why at i)) h l z held rising =
          let k = barred b l held rising (target p) 2 why at i h in (
            k.1,
            on_two l z _ (subst (λ j. Gives (one_checks l 1 (source p) ++ one_checks l 2 (target p)) (named (code_of why) j (id_of (thing_at l.items i)))) (sym k.0)
                (gives_then (one_checks l 1 (source p)) (one_checks l 2 (target p)) _ (free b l held rising (source p) 1 g) k.2)),
          )

-- ---- before a wire is looked for

pub start_coded : (l : Layout) (p : Pins) → Coded (start_checks l p)
unfolding Coded
start_coded l p = omega arith

pub record Started (l : Layout) (p : Pins) : Type 0 where
  pub on : OnBoard l.size (source p) × OnBoard l.size (target p)
  pub two : ¬ (source p ≡ target p)
  pub clear : (¬ (Blocked (blocks_to l.size.clearance wires l.items) (node (source p)))) × (¬ (Blocked (blocks_to l.size.clearance wires l.items) (node (target p))))

-- no item blocks the node, of either sort
pub clear_node : (l : Layout) (p : Node) → ((j : ℕ) → ¬ (Blocking l keep_outs p j)) → ((j : ℕ) → ¬ (Blocking l wires p j))
    → ¬ (Blocked (blocks_to l.size.clearance wires l.items) (node p))
unfolding BarsNode
clear_node l p k w =
    none_among l (node p) l.items (λ a. some_named (BarsNode l keep_outs p) l.items k (inside_barred l p a)) (some_named (BarsNode l wires p) l.items w)

pub start_clear : (l : Layout) (p : Pins) (v : Verdict) → v.code ≡ 0 → Gives (start_checks l p) v → Clear (start_checks l p)
start_clear l p v z g = clear_of (start_checks l p) v z (start_coded l p) g

pub started : (l : Layout) (p : Pins) → Clear (start_checks l p) → Started l p
unfolding Clear
started l p c =
    record { on = c.0; two = c.1.0; clear = (clear_node l (source p) c.1.1.0 c.1.1.1.0, clear_node l (target p) c.1.1.1.1.0 c.1.1.1.1.1.0) }

pub wire_asks : (b : Blocks) (l : Layout) (p : Pins) → HeldOf b wires l → InRange l.size → Clear (start_checks l p)
    → Fits b × Asked l.size (flat b) p
wire_asks b l p held range g =
    let s = started l p g in
    (held_fits held, rw (flat_held held) (record { range = range; on = s.on; two = s.two; clear = s.clear }))

-- ---- what the router's answer says

pub refused_start : (l : Layout) (q : Question) (f : Blame) → Gives (start_checks l q.pins) (said_of f) → Wires l q (Err f)
unfolding Wires
refused_start l q f g = gives_first (start_checks l q.pins) _ (said_of f) (λ z. omega (arith, z, coded f.why)) g

module _ (l : Layout) (q : Question) (g : Clear (start_checks l q.pins)) where
  abbrev p : Pins
  p = q.pins

  abbrev m : Mode
  m = q.mode

  abbrev G : Grid
  G = grid_of l.size l.items

  after : (k : ℕ) → Gives ((12 if NoWire l p) ∷ (13 if TheWire l q (TooManyRuns p)) ∷ []) (plain k) → Gives (pin_checks l q) (plain k)
  after k h = gives_then (start_checks l p) _ (plain k) g h

  -- the wire that is told is the one that is written
  spelled : (u : RouterWire) (r : Routes m G (source p) (target p) (Ok u)) → TheWire l q (Spelled p u)
  unfolding Found Written
  spelled u r =
      let v = r.found.0 in
      let a : AnsweredIn m G (source p) (target p) v = r.found.1.0 in
      let e : r.turned ≡ way p v = r.written.2 ∙ ap (way p) (one_in m G (source p) (target p) r.written.0 v r.written.1 a) in (
        v,
        a,
        record {
          length_is = r.found.2;
          detour_is = r.found.3;
          corners_are = r.found.4;
          xs_are = r.xs_are ∙ ap (λ ps. filled 0 most_corners (map (λ q. q.x) ps)) e;
          ys_are = r.ys_are ∙ ap (λ ps. filled 0 most_corners (map (λ q. q.y) ps)) e;
        },
      )

  told_by : (u : RouterWire) (n : ℕ) → Routes m G (source p) (target p) (Ok u) → n ≡ block_count l.items → Told l q (record { wire = u; blocks = n })
  unfolding Found Gives
  told_by u n r e =
      let f = r.found in
      let few : ¬ (TheWire l q (TooManyRuns p))
      = λ t. omega (arith, f.1.1, t.2, ap (λ v. length (runs (way p v))) (one_in m G (source p) (target p) t.0 f.0 t.1 f.1.0)) in
      record {
        said = after 0 (inr (λ h. h f.0 (in_legal m G (source p) (target p) f.0 f.1.0), inr (few, refl)));
        blocks = e;
        wire = spelled u r;
      }

  untold_by : (u : Untold) → Routes m G (source p) (target p) (Err u) → Gives (pin_checks l q) (said_of (untold_of u))
  unfolding Found Gives
  untold_by NoRoute r = after 12 (inl (r.found, refl))
  untold_by (ManyRuns n) r =
      let f = r.found in after 13 (inr (λ h. h f.0 (in_legal m G (source p) (target p) f.0 f.1.0), inl ((f.0, f.1.0, f.1.1), refl)))

module _ (b : Blocks) (l : Layout) (q : Question) (held : HeldOf b wires l) (range : InRange l.size) (g : Clear (start_checks l q.pins)) where
  routes : (r : Result RouterWire Untold) → AnswersIn q.mode (grid_with l.size.w l.size.h (joined (flat b))) (source q.pins) (target q.pins) r
      → Routes q.mode (grid_of l.size l.items) (source q.pins) (target q.pins) r
  routes r a =
      let s : Node = source q.pins in
      let t : Node = target q.pins in
      let c : AnswersIn q.mode (grid_with l.size.w l.size.h (joined (blocks_to l.size.clearance wires l.items))) s t r = rw (flat_held held) at a in
      routes_of q.mode (grid_of l.size l.items) s t r (answers_cells q.mode l.size l.items s t r range.2.0 c)

  pub wires_told : (u : RouterWire) (n : ℕ) → AnswersIn q.mode (grid_with l.size.w l.size.h (joined (flat b))) (source q.pins) (target q.pins) (Ok u)
      → n ≡ block_count l.items → Wires l q (Ok (record { wire = u; blocks = n }))
  unfolding Wires
  wires_told u n a e = told_by l q g u n (routes (Ok u) a) e

  pub wires_untold : (u : Untold) → AnswersIn q.mode (grid_with l.size.w l.size.h (joined (flat b))) (source q.pins) (target q.pins) (Err u) → Wires l q (Err (untold_of u))
  unfolding Wires
  wires_untold u a = untold_by l q g u (routes (Err u) a)

-- ---- how many corners

turns_some : (d : Dir) (p : Node) (v : List Dir) → 1 ≤ length (turns d p v)
unfolding turns
turns_some d p [] = omega arith
turns_some d p (e ∷ v) = go (lib.Dec.eqb (rank d) (rank e)) (turns_some e (step e p) v)
  where
    go : (b : Bool) → 1 ≤ length (turns e (step e p) v) → 1 ≤ length {A = Node} (elim b [ true ↦ turns e (step e p) v | false ↦ p ∷ turns e (step e p) v ])
    go true h = h
    go false h = omega arith

pub two_corners : (G : Grid) (s t : Node) (v : List Dir) → Legal G s t v → ¬ (s ≡ t) → 2 ≤ length (corners s v)
unfolding Legal corners
two_corners G s t [] h n = absurd (n h)
two_corners G s t (d ∷ v) h n = omega (arith, turns_some d (step d s) v)

pub runs_corners : (ps : List Node) → 1 ≤ length ps → length (runs ps) ≡ length ps - 1
runs_corners [] h = absurd (omega arith)
runs_corners (p ∷ ps) h = omega (arith, length_runs p ps)
