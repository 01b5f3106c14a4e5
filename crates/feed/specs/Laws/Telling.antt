-- The replies to a lay and an ask: refused before, at or after the pins, or the wire told.
-- Assumes nothing.
use Rattle.std.specs.Prelude.{ℕ, ◌+◌, ◌-◌, ◌≤◌, ◌<◌, ◌≡◌, List, [], ◌∷◌, ◌++◌, map, take, replicate, Result, Ok, Err}
use Rattle.std.proofs.Common.{arith, sym, ◌∙◌, inl, inr, length-append}
use Rattle.std.proofs.Math.Path.{refl, ap, subst, subst₂}
use Rattle.std.proofs.Math.ListN.{length}
use Rattle.std.proofs.lemmas.List.{length-map, length-replicate}
use Rattle.paper.specs.declared.Id.{Id}
use Rattle.paper.specs.declared.Question.{Question}
use Rattle.paper.specs.declared.Board.{Board}
use Rattle.paper.specs.declared.Reply.{Reply}
use Rattle.paper.specs.declared.Verdict.{Verdict}
use Rattle.paper.specs.declared.Record.TheVariants.{Lay, Ask}
use Rattle.paper.specs.declared.Refusal.{Refusal}
use Rattle.paper.specs.declared.Refusal.TheVariants.{IdInUse}
use Rattle.paper.specs.Codes.{code_of}
use Rattle.router.specs.declared.Untold.{Untold}
use Rattle.router.specs.declared.Untold.TheVariants as untold
use Rattle.router.specs.Route as route
use Rattle.paper.specs.Limits.{most_runs, most_corners, least_slice}
use Rattle.paper.specs.Grid.{Node, Dir}
use Rattle.paper.specs.Wire.{AnsweredIn, runs}
use Rattle.paper.specs.Layout.{wire, areas, block_count, grid_of, Used, Layout}
use Rattle.paper.specs.Padding.{filled, item_of, board_of, WellFormed}
use Rattle.paper.specs.Answer.{plain, Check, ◌if◌, Gives, source, target, BeforeBounds, TheWire, way, TooManyRuns, TooManyBlocks, checks, pin_checks, add_to, told, Does, written, Tells, Replies}
use Rattle.paper.specs.Laws.Back.{nodes, thing_of, layout_of, well_formed, ReadsBack, wire_back}
use Rattle.paper.specs.Laws.Checks.{Coded, Clear, clear_of, gives_first, gives_then}
use Rattle.paper.specs.Laws.Feeds.{refusing}
use Rattle.paper.proofs.Least.{one_in}
use Rattle.paper.specs.Laws.Least.{in_legal}
use Rattle.paper.specs.Laws.Standing.{well_standing}
use Rattle.items.specs.Items.{Whole}
use Rattle.feed.specs.declared.Wired.{Wired}
use Rattle.feed.specs.declared.Blame.{Blame}
use Rattle.feed.specs.Feeding.{lent_checks, said_of, about_none, untold_of, Spelled, Told, Wires, AskGets, LayGets, wired_reply, wire_item, Laying, Lays}
use Rattle.feed.specs.Laws.Replying.{refused, accepted, laid_now, items_few_now}
use Rattle.feed.specs.Laws.Wiring.{two_corners, runs_corners}
use Rattle.feed.specs.Laws.Slices.{nodes_are}
use Rattle.shapes.specs.Laws.Fits.{coded}

-- ---- the reasons that the router gives

-- each is told by the number that the router's promise has for it
pub untold_code : (u : Untold) → (said_of (untold_of u)).code ≡ route.code_of (Err u)
untold_code untold.NoWire = refl
untold_code (untold.TooManyRuns n) = refl

-- ---- what code 0 says

lent_clear : (l : Layout) (n : ℕ) → Gives (lent_checks l n) (plain 0) → Clear (lent_checks l n)
unfolding Coded
lent_clear l n g = clear_of (lent_checks l n) (plain 0) refl (omega arith) g

pins_clear : (l : Layout) (q : Question) → Gives (pin_checks l q) (plain 0) → Clear (pin_checks l q)
unfolding Coded
pins_clear l q g = clear_of (pin_checks l q) (plain 0) refl (omega arith) g

pub lent_ok : (l : Layout) (n : ℕ) → Gives (lent_checks l n) (plain 0) → (¬ (BeforeBounds l)) × (least_slice ≤ n)
unfolding Clear
lent_ok l n g = let c = lent_clear l n g in let h : ¬ (n < least_slice) = c.1.0 in (c.0, omega arith)

-- the board has bounds
pub bounded : (b : Board) (n : ℕ) → Gives (lent_checks (layout_of b) n) (plain 0) → 1 ≤ b.size.w
unfolding layout_of
bounded b n g = let h : ¬ (BeforeBounds (layout_of b)) = (lent_ok (layout_of b) n g).0 in omega arith

pub pins_ok : (l : Layout) (q : Question) → Gives (pin_checks l q) (plain 0) → (¬ (source q.pins ≡ target q.pins)) × (¬ (TheWire l q (TooManyRuns q.pins)))
unfolding Clear
pins_ok l q g = let c = pins_clear l q g in (c.1.0, c.1.1.1.1.1.1.1.0)

-- ---- the wire that is told

module _ (l : Layout) (q : Question) (w : Wired) (h : Told l q w) where
  abbrev v : List Dir
  v = h.wire.0

  abbrev answered : AnsweredIn q.mode (grid_of l.size l.items) (source q.pins) (target q.pins) v
  answered = h.wire.1

  abbrev spelled : Spelled q.pins w.wire v
  spelled = h.wire.2

  pub corners_two : 2 ≤ w.wire.corners
  corners_two = omega (arith, spelled.corners_are, two_corners _ (source q.pins) (target q.pins) v (in_legal q.mode (grid_of l.size l.items) (source q.pins) (target q.pins) v answered) (pins_ok l q h.said).0)

  pub corners_few : w.wire.corners ≤ most_corners
  corners_few =
      let few : ¬ (most_runs < length (runs (way q.pins v))) = λ m. (pins_ok l q h.said).1 (v, answered, m) in
      let n : length (way q.pins v) ≡ w.wire.corners = sym spelled.corners_are in
      omega (arith, corners_two, runs_corners (way q.pins v) (omega (arith, corners_two)))

  pub corners_are : take w.wire.corners (nodes w.wire.xs w.wire.ys) ≡ way q.pins v
  corners_are = nodes_are (way q.pins v) w.wire.xs w.wire.ys (most_corners - length (map (λ q. q.x) (way q.pins v))) (most_corners - length (map (λ q. q.y) (way q.pins v))) w.wire.corners spelled.xs_are spelled.ys_are spelled.corners_are

  long : (f : Node → ℕ) → length (filled 0 most_corners (map f (way q.pins v))) ≡ most_corners
  long f =
      omega (
        arith,
        corners_few,
        spelled.corners_are,
        length-map (way q.pins v) f,
        length-append (map f (way q.pins v)) (replicate (most_corners - length (map f (way q.pins v))) 0),
        length-replicate {A = ℕ} (most_corners - length (map f (way q.pins v))) 0,
      )

  pub arrays_long : (length w.wire.xs ≡ most_corners) × (length w.wire.ys ≡ most_corners)
  arrays_long = (ap length spelled.xs_are ∙ long (λ q. q.x), ap length spelled.ys_are ∙ long (λ q. q.y))

  -- what one wire has, the wire has
  one : (P : List Dir → Type 0) → TheWire l q P → P v
  one P t = subst P (one_in q.mode (grid_of l.size l.items) (source q.pins) (target q.pins) t.0 v t.1 answered) t.2

  -- ---- as an item

  item_is : (i : ℕ) → wire_item i w.wire ≡ item_of (wire i (way q.pins v))
  unfolding item_of
  item_is i =
      let n : w.wire.corners - 1 ≡ length (way q.pins v) - 1 = ap (λ k. k - 1) spelled.corners_are in
      let x = spelled.xs_are in
      let y = spelled.ys_are in
      λ j. record { id = i; runs = n j; xs = x j; ys = y j }

  reads : (i : ℕ) (ps : List Node) → 2 ≤ length ps → ReadsBack (wire i ps)
  reads i [] h = absurd (omega arith)
  reads i (q ∷ []) h = absurd (omega arith)
  reads i (q ∷ r ∷ ps) h = wire_back i q r ps

  reads_way : (i : ℕ) → ReadsBack (wire i (way q.pins v))
  reads_way i = reads i (way q.pins v) (omega (arith, corners_two, spelled.corners_are))

  pub thing_is : (i : ℕ) → thing_of (wire_item i w.wire) ≡ wire i (way q.pins v)
  thing_is i = ap thing_of (item_is i) ∙ reads_way i

  pub whole : (i : ℕ) → Whole (wire_item i w.wire)
  whole i = item_is i ∙ ap item_of (sym (thing_is i))

  blocks_are : (i : ℕ) → block_count (wire i (way q.pins v) ∷ l.items) ≡ w.blocks + (w.wire.corners - 1)
  unfolding block_count areas
  blocks_are i = omega (arith, h.blocks, runs_corners (way q.pins v) (omega (arith, corners_two, spelled.corners_are)), spelled.corners_are)

-- ---- replies

module _ (b : Board) (wf : WellFormed b) (q : Question) where
  abbrev l : Layout
  l = layout_of b

  -- ---- an ask

  ask_gives : (n : ℕ) (v : Verdict) → Gives (lent_checks (layout_of b) n) (plain 0) → Gives (pin_checks (layout_of b) q) v → Gives (checks (layout_of b) (Ask q) n) v
  unfolding checks
  ask_gives n v g h = gives_then (lent_checks (layout_of b) n) (pin_checks (layout_of b) q) v (lent_clear (layout_of b) n g) h

  pub ask_short : (n : ℕ) (why : Refusal) → Gives (lent_checks (layout_of b) n) (plain (code_of why)) → (r : Result Wired Blame) → r ≡ Err (about_none why)
      → AskGets (layout_of b) q n r
  unfolding AskGets checks
  ask_short n why g r e = rw e (gives_first (lent_checks (layout_of b) n) (pin_checks (layout_of b) q) (plain (code_of why)) (λ z. omega (arith, z, coded why)) g)

  pub ask_wires : (n : ℕ) (r : Result Wired Blame) → Gives (lent_checks (layout_of b) n) (plain 0) → Wires (layout_of b) q r → AskGets (layout_of b) q n r
  unfolding AskGets Wires
  ask_wires n (Ok w) g h = (g, h)
  ask_wires n (Err f) g h = ask_gives n (said_of f) g h

  module _ (s : List ℕ) where
    pub ask_refused : (f : Blame) → AskGets (layout_of b) q (length s) (Err f) → Replies (layout_of b) (Ask q) s s (refusing (said_of f) b)
    unfolding AskGets
    ask_refused f g = refused b wf (Ask q) s (said_of f) (coded f.why) g

    tells : (w : Wired) (h : Told (layout_of b) q w) (s' : List ℕ) (m : Layout) (c : Board) → c ≡ board_of m
        → s' ≡ written (take w.wire.corners (nodes w.wire.xs w.wire.ys)) s
        → let o = told q.pins h.wire.0 m in Tells o.long o.away o.turned (board_of m) s s' (wired_reply c w.wire)
    tells w h s' m c e f = record {
      length_is = h.wire.2.length_is;
      detour_is = h.wire.2.detour_is;
      corners_are = h.wire.2.corners_are;
      board_is = e;
      slice_is = f ∙ ap (λ ps. written ps s) (corners_are (layout_of b) q w h);
    }

    pub ask_room : (w : Wired) → AskGets (layout_of b) q (length s) (Ok w) → (w.wire.corners ≤ most_corners) × (w.wire.corners + w.wire.corners ≤ length s)
    unfolding AskGets
    ask_room w g = let few = corners_few (layout_of b) q w g.1 in (few, omega (arith, few, (lent_ok (layout_of b) (length s) g.0).1))

    pub ask_told : (w : Wired) (s' : List ℕ) → AskGets (layout_of b) q (length s) (Ok w) → s' ≡ written (take w.wire.corners (nodes w.wire.xs w.wire.ys)) s
        → Replies (layout_of b) (Ask q) s s' (wired_reply b w.wire)
    unfolding AskGets Does
    ask_told w s' (g, h) f =
        accepted b wf (Ask q) s s' (told q.pins h.wire.0 (layout_of b)) (wired_reply b w.wire) refl (ask_gives (length s) (plain 0) g h.said)
        (h.wire.0, h.wire.1, refl) (tells w h s' (layout_of b) b (well_formed b wf).same f)

  -- ---- a lay

  module _ (i : Id) where
    room : Check
    room = 14 if TheWire (layout_of b) q (λ v. TooManyBlocks (layout_of b) (wire i.number (way q.pins v)))

    -- the checks after those of the slice
    rest : List Check
    rest = (4 if Used (layout_of b).items i.number) ∷ pin_checks (layout_of b) q ++ room ∷ []

    pub lay_short : (n : ℕ) (why : Refusal) → Gives (lent_checks (layout_of b) n) (plain (code_of why)) → (r : Result Wired Blame) → r ≡ Err (about_none why)
        → LayGets (layout_of b) i q n r
    unfolding LayGets checks room rest
    lay_short n why g r e = rw e (gives_first (lent_checks (layout_of b) n) rest (plain (code_of why)) (λ z. omega (arith, z, coded why)) g)

    pub lay_used : (n : ℕ) → Gives (lent_checks (layout_of b) n) (plain 0) → Used (layout_of b).items i.number → (f : Blame) → f ≡ about_none IdInUse
        → LayGets (layout_of b) i q n (Err f)
    unfolding LayGets checks Gives room rest
    lay_used n g u f e = rw e (gives_then (lent_checks (layout_of b) n) rest (plain 4) (lent_clear (layout_of b) n g) (inl (u, refl)))

    lay_gives : (n : ℕ) (v : Verdict) → Gives (lent_checks (layout_of b) n) (plain 0) → ¬ (Used (layout_of b).items i.number)
        → Gives (pin_checks (layout_of b) q ++ room ∷ []) v → Gives (checks (layout_of b) (Lay i q) n) v
    unfolding checks Gives room rest
    lay_gives n v g u h = gives_then (lent_checks (layout_of b) n) rest v (lent_clear (layout_of b) n g) (inr (u, h))

    pub lay_wires : (n : ℕ) (r : Result Wired Blame) → Gives (lent_checks (layout_of b) n) (plain 0) → ¬ (Used (layout_of b).items i.number)
        → Wires (layout_of b) q r → LayGets (layout_of b) i q n r
    unfolding LayGets Wires
    lay_wires n (Ok w) g u h = (g, u, h)
    lay_wires n (Err f) g u h =
        lay_gives n (said_of f) g u (gives_first (pin_checks (layout_of b) q) (room ∷ []) (said_of f) (λ z. omega (arith, z, coded f.why)) h)

    module _ (s : List ℕ) where
      pub lay_refused : (f : Blame) → LayGets (layout_of b) i q (length s) (Err f) → Replies (layout_of b) (Lay i q) s s (refusing (said_of f) b)
      unfolding LayGets
      lay_refused f g = refused b wf (Lay i q) s (said_of f) (coded f.why) g

      pub lay_asks : (w : Wired) → LayGets (layout_of b) i q (length s) (Ok w) → Laying b i w s
      unfolding LayGets
      lay_asks w (g, u, h) = record {
        stands = well_standing b wf;
        lent = (lent_ok (layout_of b) (length s) g).1;
        blocks = h.blocks;
        items_few = items_few_now b wf (lent_ok (layout_of b) (length s) g).0;
        blocks_few = (laid_now b wf (lent_ok (layout_of b) (length s) g).0).fits.two.blocks_few;
        two = corners_two (layout_of b) q w h;
        few = corners_few (layout_of b) q w h;
        whole = whole (layout_of b) q w h i.number;
      }

      pub lay_done : (w : Wired) (s' : List ℕ) (r : Reply) → LayGets (layout_of b) i q (length s) (Ok w) → Lays b i w s s' r → Replies (layout_of b) (Lay i q) s s' r
      unfolding LayGets Lays Gives Does room
      lay_done w s' r (g, u, h) (inl (many, e, f)) =
          subst₂ (λ s' r. Replies (layout_of b) (Lay i q) s s' r) (sym f) (sym e)
          (refused b wf (Lay i q) s (plain 14) (omega arith) (lay_gives (length s) (plain 14) g u (gives_then (pin_checks (layout_of b) q) (room ∷ []) (plain 14) (pins_clear (layout_of b) q h.said)
          (inl ((h.wire.0, h.wire.1, omega (arith, many, blocks_are (layout_of b) q w h i.number)), refl)))))
      lay_done w s' r (g, u, h) (inr (few, e, f)) =
          subst (Replies (layout_of b) (Lay i q) s s') (sym e)
          (accepted b wf (Lay i q) s s' (told q.pins h.wire.0 (add_to (layout_of b) (wire i.number (way q.pins h.wire.0)))) _ refl
          (lay_gives (length s) (plain 0) g u (gives_then (pin_checks (layout_of b) q) (room ∷ []) (plain 0) (pins_clear (layout_of b) q h.said)
          (inr (λ t. omega (arith, few, blocks_are (layout_of b) q w h i.number, one (layout_of b) q w h _ t), refl))))
          (h.wire.0, h.wire.1, refl)
          (tells s w h s' (add_to (layout_of b) (wire i.number (way q.pins h.wire.0))) _
          (ap (λ t. board_of (add_to (layout_of b) t)) (thing_is (layout_of b) q w h i.number)) f))
