-- The replies of the kinds that lay no wire, and of every refusal.
-- Assumes nothing.
use Prim.Native.Nat.{ℕ, suc, ◌+◌, ◌≤◌, ◌<◌}
use Rattle.std.proofs.Common.{arith, sym, ◌∙◌}
use Rattle.std.specs.Prelude.{◌≡◌, Some}
use Rattle.std.proofs.Math.Path.{refl, ap, subst}
use Rattle.std.proofs.Math.Logic.{inl, inr}
use mathlib.Core.List.{List, [], ◌∷◌}
use Rattle.std.proofs.Math.ListN.{length}
use Rattle.paper.specs.declared.Size.{Size}
use Rattle.paper.specs.declared.Id.{Id}
use Rattle.paper.specs.declared.Rect.{Rect}
use Rattle.paper.specs.declared.Item.{Item}
use Rattle.paper.specs.declared.Board.{Board}
use Rattle.paper.specs.declared.Reply.{Reply}
use Rattle.paper.specs.declared.Verdict.{Verdict}
use Rattle.paper.specs.declared.Record.{Record}
use Rattle.paper.specs.declared.Record.TheVariants.{Bounds, KeepOut, TakeOut, Undo, Malformed}
use Rattle.paper.specs.declared.Refusal.{Refusal}
use Rattle.paper.specs.Codes.{code_of}
use Rattle.paper.specs.Limits.{most_blocks}
use Rattle.paper.specs.Layout.{keep_out, areas, block_count, Used, Turn, undo, Layout, InRange, empty, Laid, Undoes}
use Rattle.paper.specs.Padding.{item_of, board_of, WellFormed}
use Rattle.paper.specs.Reading.{Reads}
use Rattle.paper.specs.Answer.{plain, Gives, verdict, BeforeBounds, checks, add_to, take_from, Outcome, quiet, Does, flat, Tells, Replies, Fed}
use Rattle.paper.specs.Laws.Back.{thing_of, layout_of, well_formed}
use Rattle.paper.specs.Laws.Feeds.{refusing}
use Rattle.paper.proofs.Kept.{replied}
use Rattle.paper.specs.Laws.Checks.{Spared}
use Rattle.paper.specs.Laws.Next.{spares, laid}
use Rattle.paper.specs.Laws.Shape.{items_few}
use Rattle.paper.specs.Laws.Standing.{Standing, thing_at, well_standing}
use Rattle.shapes.specs.Laws.Fits.{coded}
use Rattle.items.specs.Items.{IdAt, TheFirst, Whole, Room, RoomBack, Undone}
use Rattle.items.specs.Laws.Found.{has_at, used_at}
use Rattle.feed.specs.Feeding.{Quietly, KeepOutCode}

-- ---- whether changes are kept

pub no_kept : (cs : List Turn) → length cs ≡ 0 → cs ≡ []
no_kept [] e = refl
no_kept (c ∷ cs) e = absurd (omega arith)

pub some_kept : (n : ℕ) (cs : List Turn) → n ≡ length cs → ¬ (n ≡ 0) → 1 ≤ length cs
some_kept n cs e z = omega arith

-- ---- in general

module _ (b : Board) (w : WellFormed b) (rec : Record) where
  pub refused : (s : List ℕ) (v : Verdict) → 1 ≤ v.code → Gives (checks (layout_of b) rec (length s)) v → Replies (layout_of b) rec s s (refusing v b)
  unfolding flat
  refused s v some g = record {
    code = g;
    refused = λ n. record { length_is = refl; detour_is = refl; corners_are = refl; board_is = (well_formed b w).same; slice_is = refl };
    accepted = λ z. absurd (omega arith);
  }

  pub accepted : (s s' : List ℕ) (o : Outcome) (r : Reply) → verdict r ≡ plain 0 → Gives (checks (layout_of b) rec (length s)) (plain 0) → Does (layout_of b) rec o
      → Tells o.long o.away o.turned (board_of o.layout) s s' r → Replies (layout_of b) rec s s' r
  accepted s s' o r z g d t = record { code = rw z g; refused = λ n. absurd (n (ap (λ v. v.code) z)); accepted = λ _. (o, d, t) }

  -- whatever slice is lent
  pub quiet_refused : (k : ℕ) → 1 ≤ k → ((n : ℕ) → Gives (checks (layout_of b) rec n) (plain k)) → Quietly (layout_of b) rec (refusing (plain k) b)
  unfolding Quietly
  quiet_refused k some g s = refused s (plain k) some (g (length s))

  pub quiet_accepted : (m : Layout) → ((n : ℕ) → Gives (checks (layout_of b) rec n) (plain 0)) → Does (layout_of b) rec (quiet m)
      → Quietly (layout_of b) rec (refusing (plain 0) (board_of m))
  unfolding Quietly flat
  quiet_accepted m g d s =
      accepted s s (quiet m) (refusing (plain 0) (board_of m)) refl (g (length s)) d
      (record { length_is = refl; detour_is = refl; corners_are = refl; board_is = refl; slice_is = refl })

pub malformed_reply : (b : Board) → WellFormed b → (s : List ℕ) → Replies (layout_of b) Malformed s s (refusing (plain 1) b)
unfolding Gives checks
malformed_reply b w s = refused b w Malformed s (plain 1) (omega arith) (inl (tt, refl))

-- the board has bounds
pub laid_now : (b : Board) → WellFormed b → ¬ (BeforeBounds (layout_of b)) → Laid (layout_of b)
laid_now b w n = laid (layout_of b) (well_formed b w).sound n

module _ (b : Board) (w : WellFormed b) where
  -- ---- kind 1

  pub bounds_set : (s : Size) → InRange s → Quietly (layout_of b) (Bounds s) (refusing (plain 0) (board_of (empty s)))
  unfolding Gives checks Does
  bounds_set s h = quiet_accepted b w (Bounds s) (empty s) (λ n. inr (h, refl)) refl

  pub bounds_not : (s : Size) → ¬ (InRange s) → Quietly (layout_of b) (Bounds s) (refusing (plain 3) b)
  unfolding Gives checks
  bounds_not s h = quiet_refused b w (Bounds s) 3 (omega arith) (λ n. inl (h, refl))

  -- ---- kind 2

  pub keep_out_not : (i : Id) (r : Rect) (k : ℕ) → ¬ (k ≡ 0) → KeepOutCode (layout_of b) i r k → Quietly (layout_of b) (KeepOut i r) (refusing (plain k) b)
  unfolding KeepOutCode
  keep_out_not i r k n g = quiet_refused b w (KeepOut i r) k (omega arith) g

  pub keep_out_refused : (i : Id) (r : Rect) (why : Refusal) → KeepOutCode (layout_of b) i r (code_of why) → Quietly (layout_of b) (KeepOut i r) (refusing (plain (code_of why)) b)
  keep_out_refused i r why g = keep_out_not i r (code_of why) (λ e. let h : 1 ≤ code_of why = coded why in absurd (omega arith)) g

  pub keep_out_set : (i : Id) (r : Rect) → KeepOutCode (layout_of b) i r 0
      → Quietly (layout_of b) (KeepOut i r) (refusing (plain 0) (board_of (add_to (layout_of b) (keep_out i.number r))))
  unfolding KeepOutCode Does
  keep_out_set i r g = quiet_accepted b w (KeepOut i r) (add_to (layout_of b) (keep_out i.number r)) g refl

  -- an item of the board is a block or more
  pub items_few_now : ¬ (BeforeBounds (layout_of b)) → length (layout_of b).items ≤ block_count (layout_of b).items
  items_few_now n = items_few (layout_of b).size (layout_of b).items (laid_now b w n).fits.two.each

  pub keep_out_asks : (i : Id) (r : Rect) (m : Item) → KeepOutCode (layout_of b) i r 0 → m ≡ item_of (keep_out i.number r)
      → Standing b × Whole m × Room (layout_of b)
  unfolding KeepOutCode Spared checks block_count areas
  keep_out_asks i r m g e =
      let h = spares (layout_of b) (KeepOut i r) 0 (plain 0) refl (g 0) in
      let few : ¬ (most_blocks < 1 + block_count (layout_of b).items) = h 14 in
      (well_standing b w, rw e (unfold thing_of item_of in refl), omega (arith, items_few_now (h 2)))

  pub keep_out_is : (i : Id) (r : Rect) (m : Item) → m ≡ item_of (keep_out i.number r) → thing_of m ≡ keep_out i.number r
  keep_out_is i r m e = rw e (unfold thing_of item_of in refl)

  -- ---- kind 5

  pub take_first : (i at : ℕ) → IdAt (layout_of b).items i (Some at) → TheFirst (layout_of b).items at
  unfolding IdAt
  take_first i at p = (p.0, refl, λ j h e. p.2 j h (e ∙ p.1))

  pub take_set : (i : Id) (at : ℕ) → ¬ (BeforeBounds (layout_of b)) → IdAt (layout_of b).items i.number (Some at)
      → Quietly (layout_of b) (TakeOut i) (refusing (plain 0) (board_of (take_from (layout_of b) (thing_at (layout_of b).items at))))
  unfolding IdAt Gives checks Does
  take_set i at n p =
      let has = has_at (layout_of b).items at p.0 in
      let used : Used (layout_of b).items i.number = subst (Used (layout_of b).items) p.1 (used_at (layout_of b).items at p.0) in
      quiet_accepted b w (TakeOut i) (take_from (layout_of b) (thing_at (layout_of b).items at))
      (λ k. inr (n, inr (used, refl))) (thing_at (layout_of b).items at, has, p.1, refl)

  pub no_bounds_yet : (rec : Record) → ((n : ℕ) → Gives (checks (layout_of b) rec n) (plain 2)) → Quietly (layout_of b) rec (refusing (plain 2) b)
  no_bounds_yet rec g = quiet_refused b w rec 2 (omega arith) g

  pub take_none : (i : Id) → ¬ (BeforeBounds (layout_of b)) → ¬ (Used (layout_of b).items i.number) → Quietly (layout_of b) (TakeOut i) (refusing (plain 5) b)
  unfolding Gives checks
  take_none i n u = quiet_refused b w (TakeOut i) 5 (omega arith) (λ k. inr (n, inl (u, refl)))

  -- ---- kind 6

  pub undo_none : ¬ (BeforeBounds (layout_of b)) → (layout_of b).kept ≡ [] → Quietly (layout_of b) Undo (refusing (plain 15) b)
  unfolding Gives checks
  undo_none n e = quiet_refused b w Undo 15 (omega arith) (λ k. inr (n, inl (e, refl)))

  pub undo_asks : ¬ (BeforeBounds (layout_of b)) → 1 ≤ length (layout_of b).kept → RoomBack (layout_of b)
  unfolding Undoes
  undo_asks n h =
      let L = laid_now b w n in
      record {
        some = h;
        room = λ c cs e.
            let u : Undoes (layout_of b).size (layout_of b).items (c ∷ cs) = subst (Undoes (layout_of b).size (layout_of b).items) e L.undoes in
            omega (arith, items_few (layout_of b).size (undo c (layout_of b).items) u.1.two.each, u.1.two.blocks_few);
      }

  pub undo_set : (r : Board) → ¬ (BeforeBounds (layout_of b)) → Undone (layout_of b) r → Quietly (layout_of b) Undo (refusing (plain 0) r)
  unfolding Undone Gives checks Does
  undo_set r n u =
      subst (λ r. Quietly (layout_of b) Undo (refusing (plain 0) r)) (sym u.3)
      (quiet_accepted b w Undo _ (λ k. inr (n, inr (kept_some u.0 u.1 u.2, refl))) (u.0, u.1, u.2, refl))
    where
      kept_some : (c : Turn) (cs : List Turn) → (layout_of b).kept ≡ c ∷ cs → ¬ ((layout_of b).kept ≡ [])
      kept_some c cs e z = let n : length (layout_of b).kept ≡ suc (length cs) = ap length e in omega (arith, ap length z)

-- ---- the whole

pub fed_by : (b : Board) → WellFormed b → (bytes : List ℕ) (rec : Record) (s s' : List ℕ) (r : Reply) → Reads bytes rec
    → Replies (layout_of b) rec s s' r → Fed b bytes s s' r × WellFormed r.board
unfolding Fed
fed_by b w bytes rec s s' r k f =
    let h = well_formed b w in
    (inr (layout_of b, rec, h, k, f), replied b (layout_of b) bytes rec s s' r h k f)
