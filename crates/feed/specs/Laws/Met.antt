-- The demands are met by every router that keeps the contract of `feed`, and none of the wrong ones keeps it.
-- Assumes nothing.
use Rattle.std.specs.Prelude.{ℕ, ◌≤◌, length, replicate}
use native.Mathlib.Omega.{arith}
use Rattle.std.proofs.Math.Path.{◌≡◌, refl, sym, ap}
use Rattle.std.proofs.Common.{subst, subst₂, ◌∙◌, inl, inr, ⊎_elim}
use mathlib.Core.List.{List, [], ◌∷◌}
use Rattle.std.proofs.Math.ListN.{get_or, length-replicate}
use Rattle.paper.specs.declared.Board.{Board}
use Rattle.paper.specs.declared.Reply.{Reply}
use Rattle.paper.specs.declared.Question.{Question}
use Rattle.paper.specs.declared.Record.TheVariants.{Ask, Undo}
use Rattle.paper.specs.Grid.{Node, All, Any, Blocked, node}
use Rattle.paper.specs.Layout.{Thing, id_of, wires, blocks_of, blocks_to, without, Has, Layout, fresh}
use Rattle.paper.specs.Padding.{board_of, Holds, WellFormed}
use Rattle.paper.specs.Reading.{Reads}
use Rattle.paper.specs.Answer.{verdict, source, checks, flat, written, Replies, Fed}
use Rattle.paper.specs.History.{start, Past, FedAll, Story, SameItems, Alike}
use Rattle.paper.specs.TableP.{Row, asking, layout_in, reply_in, Stands}
use Rattle.paper.specs.Laws.Apart.{blocked_left, blocked_right}
use Rattle.paper.specs.Laws.Among.{without_cases}
use Rattle.paper.specs.Laws.Back.{layout_of, one_layout}
use Rattle.paper.specs.Laws.Read.{one_record}
use Rattle.paper.specs.Laws.Checks.{Spared}
use Rattle.paper.specs.Laws.Next.{spares}
use Rattle.paper.proofs.One.{one_reply}
use Rattle.paper.proofs.Story.{history}
use Rattle.paper.proofs.Alike.{answer_alike}
use Rattle.paper.proofs.TableP.{table_p_lem}
use Rattle.feed.specs.Laws.Wiring.{clear_node}
use Rattle.feed.specs.Demands.{Router, Feeds, Asking, calls_of, left_by, Made, RefusesAll, OneWire, OnlyFirst, SpeaksRefusing}

-- ---- demand 1: a refusal leaves everything as it was

pub refusal : (b : Board) (bytes s s' : List ℕ) (r : Reply) → Fed b bytes s s' r → ¬ (r.code ≡ 0)
    → (s' ≡ s) × (r.board ≡ b) × (r.length ≡ 0) × (r.detour ≡ 0)
unfolding Fed flat
refusal b bytes s s' r (inl f) n = let t = f.2 in (t.slice_is, t.board_is, t.length_is, t.detour_is)
refusal b bytes s s' r (inr f) n = let t = f.4.refused n in (t.slice_is, t.board_is ∙ sym f.2.same, t.length_is, t.detour_is)

module _ (f : Router) (feeds : Feeds f) where
  pub not_speaking : ¬ (SpeaksRefusing f)
  unfolding Feeds SpeaksRefusing
  not_speaking h = h.4 (refusal h.0 h.1 h.2 _ _ (feeds h.0 h.1 h.2) h.3)

  -- ---- demand 3: over any list of calls

  fed_all : (b : Board) (as' : List Asking) → FedAll b (calls_of f b as') (left_by f b as')
  unfolding FedAll calls_of left_by Feeds
  fed_all b [] = refl
  fed_all b (a ∷ as') = (feeds b a.bytes a.lent, fed_all (f.reply b a.bytes a.lent).board as')

  -- the items are those that the history says, and the board is well formed
  pub demand_3 : (as' : List Asking) → let b = left_by f (board_of fresh) as' in
      (h : Past) × Story start (calls_of f (board_of fresh) as') h × WellFormed b × ((layout_of b).size ≡ h.size) × ((layout_of b).items ≡ h.now)
  demand_3 as' = history (calls_of f (board_of fresh) as') (left_by f (board_of fresh) as') (fed_all (board_of fresh) as')

  -- two boards with equal size, clearance and items answer every record but undo alike, however they came about
  pub demand_3_alike : (b c : Board) → Made f b → Made f c → SameItems b c → (bytes s : List ℕ) → ¬ (Reads bytes Undo)
      → Alike (f.slice b bytes s) (f.slice c bytes s) (f.reply b bytes s) (f.reply c bytes s)
  unfolding Feeds
  demand_3_alike b c p q e bytes s u =
      answer_alike (calls_of f (board_of fresh) p.asked) (calls_of f (board_of fresh) q.asked) b c
      (subst (FedAll (board_of fresh) _) (sym p.left) (fed_all (board_of fresh) p.asked))
      (subst (FedAll (board_of fresh) _) (sym q.left) (fed_all (board_of fresh) q.asked)) e bytes s _ _ _ _ u (feeds b bytes s) (feeds c bytes s)

  -- ---- wrong routers, by Table P

  -- what the table says of a row, the router does
  does : (r : Row) → Stands r → let b = board_of (layout_in r) in
      (f.reply b (asking r.pins) (replicate 50 0) ≡ reply_in r) × (f.slice b (asking r.pins) (replicate 50 0) ≡ written r.turned (replicate 50 0))
  unfolding Feeds Stands
  does r st =
      one_reply (board_of (layout_in r)) (asking r.pins) (replicate 50 0) _ _ _ _ (feeds (board_of (layout_in r)) (asking r.pins) (replicate 50 0))
      (st (replicate 50 0) (omega (arith, length-replicate {A = ℕ} 50 0)))

  pub not_refusing_all : ¬ (RefusesAll f)
  unfolding RefusesAll All
  not_refusing_all h = h _ _ _ (ap (λ r. r.code) (does _ table_p_lem.0).0)

  -- every row that tells corners would tell the same
  same_wire : (r : Row) → Stands r → 1 ≤ length r.turned → (ps : List Node) → OneWire f ps → written r.turned (replicate 50 0) ≡ written ps (replicate 50 0)
  unfolding OneWire
  same_wire r st some ps h =
      let d = does r st in
      let n : 1 ≤ (f.reply (board_of (layout_in r)) (asking r.pins) (replicate 50 0)).corners = omega (arith, ap (λ q. q.corners) d.0) in
      sym d.1 ∙ h (board_of (layout_in r)) (asking r.pins) (replicate 50 0) n

  pub not_one_wire : (ps : List Node) → ¬ (OneWire f ps)
  unfolding All flat
  not_one_wire ps h =
      let z : ◌≡◌ {A = ℕ} 0 10
      = ap (λ l. get_or l 0 0) (same_wire _ table_p_lem.0 (omega arith) ps h ∙ sym (same_wire _ table_p_lem.1.0 (omega arith) ps h)) in
      omega arith

  -- the table's boards are not fresh
  later_zero : (r : Row) → Stands r → OnlyFirst f → r.said.code ≡ 0
  unfolding OnlyFirst board_of
  later_zero r st h =
      let other : ¬ (board_of (layout_in r) ≡ board_of fresh) = λ e. let z : ◌≡◌ {A = ℕ} 10 0 = ap (λ b. b.size.w) e in omega arith in
      sym (ap (λ q. q.code) (does r st).0) ∙ h (board_of (layout_in r)) (asking r.pins) (replicate 50 0) other

  pub not_only_first : ¬ (OnlyFirst f)
  unfolding All
  not_only_first h = let z : ◌≡◌ {A = ℕ} 9 0 = later_zero _ table_p_lem.1.1.1.1.1.1.1.1.1.1.1.1.0 h in omega arith

-- ---- room that a neighbour's box covers

among : (c : ℕ) (p : Node) (t : Thing) (us : List Thing) → Has us t → Blocked (blocks_of c wires t) (node p) → Blocked (blocks_to c wires us) (node p)
unfolding Any blocks_to
among c p t [] h b = absurd h
among c p t (u ∷ us) (inl e) b =
    blocked_left (blocks_of c wires u) (blocks_to c wires us) (node p) (subst (λ t. Blocked (blocks_of c wires t) (node p)) (sym e) b)
among c p t (u ∷ us) (inr h) b = blocked_right (blocks_of c wires u) (blocks_to c wires us) (node p) (among c p t us h b)

-- a node in the box of a wire that stays is blocked, whatever else is taken out
pub still_blocked : (c i : ℕ) (p : Node) (t : Thing) (ts : List Thing) → Has ts t → ¬ (id_of t ≡ i) → Blocked (blocks_of c wires t) (node p)
    → Blocked (blocks_to c wires (without i ts)) (node p)
unfolding Any blocks_to
still_blocked c i p t [] h n b = absurd h
still_blocked c i p t (u ∷ us) (inl e) n b =
    ⊎_elim (λ d. absurd (n (ap id_of (sym e) ∙ d.0)))
    (λ d. rw d.1 (blocked_left (blocks_of c wires u) (blocks_to c wires (without i us)) (node p) (subst (λ t. Blocked (blocks_of c wires t) (node p)) (sym e) b)))
    (without_cases i u us)
still_blocked c i p t (u ∷ us) (inr h) n b =
    ⊎_elim (λ d. rw d.1 (among c p t us h b))
    (λ d. rw d.1 (blocked_right (blocks_of c wires u) (blocks_to c wires (without i us)) (node p) (still_blocked c i p t us h n b)))
    (without_cases i u us)

-- and an ask from there is not accepted
pub blocked_refused : (b : Board) (bytes s s' : List ℕ) (r : Reply) (l : Layout) (q : Question) → Fed b bytes s s' r → Holds b l → Reads bytes (Ask q)
    → Blocked (blocks_to l.size.clearance wires l.items) (node (source q.pins)) → ¬ (r.code ≡ 0)
unfolding Fed WellFormed Spared checks
blocked_refused b bytes s s' r l q (inl f) k rd h z = f.0 (l, k)
blocked_refused b bytes s s' r l q (inr f) k rd h z =
    let m : f.0 ≡ l = one_layout b f.0 l f.2 k in
    let e : f.1 ≡ Ask q = one_record bytes f.1 (Ask q) f.3 rd in
    let g : Replies l (Ask q) s s' r = subst₂ (λ l rec. Replies l rec s s' r) m e f.4 in
    let c = spares l (Ask q) (length s) (verdict r) z g.code in
    clear_node l (source q.pins) (c 11) (c 18) h
