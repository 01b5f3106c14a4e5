-- Table P, as a single statement over its list, by a test that is computed.
-- Assumes nothing.
use Rattle.std.specs.Prelude.{ℕ, ◌≤◌, ◌≡◌, Bool, true, false, not, ◌&&◌, ◌||◌, ◌↔◌, List, length, T, ltb, eqb}
use Rattle.std.proofs.Common.{arith, add-zero, ap, inl}
use Rattle.std.proofs.Math.Path.{refl}
use Rattle.std.proofs.Math.Bool.{cond}
use Rattle.std.proofs.Math.Logic.{inr}
use Rattle.paper.specs.declared.Pins.{Pins}
use Rattle.paper.specs.declared.Mode.TheVariants as mode
use Rattle.paper.specs.declared.Question.{Question}
use Rattle.paper.specs.declared.Record.TheVariants.{Ask}
use Rattle.paper.specs.Limits.{most_runs, least_slice}
use Rattle.paper.specs.Grid.{Node, Dir, Block, All, Pairs, node}
use Rattle.paper.specs.Wire.{Answered, turns, corners, runs, gap, manhattan, detour}
use Rattle.paper.specs.Layout.{Thing, Sort, keep_outs, wires, sort_of, areas, blocks_of, blocks_to, round, grid_of, Below, Sound}
use Rattle.paper.specs.Padding.{board_of}
use Rattle.paper.specs.Reading.{fields_of, Plain, Reads}
use Rattle.paper.specs.declared.Verdict.{Verdict}
use Rattle.paper.specs.Answer.{named, plain, Gives, Bars, BarsNode, source, target, way, NoWire, TooManyRuns, checks, Outcome, quiet, told, Does, written, Tells, Fed}
use Rattle.paper.specs.TableP.{Row, layout_in, asking, reply_in, Stands, table_p}
use Rattle.paper.specs.Laws.Lists.{all_imp}
use Rattle.paper.specs.Laws.Next.{laid}
use Rattle.paper.specs.Laws.Joins.{joins, joined}
use Rattle.paper.proofs.Seams.{legal_joined, answered_joined}
use Rattle.paper.specs.Laws.Says.{Says, says_as, says_self, says_always, says_never, says_and, says_and₃, says_and₄, says_not, says_if, says_le, says_eq, says_all, says_any, anyb, listb, says_list}
use Rattle.paper.specs.Laws.Tests.{nodeb, node_says, blockedb, blocked_says, coversb, covers_says, sealedb, sealed_says, on_boardb, on_board_says, soundb}
use Rattle.paper.proofs.Tests.{sound_says}
use Rattle.paper.specs.Laws.Certificate.{Table, look, routeb}
use Rattle.paper.proofs.Certificate.{none_by_table, by_table}
use Rattle.paper.specs.Laws.Distances.{distances, steps}
use Rattle.paper.specs.Laws.One.{sound_rising}
use Rattle.paper.specs.Laws.Smallest.{namedb, gives_naming}
use Rattle.paper.specs.Laws.Feeds.{gives_none, gives_if, gives_unless}
use Rattle.paper.proofs.Feeds.{the_wire_says}

abbrev blocks_in : Row → List Block
blocks_in r = blocks_to r.clearance wires r.items

-- kind 4 asks for the first of the shortest
abbrev plainly : Pins → Question
plainly p = record { pins = p; mode = mode.Plain }

reads : (p : Pins) → Reads (asking p) (Ask (plainly p))
unfolding Reads Plain fields_of
reads p =
    inl (record {
      twelve = refl;
      plain = tt;
      same = λ i. record {
        kind = 4;
        zero = 0;
        id = 0;
        a = add-zero p.sx i;
        b = add-zero p.sy i;
        c = add-zero p.tx i;
        d = add-zero p.ty i;
      };
    })

-- ---- a row that has what the outcome tells

abbrev Claims : Row → Outcome → Type 0
Claims r o = (r.long ≡ o.long) × (r.away ≡ o.away) × (r.turned ≡ o.turned)

unfoldable claimsb : Row → Outcome → Bool
unfolding nodeb listb
claimsb r o = eqb r.long o.long && eqb r.away o.away && listb nodeb r.turned o.turned

claims_says : (r : Row) (o : Outcome) → Says (claimsb r o) (Claims r o)
unfolding claimsb
claims_says r o = says_and₃ (says_eq _ _) (says_eq _ _) (says_list node_says _ _)

tells : (r : Row) (o : Outcome) (s : List ℕ) → Claims r o
    → Tells o.long o.away o.turned (board_of (layout_in r)) s (written r.turned s) (reply_in r)
tells r o s c = record {
  length_is = c.0;
  detour_is = c.1;
  corners_are = ap length c.2;
  board_is = refl;
  slice_is = ap (λ ps. written ps s) c.2;
}

sortb : Sort → Sort → Bool
sortb keep_outs keep_outs = true
sortb keep_outs wires = false
sortb wires keep_outs = false
sortb wires wires = true

sort_says : (s z : Sort) → Says (sortb s z) (s ≡ z)
unfolding sortb
sort_says keep_outs keep_outs = says_always refl
sort_says keep_outs wires = says_never (λ e. let z : ◌≡◌ {A = ℕ} 0 1 = cc in omega arith)
sort_says wires keep_outs = says_never (λ e. let z : ◌≡◌ {A = ℕ} 0 1 = cc in omega arith)
sort_says wires wires = says_always refl

unfoldable verdictb : Verdict → Verdict → Bool
verdictb v w = eqb v.code w.code && eqb v.place w.place && eqb v.id w.id

verdict_says : (v w : Verdict) → Says (verdictb v w) (v ≡ w)
unfolding verdictb
verdict_says v w =
    says_as (λ h i. record { code = h.0 i; place = h.1 i; id = h.2 i })
    (λ e. (ap (λ v. v.code) e, ap (λ v. v.place) e, ap (λ v. v.id) e))
    (says_and₃ (says_eq _ _) (says_eq _ _) (says_eq _ _))

-- ---- the test of a row, by a table of distances and a wire: whatever these are, a row that passes it stands

module _ (r : Row) (tab : Table) (v : List Dir) where
  abbrev here : Node
  here = source r.pins

  abbrev there : Node
  there = target r.pins

  abbrev outcome : Outcome
  outcome = told r.pins v (layout_in r)

  abbrev routedb : Bool
  routedb = routeb 10 10 (joined (blocks_in r)) tab here there v

  -- the item of the sort blocks the node
  unfoldable bars_nodeb : Sort → Node → Thing → Bool
  unfolding blockedb blocks_of areas runs sealedb coversb
  bars_nodeb keep_outs p t = sealedb r.items (round p) && anyb (coversb t) (round p)
  bars_nodeb wires p t = sortb (sort_of t) wires && blockedb (blocks_of r.clearance wires t) (node p)

  bars_node_says : (of : Sort) (p : Node) (t : Thing) → Says (bars_nodeb of p t) (BarsNode (layout_in r) of p t)
  unfolding bars_nodeb BarsNode Bars
  bars_node_says keep_outs p t = says_and (sealed_says _ _) (says_any (covers_says t) (round p))
  bars_node_says wires p t = says_and (sort_says (sort_of t) wires) (blocked_says _ _)

  -- the codes of an ask in their order, after 2 and 16
  unfoldable verdict_in : Verdict
  unfolding namedb bars_nodeb
  verdict_in =
      cond (on_boardb (layout_in r).size here && on_boardb (layout_in r).size there)
      (cond (nodeb here there) (plain 10)
      (namedb (bars_nodeb keep_outs here) (named 11 1) r.items
      (namedb (bars_nodeb wires here) (named 18 1) r.items
      (namedb (bars_nodeb keep_outs there) (named 11 2) r.items
      (namedb (bars_nodeb wires there) (named 18 2) r.items
      (cond (eqb (look tab here) 0) (plain 12)
      (cond (ltb most_runs (length (runs (way r.pins v)))) (plain 13) (plain 0)))))))) (plain 9)

  -- what is routed by the blocks and their rectangles is so by the definitions
  routed_none : 1 ≤ r.clearance → T routedb → (look tab here ≡ 0) ↔ NoWire (layout_in r) r.pins
  routed_none c t =
      let z = (layout_in r).size in
      let none = none_by_table 10 10 (joined (blocks_in r)) tab here there v t in
      (λ e u l. none.0 e u ((legal_joined z r.items here there u c).0 l), λ n. none.1 (λ u l. n u ((legal_joined z r.items here there u c).1 l)))

  routed_wire : 1 ≤ r.clearance → T routedb → ¬ (look tab here ≡ 0) → Answered (grid_of (layout_in r).size r.items) here there v
  routed_wire c t some = (answered_joined (layout_in r).size r.items here there v c).1 (by_table 10 10 (joined (blocks_in r)) tab here there v t some)

  gives : (n : ℕ) → least_slice ≤ n → 1 ≤ r.clearance → Pairs Below r.items → T routedb → Gives (checks (layout_in r) (Ask (plainly r.pins)) n) verdict_in
  unfolding checks verdict_in
  gives n fits c rising routed =
      let none = routed_none c routed in
      let wire = routed_wire c routed in
      gives_if {b = false} 2 _ _ (says_never (λ z. omega arith)) λ bounds.
      gives_if {b = false} 16 _ _ (says_never (λ z. omega arith)) λ room.
      gives_unless 9 _ _ (says_and (on_board_says _ _) (on_board_says _ _)) λ on.
      gives_if 10 _ _ (node_says _ _) λ two.
      gives_naming _ _ (bars_node_says keep_outs here) (named 11 1) _ 11 1 _ _ rising (λ j. refl) λ a.
      gives_naming _ _ (bars_node_says wires here) (named 18 1) _ 18 1 _ _ rising (λ j. refl) λ b.
      gives_naming _ _ (bars_node_says keep_outs there) (named 11 2) _ 11 2 _ _ rising (λ j. refl) λ c.
      gives_naming _ _ (bars_node_says wires there) (named 18 2) _ 18 2 _ _ rising (λ j. refl) λ d.
      gives_if 12 _ _ (says_as none.0 none.1 (says_eq _ _)) λ some.
      gives_if 13 _ _ (the_wire_says (layout_in r) (plainly r.pins) (TooManyRuns r.pins) v (wire (λ z. some (none.0 z))) (says_le _ _)) λ few.
      gives_none

  record Passed : Type 0 where
    sound : Sound (layout_in r)
    routed : T routedb
    said : r.said ≡ verdict_in
    accepted : r.said.code ≡ 0 → (¬ (look tab here ≡ 0)) × Claims r outcome
    refused : ¬ (r.said.code ≡ 0) → Claims r (quiet (layout_in r))

  unfoldable rowb : Bool
  unfolding soundb routeb verdict_in verdictb claimsb corners turns detour manhattan gap
  rowb =
      soundb (layout_in r) && routedb && verdictb r.said verdict_in
      && ((not (eqb r.said.code 0) || (not (eqb (look tab here) 0) && claimsb r outcome))
      && (not (not (eqb r.said.code 0)) || claimsb r (quiet (layout_in r))))

  row_says : Says rowb Passed
  unfolding rowb
  row_says =
      says_as (λ h. record { sound = h.0; routed = h.1; said = h.2; accepted = h.3.0; refused = h.3.1 })
      (λ p. (p.sound, p.routed, p.said, (p.accepted, p.refused)))
      (says_and₄ (sound_says (layout_in r)) (says_self routedb) (verdict_says _ _)
      (says_and (says_if (says_eq _ _) (says_and (says_not (says_eq _ _)) (claims_says r outcome)))
      (says_if (says_not (says_eq _ _)) (claims_says r (quiet (layout_in r))))))

  clear : Passed → 1 ≤ r.clearance
  clear p = (laid (layout_in r) p.sound (λ z. omega arith)).range.2.0

  stands : Passed → Stands r
  unfolding Stands Fed Does
  stands p s fits =
      inr (
        layout_in r,
        Ask (plainly r.pins),
        record { sound = p.sound; same = refl },
        reads r.pins,
        record {
          code = rw p.said (gives (length s) fits (clear p) (sound_rising (layout_in r) p.sound) p.routed);
          refused = λ n. tells r (quiet (layout_in r)) s (p.refused n);
          accepted = λ z. (
            outcome,
            (v, routed_wire (clear p) p.routed (p.accepted z).0, refl),
            tells r outcome s (p.accepted z).1,
          );
        },
      )

-- ---- the table

-- the distances are computed, and the wire is the one with the row's corners
abbrev table_in : Row → Table
table_in r = distances 10 10 (joined (blocks_in r)) (target r.pins)

abbrev wire_in : Row → List Dir
wire_in r = steps r.turned

pub table_p_lem : All Stands table_p
unfolding rowb distances steps blocks_to joins sortb
table_p_lem =
    all_imp (λ r. Passed r (table_in r) (wire_in r)) Stands (λ r. stands r (table_in r) (wire_in r)) table_p
    ((says_all (λ r. row_says r (table_in r) (wire_in r)) table_p).fact tt)
