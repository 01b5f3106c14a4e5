-- What `wire` cites: what is said of two pins on a board, and of the wire between them.
use Rattle.std.specs.Prelude.{◌≤◌, ◌<◌, ◌≡◌, Result, Ok, Err}
use native.Mathlib.Omega.{arith}
use mathlib.Core.Path.{refl, sym, subst}
use Rattle.paper.specs.declared.Board.{Board}
use Rattle.paper.specs.declared.Pins.{Pins}
use Rattle.paper.specs.declared.Question.{Question}
use Rattle.paper.specs.Grid.{grid_with}
use Rattle.paper.specs.Layout.{wires, Laid}
use Rattle.paper.specs.Padding.{no_item, WellFormed}
use Rattle.paper.specs.Answer.{source, target, named, Gives}
use Rattle.paper.specs.Codes.{code_of}
use Rattle.paper.specs.Laws.Back.{layout_of, well_formed}
use Rattle.paper.specs.Laws.Checks.{Clear}
use Rattle.paper.specs.Laws.Joins.{joined}
use Rattle.paper.specs.Laws.One.{sound_rising}
use Rattle.paper.specs.Laws.Standing.{well_standing, id_at}
use Rattle.blocks.specs.declared.Blocks.{Blocks}
use Rattle.blocks.specs.Flat.{first_at, flat, Fits, HeldOf}
use Rattle.blocks.specs.Laws.Held.{count_held}
use Rattle.router.specs.declared.Wire.{Wire}
use Rattle.router.specs.declared.Untold.{Untold}
use Rattle.router.specs.Route.{AnswersIn, Asked}
use Rattle.feed.specs.declared.Blame.{Blame}
use Rattle.feed.specs.declared.Wired.{Wired}
use Rattle.feed.specs.declared.wires.Stop.{Stop}
use Rattle.feed.specs.declared.wires.Stop.TheVariants.{Alone, AtPin}
use Rattle.feed.specs.Feeding.{untold_of, start_checks, PinsSaid, StopsPins, Placed, blame_of, Wires}
use Rattle.feed.specs.Laws.Replying.{laid_now}
use Rattle.feed.specs.Laws.Wiring.{start_clear, refused_start, wire_asks, wires_told, wires_untold}

laid : (b : Board) → WellFormed b → 1 ≤ b.size.w → Laid (layout_of b)
unfolding layout_of
laid b w h = laid_now b w (λ z. omega (arith, z, h))

-- a side is 30,000 at most
pub short_side : (b : Board) → WellFormed b → 1 ≤ b.size.w → b.size.w < 65535
unfolding layout_of
short_side b w h = omega (arith, (laid b w h).range.0.1)

pub low_side : (b : Board) → WellFormed b → 1 ≤ b.size.w → b.size.h < 65535
unfolding layout_of
low_side b w h = omega (arith, (laid b w h).range.1.1)

module _ (b : Board) (w : WellFormed b) (held : Blocks) (h : HeldOf held wires (layout_of b)) where
  -- what is said of the pins on this board
  pins_said : (p : Pins) (r : Result (Unit {0}) Stop) → StopsPins b.size held p r → PinsSaid (layout_of b) p r
  unfolding StopsPins layout_of
  pins_said p r s = s (layout_of b) refl h (sound_rising (layout_of b) (well_formed b w).sound)

  pub placed_stop : (p : Pins) (stop : Stop) → StopsPins b.size held p (Err stop) → Placed stop
  placed_stop p (Alone why) s = tt
  placed_stop p (AtPin why pin i) s = omega (arith, (pins_said p (Err (AtPin why pin i)) s).0, (well_standing b w).items_few)

  pub pins_refused : (q : Question) (stop : Stop) → StopsPins b.size held q.pins (Err stop) → (f : Blame) → f ≡ blame_of b.items stop → Wires (layout_of b) q (Err f)
  pins_refused q (Alone why) s f e = subst (λ f. Wires (layout_of b) q (Err f)) (sym e) (refused_start (layout_of b) q _ (pins_said q.pins (Err (Alone why)) s))
  pins_refused q (AtPin why pin i) s f e =
      let g = pins_said q.pins (Err (AtPin why pin i)) s in
      subst (λ f. Wires (layout_of b) q (Err f)) (sym e)
      (refused_start (layout_of b) q _ (subst (λ i. Gives (start_checks (layout_of b) q.pins) (named (code_of why) pin i)) (sym (id_at b (well_standing b w) i no_item g.0)) g.1))

  module _ (some : 1 ≤ b.size.w) (q : Question) (s : StopsPins b.size held q.pins (Ok tt)) where
    clear : Clear (start_checks (layout_of b) q.pins)
    clear = start_clear (layout_of b) q.pins _ refl (pins_said q.pins (Ok tt) s)

    pub pins_free : Fits held × Asked b.size (flat held) q.pins
    unfolding layout_of
    pins_free = wire_asks held (layout_of b) q.pins h (laid b w some).range clear

    pub wire_told : (u : Wire) → AnswersIn q.mode (grid_with b.size.w b.size.h (joined (flat held))) (source q.pins) (target q.pins) (Ok u)
        → Wires (layout_of b) q (Ok (record { wire = u; blocks = first_at held held.items }))
    unfolding layout_of
    wire_told u a = wires_told held (layout_of b) q h (laid b w some).range clear u _ a (count_held h)

    pub wire_untold : (u : Untold) → AnswersIn q.mode (grid_with b.size.w b.size.h (joined (flat held))) (source q.pins) (target q.pins) (Err u)
        → (r : Result Wired Blame) → r ≡ Err (untold_of u) → Wires (layout_of b) q r
    unfolding layout_of
    wire_untold u a r e = subst (Wires (layout_of b) q) (sym e) (wires_untold held (layout_of b) q h (laid b w some).range clear u a)
