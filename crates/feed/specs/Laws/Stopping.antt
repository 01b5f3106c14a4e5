-- What stands in a keep-out's way: 7 and 8.
-- Assumes nothing.
use Rattle.std.specs.Prelude.{ℕ, ◌≡◌, refl, Bool, ◌↔◌, ◌⊎◌, ◌∷◌, take}
use native.Mathlib.Omega.{arith}
use Rattle.std.proofs.Common.{sym, take_all}
use Rattle.std.proofs.Math.Path.{subst}
use Rattle.std.proofs.Math.Logic.{inl, inr, ⊎_elim}
use Rattle.paper.specs.declared.Rect.{Rect}
use Rattle.paper.specs.Grid.{Any}
use Rattle.paper.specs.Layout.{Thing, keep_out, Sort, keep_outs, wires, rectangle, Covers, Covered, Seamed, RectFits, ThingFits, Layout, Laid}
use Rattle.paper.specs.Answer.{Bars, Enters, Closes}
use Rattle.paper.specs.Laws.Lists.{any_imp}
use Rattle.paper.specs.Laws.Says.{Says, says_as, says_always, said, said_not}
use Rattle.paper.specs.Laws.Covering.{seamed_more}
use Rattle.paper.specs.Laws.Seams.{solid}
use Rattle.paper.specs.Laws.Closing.{box, Crossed}
use Rattle.paper.proofs.Closing.{closes_iff}
use Rattle.blocks.specs.declared.Blocks.{Blocks}
use Rattle.blocks.specs.declared.Look.TheVariants.{Wires}
use Rattle.blocks.specs.Flat.{Hit, HeldOf}
use Rattle.blocks.specs.Laws.Found.{look_for, rect_place, hit_any}
use Rattle.seams.specs.Seaming.{CrossesOf, HitOr}
use Rattle.seams.specs.Laws.Closing.{count_of, crosses_out, crosses_in}

pub hit_enters : (b : Blocks) (l : Layout) → HeldOf b keep_outs l → (q : Rect) (s : Sort) (r : Bool) → Hit b (look_for s) (rect_place q) r → Says r (Enters l q s)
hit_enters b l held q s r h = hit_any l keep_outs held (rect_place q) (rectangle q) refl s r h

-- code 8
module _ (b : Blocks) (l : Layout) (held : HeldOf b keep_outs l) (L : Laid l) (i : ℕ) (q : Rect) (g : RectFits l.size q) where
  abbrev Stops : Type 0
  Stops = Enters l q wires ⊎ Closes l (keep_out i q)

  -- whatever its id
  renamed : (j k : ℕ) (t : Thing) → Seamed (keep_out j q ∷ l.items) t → Seamed (keep_out k q ∷ l.items) t
  renamed j k = seamed_more (keep_out j q ∷ l.items) (keep_out k q ∷ l.items) (λ p h. unfold Covered Covers Any in h)

  crossing_out : CrossesOf b b.items (rect_place q) → Crossed (box q) (solid l.items) l.items
  crossing_out h =
      let e : take b.items l.items ≡ l.items = take_all b.items l.items (omega (arith, count_of held)) in
      subst (λ ts. Crossed (box q) (solid ts) l.items) e (crosses_out held b.items (omega (arith, count_of held)) (rect_place q) h)

  crossing_in : Crossed (box q) (solid l.items) l.items → CrossesOf b b.items (rect_place q)
  crossing_in h =
      let e : take b.items l.items ≡ l.items = take_all b.items l.items (omega (arith, count_of held)) in
      crosses_in held b.items (omega (arith, count_of held)) (rect_place q) (subst (λ ts. Crossed (box q) (solid ts) l.items) (sym e) h)

  by_rectangles : (Enters l q wires ⊎ Crossed (box q) (solid l.items) l.items) ↔ Stops
  unfolding Bars Closes ThingFits
  by_rectangles =
      let c = closes_iff l.size l.items L.fits.two.each 1 q (omega arith, g) l.size.clearance L.fits.seamless in (
        λ h. ⊎_elim inl (λ k. inr (any_imp _ _ (renamed 1 i) l.items k)) (c.0 h),
        λ h. c.1 (⊎_elim inl (λ k. inr (any_imp _ _ (renamed i 1) l.items k)) h),
      )

  pub stopped_says : (r : Bool) → HitOr b Wires (rect_place q) (CrossesOf b b.items (rect_place q)) r → Says r Stops
  unfolding HitOr
  stopped_says r (a, h, inl k) = subst (λ r. Says r Stops) (sym k.1) (says_always (inl (said (hit_enters b l held q wires a h) k.0)))
  stopped_says r (a, h, inr k) =
      says_as (λ c. by_rectangles.0 (inr (crossing_out c)))
      (λ s. ⊎_elim (λ e. absurd (said_not (hit_enters b l held q wires a h) k.0 e)) crossing_in (by_rectangles.1 s)) k.1
