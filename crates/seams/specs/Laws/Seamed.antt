-- A place along a seam, as the arrays and as the things have it.
-- Assumes nothing.
use Rattle.std.specs.Prelude.{ℕ, ◌<◌, ◌≡◌, refl, ◌⊎◌, take}
use native.Mathlib.Omega.{arith}
use Rattle.std.proofs.Math.Path.{sym, subst₂}
use Rattle.std.proofs.Common.{subst, ◌∙◌}
use Rattle.std.proofs.Math.Logic.{inl, inr, ⊎_elim}
use mathlib.Core.List.{List, [], ◌∷◌}
use Rattle.std.proofs.Math.ListN.{length}
use Rattle.std.proofs.Math.Seq.{get_or-take, length-take-le}
use Rattle.paper.specs.declared.Size.{Size}
use Rattle.paper.specs.Grid.{Axis, Any, All, Blocked}
use Rattle.paper.specs.Layout.{Thing, keep_out, wire, Sort, keep_outs, wires, areas, blocks_of, Along, ThingFits, InSeam, Layout}
use Rattle.paper.specs.Answer.{Bars as ItemBars}
use Rattle.paper.specs.Laws.Apart.{blocked_right}
use Rattle.paper.specs.Laws.Lists.{any_split}
use Rattle.paper.specs.Laws.Standing.{no_thing, thing_at}
use Rattle.paper.specs.Laws.Joins.{join_of, joins}
use Rattle.paper.specs.Laws.Seams.{solid}
use Rattle.paper.proofs.Seams.{seam_in, seam_out}
use Rattle.paper.specs.Laws.Closing.{box, Barring, Bars, joins_at, at_joins}
use Rattle.blocks.specs.declared.Blocks.{Blocks}
use Rattle.blocks.specs.declared.Place.{Place}
use Rattle.blocks.specs.Flat.{place_area, Held}
use Rattle.seams.specs.Seaming.{kept_at, SeamAt, SeamOf}
use Rattle.seams.specs.Laws.Closing.{solid_at, at_solid, count_of, not_a_wire, block_is, kept_is}

module _ {b : Blocks} {c : ℕ} {to : Sort} {ts : List Thing} (held : Held b c to ts) (p : Place) where
  pairs_out : SeamOf b p → Blocked (joins (solid ts)) (place_area p)
  unfolding SeamAt Bars Barring
  pairs_out h =
      let m = h.0 in
      let l = h.2.0 in
      let hm : m < length ts = omega (arith, h.1, count_of held) in
      let hl : l < length ts = omega (arith, h.2.1) in
      let km = kept_is held m hm h.2.2.1 in
      let kl = kept_is held l hl h.2.2.0 in
      at_joins (place_area p) ts m hm
      (subst (λ t. Bars t (solid (take m ts)) (place_area p)) (sym km.thing)
      (solid_at (λ q. Blocked (join_of q (box km.rect)) (place_area p)) (take m ts) l (kept_at b l)
      (omega (arith, h.2.1, length-take-le m ts (omega arith)))
      (record { id = kl.id; rect = kl.rect; thing = get_or-take m ts l no_thing h.2.1 ∙ kl.thing; same = kl.same })
      (subst (λ k. Blocked (join_of (kept_at b l) k) (place_area p)) km.same h.2.2.2)))

  pair_in : (m : ℕ) → m < length ts → (t : Thing) → thing_at ts m ≡ t → Bars t (solid (take m ts)) (place_area p) → SeamOf b p
  unfolding SeamAt Bars Barring
  pair_in m hm (keep_out j r) e k =
      let w = at_solid (λ q. Blocked (join_of q (box r)) (place_area p)) (take m ts) k in
      let l : w.0 < m = omega (arith, w.3, length-take-le m ts (omega arith)) in
      let hl : w.0 < length ts = omega arith in
      let t : thing_at ts w.0 ≡ keep_out w.1 w.2 = sym (get_or-take m ts w.0 no_thing l) ∙ w.4 in
      let hit = subst₂ (λ x y. Blocked (join_of x y) (place_area p)) (sym (block_is held w.0 w.1 w.2 hl t).0) (sym (block_is held m j r hm e).0) w.5 in
      (m, omega (arith, hm, count_of held), (w.0, l, (not_a_wire held w.0 w.1 w.2 t, not_a_wire held m j r e, hit)))
  pair_in m hm (wire j ps) e k = absurd k

  pairs_in : Blocked (joins (solid ts)) (place_area p) → SeamOf b p
  pairs_in h = let u = joins_at (place_area p) ts h in pair_in u.0 u.1 (thing_at ts u.0) refl u.2

  -- what a keep-out blocks, it blocks as an item
  solid_bars : (l : Layout) (us : List Thing) → Blocked (solid us) (place_area p) → Any (ItemBars l wires keep_outs (place_area p)) us
  unfolding Blocked Any solid ItemBars blocks_of areas
  solid_bars l [] h = h
  solid_bars l (keep_out i r ∷ us) (inl h) = inl (refl, inl h)
  solid_bars l (keep_out i r ∷ us) (inr h) = inr (solid_bars l us h)
  solid_bars l (wire i ps ∷ us) h = inr (solid_bars l us h)

  -- a run along a seam goes through a keep-out or across a rectangle of two; what goes across one is along a seam
  pub in_seam : (l : Layout) → InSeam ts (place_area p) → Any (ItemBars l wires keep_outs (place_area p)) ts ⊎ SeamOf b p
  unfolding Blocked
  in_seam l h = ⊎_elim (λ k. inl (solid_bars l ts k)) (λ k. inr (pairs_in k)) (any_split _ (solid ts) (joins (solid ts)) (seam_in ts (place_area p) h))

  pub seam_of : (z : Size) (a : Axis) → All (ThingFits z) ts → Along a (place_area p) → SeamOf b p → InSeam ts (place_area p)
  seam_of z a f l h = seam_out ts (place_area p) z a f l (blocked_right (solid ts) (joins (solid ts)) (place_area p) (pairs_out h))
