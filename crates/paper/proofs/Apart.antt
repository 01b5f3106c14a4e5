-- Items that stand together: the relation has no direction, and a free place stays free beside fewer items.
-- The definitions and lemmas under it stand in specs/Laws/Apart.
use Rattle.std.specs.Prelude.{ℕ, ◌≡◌, refl, ◌⊎◌}
use Rattle.std.proofs.Common.{arith, subst}
use Rattle.std.proofs.Math.Logic.{inl, inr, ⊎_elim}
use mathlib.Core.List.{List, [], ◌∷◌}
use Rattle.paper.specs.declared.Rect.{Rect}
use Rattle.paper.specs.Grid.{Node, Area, Meets, widened, Hits, Any, All, Blocked}
use Rattle.paper.specs.Wire.{runs}
use Rattle.paper.specs.Layout.{Thing, keep_out, wire, Sort, keep_outs, wires, sort_of, rectangle, areas, distance, blocks_of, blocks_to, Meet, Apart, Layout}
use Rattle.paper.specs.Answer.{Bars, Enters}
use Rattle.paper.specs.Laws.Lists.{any_imp, any_image, any_back, any_flip, all_none, none_all}
use Rattle.paper.specs.Laws.Apart.{blocked_left, blocked_right}

-- ---- no direction

hits_turn : (c : ℕ) (a b : Area) → Hits (widened c a) b → Hits (widened c b) a
unfolding Hits Meets
hits_turn c a b h = omega arith

distance_turn : (c : ℕ) (s t : Sort) → distance c s t ≡ distance c t s
distance_turn c keep_outs keep_outs = refl
distance_turn c keep_outs wires = refl
distance_turn c wires keep_outs = refl
distance_turn c wires wires = refl

-- some place of u comes nearer than d to some place of t
Close : ℕ → Thing → Thing → Type 0
Close d t u = Any (λ b. Any (λ a. Hits (widened d a) b) (areas t)) (areas u)

meet_close : (c : ℕ) (t u : Thing) → Meet c t u → Close (distance c (sort_of u) (sort_of t)) t u
unfolding Meet Close Blocked blocks_of
meet_close c t u m = any_imp _ _ (λ b h. any_back (λ k. Hits k b) (widened (distance c (sort_of u) (sort_of t))) (areas t) h) (areas u) m

close_meet : (c : ℕ) (t u : Thing) → Close (distance c (sort_of u) (sort_of t)) t u → Meet c t u
unfolding Meet Close Blocked blocks_of
close_meet c t u m = any_imp _ _ (λ b h. any_image (λ k. Hits k b) (widened (distance c (sort_of u) (sort_of t))) (areas t) h) (areas u) m

close_turn : (d : ℕ) (t u : Thing) → Close d t u → Close d u t
unfolding Close
close_turn d t u m =
    any_imp _ _ (λ a h. any_imp _ _ (λ b k. hits_turn d a b k) (areas u) h) (areas t)
    (any_flip (λ b a. Hits (widened d a) b) (areas u) (areas t) m)

pub meet_turn : (c : ℕ) (t u : Thing) → Meet c t u → Meet c u t
meet_turn c t u m =
    close_meet c u t (subst (λ d. Close d u t) (distance_turn c (sort_of u) (sort_of t)) (close_turn _ t u (meet_close c t u m)))

pub apart_turn : (c : ℕ) (t u : Thing) → Apart c t u → Apart c u t
apart_turn c t u a m = a (meet_turn c u t m)

-- ---- a new item is apart from each of the others

module _ (c i : ℕ) (ps : List Node) where
  hit_by : (t : Thing) → Meet c (wire i ps) t → Any (Blocked (blocks_of c wires t)) (runs ps)
  unfolding Meet areas
  hit_by t m = meet_turn c (wire i ps) t m

  hit_by_all : (ts : List Thing) → Any (Meet c (wire i ps)) ts → Any (Blocked (blocks_to c wires ts)) (runs ps)
  unfolding Any blocks_to
  hit_by_all [] m = absurd m
  hit_by_all (t ∷ ts) (inl m) = any_imp _ _ (λ r h. blocked_left (blocks_of c wires t) (blocks_to c wires ts) r h) (runs ps) (hit_by t m)
  hit_by_all (t ∷ ts) (inr m) = any_imp _ _ (λ r h. blocked_right (blocks_of c wires t) (blocks_to c wires ts) r h) (runs ps) (hit_by_all ts m)

  -- a wire whose runs are clear of all the items' blocks
  pub wire_apart : (ts : List Thing) → All (λ r. ¬ (Blocked (blocks_to c wires ts) r)) (runs ps) → All (Apart c (wire i ps)) ts
  wire_apart ts a = none_all (Meet c (wire i ps)) ts (λ m. all_none (Blocked (blocks_to c wires ts)) (runs ps) a (hit_by_all ts m))

module _ (c i : ℕ) (r : Rect) where
  By : Sort → Thing → Type 0
  By s t = (sort_of t ≡ s) × Blocked (blocks_of c keep_outs t) (rectangle r)

  entered : (t : Thing) → Meet c (keep_out i r) t → Blocked (blocks_of c keep_outs t) (rectangle r)
  unfolding Meet areas Any
  entered t m = ⊎_elim (λ h. h) (λ h. absurd h) (meet_turn c (keep_out i r) t m)

  sorted : (t : Thing) → Meet c (keep_out i r) t → By keep_outs t ⊎ By wires t
  unfolding By
  sorted (keep_out j q) m = inl (refl, entered (keep_out j q) m)
  sorted (wire j ps) m = inr (refl, entered (wire j ps) m)

  some_sorted : (ts : List Thing) → Any (Meet c (keep_out i r)) ts → Any (By keep_outs) ts ⊎ Any (By wires) ts
  unfolding Any
  some_sorted [] m = absurd m
  some_sorted (t ∷ ts) (inl m) = ⊎_elim (λ k. inl (inl k)) (λ k. inr (inl k)) (sorted t m)
  some_sorted (t ∷ ts) (inr m) = ⊎_elim (λ k. inl (inr k)) (λ k. inr (inr k)) (some_sorted ts m)

-- a rectangle that enters no item, of either sort
pub keep_out_apart : (l : Layout) (i : ℕ) (r : Rect) → ¬ (Enters l r keep_outs) → ¬ (Enters l r wires)
    → All (Apart l.size.clearance (keep_out i r)) l.items
unfolding Bars By
keep_out_apart l i r k w =
    none_all (Meet l.size.clearance (keep_out i r)) l.items (λ m. ⊎_elim k w (some_sorted l.size.clearance i r l.items m))
