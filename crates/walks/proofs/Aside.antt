-- Within a run a refused direction stays refused: a step behind a node that is strictly inside a slab every wire can go alongside, at no more
-- turns. Said once over the direction.
-- The definitions and lemmas under it stand in specs/Aside.
use Prim.Native.Nat.{ℕ, suc, ◌+◌, ◌≤◌, ◌<◌}
use native.Mathlib.Omega.{arith}
use Rattle.std.specs.Prelude.{◌≡◌, refl}
use Rattle.std.proofs.Math.Path.{sym, ap, subst}
use Rattle.std.proofs.Common.{◌∙◌}
use Rattle.std.proofs.Math.Logic.{⊎_elim}
use mathlib.Core.List.{List, [], ◌∷◌}
use Rattle.std.proofs.Math.ListN.{length}
use Rattle.paper.specs.Grid.{Node, Dir, rank, step, Axis, level, upright, Grid, Free}
use Rattle.paper.specs.Wire.{Legal}
use Rattle.paper.specs.Layout.{across}
use Rattle.paper.specs.Laws.Steps.{axis_of, onward}
use Rattle.walks.specs.Axes.{coord, place_of, across_twice, same_node, Sense, up, down, sense_of, Further, lower, next, moves, keeps}
use Rattle.walks.specs.Axes.{there_and_back, hop, free}
use Rattle.walks.specs.Tracks.{Tracks, InSlab, Within, none_between}
use Rattle.walks.specs.Crossings.{Crossing, spot, coord_spot, on_track, Sliced, edge_along, edge_aside}
use Rattle.walks.specs.Turns.{Came, by, fee, fee_none, bends, bend_most}
use Rattle.walks.specs.Cost.{Upto, Dearer}
use Rattle.walks.specs.Aside.{Inner}

-- ---- two steps on different axes

steady : (e : Dir) (a : Axis) (p : Node) → across (axis_of e) ≡ a → coord a (step e p) ≡ coord a p
steady e a p x = subst (λ b. coord b (step e p) ≡ coord b p) x (keeps e p)

half : (d e : Dir) (p : Node) → across (axis_of e) ≡ axis_of d → coord (axis_of d) (step e (step d p)) ≡ coord (axis_of d) (step d (step e p))
half d e p x =
    let a = axis_of d in
    steady e a (step d p) x ∙ moves d p ∙ ap (next (sense_of d)) (sym (steady e a p x)) ∙ sym (moves d (step e p))

-- they may be taken in either order
commute : (d e : Dir) (p : Node) → axis_of e ≡ across (axis_of d) → across (axis_of e) ≡ axis_of d → step e (step d p) ≡ step d (step e p)
commute d e p x y =
    same_node (axis_of d) _ _ (half d e p y) (subst (λ b. coord b (step e (step d p)) ≡ coord b (step d (step e p))) x (sym (half e d p (sym x))))

-- and the second is a turn
fee_across : (τ : ℕ) (a b : Axis) → b ≡ across a → fee τ a b ≡ τ
fee_across τ a b x = subst (λ c. fee τ a c ≡ τ) (sym x) (turned a)
  where
    turned : (a : Axis) → fee τ a (across a) ≡ τ
    turned level = refl
    turned upright = refl

-- ---- a step that ends strictly inside a slab

-- the edge that it goes along and the one straight ahead are in that slab
in_slab : (U : Tracks) (s : Sense) (u v w : ℕ) → Further s 1 u v → Further s 1 v w → (i : Within U u v)
    → InSlab U i.z (lower s u v) × InSlab U i.z (lower s v w)
in_slab U up u v w h k i = omega arith
in_slab U down u v w h k i = omega arith

module _ {G : Grid} {T : Axis → Tracks} (sliced : Sliced G T) where
  -- so a wire that goes straight on from there may come from p,
  ahead : (d : Dir) (p : Node) → Inner T d p → Free G (step d p) d → Free G p d
  unfolding Inner
  ahead d p h f =
      let a = axis_of d in
      let u = coord a p in
      let o = rw (moves d p, keeps d p) at (hop G d (step d p) f) in
      let z = in_slab (T a) (sense_of d) u _ _ h.0 o.one h.1 in
      rw (← place_of a p) (free G d u _ _ (record { one = h.0; edge = edge_along sliced a h.1.z _ _ _ z.1 z.0 o.edge }))

  -- and one that goes on from q across may go so from p, where q is strictly inside a slab and p beside it.
  beside : (e : Dir) (p q : Node) → let b = axis_of e in coord b q ≡ coord b p → Within (T (across b)) (coord (across b) p) (coord (across b) q)
      → Free G q e → Free G p e
  beside e p q x i f =
      let b = axis_of e in
      let h = rw x at (hop G e q f) in
      rw (← place_of b p) (free G e (coord b p) _ _ (record { one = h.one; edge = edge_aside sliced b _ _ _ i h.edge }))

  -- How a direction e from the node a step after p stands to d: it goes on as d does, and d may be taken from p; or across, and e may be taken
  -- from p, and d then ends inside the slab as before; or back to p.
  data Turned (d : Dir) (p : Node) : Dir → Type 0 where
    straight : (Free G (step d p) d → Free G p d) → Turned d p d
    sideways : {e : Dir} → ((τ : ℕ) → fee τ (axis_of d) (axis_of e) ≡ τ) → (Free G (step d p) e → Free G p e) → Inner T d (step e p)
        → step e (step d p) ≡ step d (step e p) → Turned d p e
    again : {e : Dir} → step e (step d p) ≡ p → Turned d p e

  turned : (d e : Dir) (p : Node) → Inner T d p → Turned d p e
  unfolding Inner
  turned d e p h =
      let a = axis_of d in
      ⊎_elim
      (λ k. subst (Turned d p) k.0 (straight (ahead d p h)))
      (⊎_elim
      (λ k. let y : across (axis_of e) ≡ a = ap across k.0 ∙ across_twice a in
      sideways
      (λ τ. fee_across τ a (axis_of e) k.0)
      (beside e p (step d p) (rw k.0 (keeps d p)) (rw (y, moves d p) h.1))
      (rw (steady e a p y) h)
      (commute d e p k.0 y))
      (λ k. again (rw k (there_and_back d p (rw (moves d p) h.0)))))
      (onward d e)

  -- ---- wires to a crossing

  module _ (g : Node) (on : Crossing T g) (τ : ℕ) where
    abbrev goal : Node
    goal = spot T g

    -- they end on a track
    off : (d : Dir) (p : Node) → Inner T d p → step d p ≡ goal → ⊥
    unfolding Inner
    off d p h e =
        let a = axis_of d in
        let i = h.1 in
        let k : next (sense_of d) (coord a p) ≡ (T a).track (coord a g) = sym (moves d p) ∙ ap (coord a) e ∙ coord_spot T a g in
        none_between (sliced.rising a) i.z (coord a g) i.some (on_track T g on a) (omega arith) (omega arith)

    -- a wire from p that goes alongside v: at most a step longer, and if it is, with no more turns
    abbrev Alongside : Axis → Node → List Dir → Type 0
    Alongside a p v =
        (w : List Dir) × Legal G p goal w × (length w ≤ suc (length v)) × (length w ≡ suc (length v) → bends τ (by a) w ≤ bends τ (by a) v)

    alongside : (d e : Dir) (a : Axis) (p : Node) (v : List Dir) → Turned d p e → Legal G (step d p) goal (e ∷ v)
        → ((q : Node) → Inner T d q → Legal G (step d q) goal v → Alongside (axis_of e) q v) → Alongside a p (e ∷ v)
    unfolding Legal bends
    alongside d e a p v (straight f) l more = (d ∷ d ∷ v, (f l.0, l), omega arith, λ q. omega (arith, fee_none τ (axis_of d)))
    alongside d e a p v (sideways _ f i s) l more =
        let r = more (step e p) i (rw s at l.1) in
        (e ∷ r.0, (f l.0, r.1), omega (arith, r.2), λ q. omega (arith, r.3 (omega arith)))
    alongside d e a p v (again s) l more = (v, rw s at l.1, omega arith, λ q. omega arith)

    exchange : (d : Dir) (a : Axis) (p : Node) (v : List Dir) → Inner T d p → Legal G (step d p) goal v → Alongside a p v
    unfolding Legal
    exchange d a p [] h l = absurd (off d p h l)
    exchange d a p (e ∷ v) h l = alongside d e a p v (turned d e p h) l (λ q h' l'. exchange d (axis_of e) q v h' l')

    -- What costs more than a wire that goes on from p by d does so a step further.
    pub pass : (m : Came) (d e : Dir) (p : Node) (k c : ℕ) → Inner T d p → rank e < rank d
        → ((v : List Dir) → Legal G p goal v → suc k ≤ length v)
        → Dearer τ G goal m p e (suc k) c → Dearer τ G goal (by (axis_of d)) (step d p) e k c
    unfolding Legal
    pass m d e p k c h q least dear v l = go (turned d e p h) q dear l
      where
        go : {e : Dir} → Turned d p e → rank e < rank d → Dearer τ G goal m p e (suc k) c → Legal G (step d p) goal (e ∷ v)
            → Upto k (suc c) (suc (length v)) (fee τ (axis_of d) (axis_of e) + bends τ (by (axis_of e)) v)
        go (straight f) q dear l = absurd (omega arith)
        go (sideways {e = e} t f i s) q dear l =
            let r = exchange d (axis_of e) (step e p) v i (rw s at l.1) in
            let o = dear r.0 (f l.0, r.1) in (
              omega (arith, r.2, o.0),
              λ z.
                  let n : length r.0 ≡ suc (length v) = omega (arith, r.2, o.0) in
                  omega (arith, t τ, o.1 (omega arith), r.3 n, bend_most τ m (axis_of e)),
            )
        go (again s) q dear l = omega (arith, least v (rw s at l.1))
