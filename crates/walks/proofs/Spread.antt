-- From the crossings to the whole grid: a potential on the crossings, of steps and of turns, gives one on every node.
-- The definitions and lemmas under it stand in specs/Spread.
use Prim.Native.Nat.{ℕ, suc, ◌+◌, ◌-◌, ◌≤◌, ◌<◌}
use Rattle.std.proofs.Common.{arith}
use Rattle.std.specs.Prelude.{◌≡◌}
use Rattle.std.proofs.Math.Path.{subst}
use Rattle.paper.specs.Grid.{Node, Dir, step, Axis, level, Grid, Free}
use Rattle.paper.specs.Wire.{Legal}
use Rattle.paper.specs.Laws.Steps.{axis_of}
use Rattle.walks.specs.Tracks.{Tracks}
use Rattle.walks.specs.Crossings.{Crossing, spot, crossings, far, Sliced}
use Rattle.walks.specs.Cells.{Corner, corner_crossing, corner_own, corner_only, From, corner, way}
use Rattle.walks.proofs.Cells.{from}
use Rattle.walks.specs.Turns.{Came, fresh, by, fee, bend, fee_none}
use Rattle.walks.specs.Cost.{bound, AtLeast, Dearer}
use Rattle.walks.specs.Spread.{On, OnCrossings, on_map}

module _ {τ : ℕ} {G : Grid} {T : Axis → Tracks} {L : Axis → ℕ → Node → ℕ → Type 0} (sliced : Sliced G T) (given : OnCrossings τ G T L) where
  -- the same from the node p: by way of each corner of its cell
  Spread : Axis → ℕ → Node → ℕ → Type 0
  Spread a c p k = (q : Node) (g l : ℕ) → Corner T level p q g → l + g ≤ k → L a c q l

  -- a unit step changes it by one at the most
  along : (d : Dir) (p : Node) → Free G p d → (c k : ℕ) → Spread (axis_of d) c p (suc k) → Spread (axis_of d) c (step d p) k
  unfolding Spread
  along d p f c k s q g l x e = go (from sliced d p q g f x)
    where
      go : From G T d p q g → L (axis_of d) c q l
      go (corner {h = h} y n o) = s q h l y (omega arith)
      go (way {r = r} {h = h} y w z n) =
          subst (λ t. L (axis_of d) c t l) z (given.along d r w c (l + far T d r) l (omega arith) (s r h (l + far T d r) y (omega arith)))

  -- and a turn by what it costs
  turning : (a b : Axis) (c c' : ℕ) (p : Node) (k : ℕ) → c' ≤ c - fee τ a b → Spread a c p k → Spread b c' p k
  unfolding Spread
  turning a b c c' p k n s q g l x e = given.turning a b c c' q l (corner_crossing x) n (s q g l x e)

  onto : (m : Came) (b : Axis) (c : ℕ) (p : Node) (k : ℕ) → On m (λ a. Spread a c p k) → Spread b (c - bend τ m b) p k
  unfolding On
  onto fresh b c p k s = turning b b c (c - 0) p k (omega (arith, fee_none τ b)) (s b)
  onto (by a) b c p k s = turning a b c (c - fee τ a b) p k (omega arith) s

  -- at a crossing it is what it is there
  here : (a : Axis) (c : ℕ) (q : Node) (k : ℕ) → Crossing T q → ((l : ℕ) → l ≤ k → L a c q l) → Spread a c (spot T q) k
  unfolding Spread
  here a c q k i h r g l x e = rw (corner_only sliced q r g i x).0 (h l (omega arith))

  -- a step from a crossing in a direction that was refused there
  beyond : (d : Dir) (c : ℕ) (q : Node) (k : ℕ) → Crossing T q → ((l : ℕ) → l < k → L (axis_of d) c q l)
      → (Free (crossings T G) q d → (l : ℕ) → l + far T d q ≤ suc k → L (axis_of d) c (step d q) l)
      → Free G (spot T q) d → Spread (axis_of d) c (step d (spot T q)) k
  unfolding Spread
  beyond d c q k i near refused f r g l x e = go (from sliced d (spot T q) r g f x)
    where
      go : From G T d (spot T q) r g → L (axis_of d) c r l
      go (corner y n o) = let t = corner_only sliced q r _ i y in rw t.0 (near l (omega (arith, t.1)))
      go (way {r = p} {h = h} y w z n) =
          let t = corner_only sliced q p h i y in
          let n' = rw t.0 at n in
          subst (λ p. L (axis_of d) c p l) (rw t.0 at z) (refused (rw t.0 at w) l (omega arith))

  -- ---- what follows for the wires to a crossing g

  module _ (g : Node) (on : Crossing T g) (target : (a : Axis) (c k : ℕ) → L a c g k → (k ≡ 0) × (c ≡ 0)) where
    at_target : (m : Came) (c k : ℕ) → On m (λ a. Spread a c (spot T g) k) → (k ≡ 0) × (c ≡ 0)
    unfolding On Spread
    at_target fresh c k s = target level c k (s level g 0 k (corner_own T g on) (omega arith))
    at_target (by a) c k s = target a c k (s g 0 k (corner_own T g on) (omega arith))

    below : (m : Came) (c : ℕ) (p : Node) (k : ℕ) → On m (λ a. Spread a c p k) → AtLeast τ G (spot T g) m p k c
    below =
        bound τ G (spot T g) (λ m c p k. On m (λ a. Spread a c p k)) (record {
          target = at_target;
          along = λ m c p k d f s. unfold On in along d p f (c - bend τ m (axis_of d)) k (onto m (axis_of d) c p (suc k) s);
        })

    -- no wire costs less than is left at a crossing
    pub least : (m : Came) (c : ℕ) (q : Node) (k : ℕ) → Crossing T q → On m (λ a. (l : ℕ) → l ≤ k → L a c q l)
        → AtLeast τ G (spot T g) m (spot T q) k c
    least m c q k i h = below m c (spot T q) k (on_map m _ _ (λ a. here a c q k i) h)

    -- A direction that was refused at a crossing, since a way in it costs more than the k + 1 steps with c for turns that are left, costs more
    -- on the whole grid.
    pub dearer : (m : Came) (c : ℕ) (q : Node) (k : ℕ) (e : Dir) → Crossing T q
        → ((l : ℕ) → l < k → L (axis_of e) (suc c - bend τ m (axis_of e)) q l)
        → (Free (crossings T G) q e → (l : ℕ) → l + far T e q ≤ suc k → L (axis_of e) (suc c - bend τ m (axis_of e)) (step e q) l)
        → Dearer τ G (spot T g) m (spot T q) e (suc k) c
    unfolding Legal On
    dearer m c q k e i near refused v l =
        let rest = suc c - bend τ m (axis_of e) in
        let r = below (by (axis_of e)) rest (step e (spot T q)) k (beyond e rest q k i near refused l.0) v l.1 in
        (omega (arith, r.0), λ z. omega (arith, r.1 (omega arith)))
