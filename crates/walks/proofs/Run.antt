-- A run from a crossing to the next, step by step: if at its start every earlier direction costs more, it does so at each of its nodes.
-- The definitions and lemmas under it stand in specs/Run.
use Prim.Native.Nat.{ℕ, zero, suc, pred, ◌+◌, ◌≤◌, ◌<◌}
use Rattle.std.proofs.Common.{arith, subst₂, ◌∙◌}
use Rattle.std.specs.Prelude.{◌≡◌, List, ◌∷◌, ◌++◌, replicate}
use Rattle.std.proofs.Math.Path.{ap}
use Rattle.std.proofs.Math.ListN.{length, length-append, length-replicate}
use Rattle.paper.specs.Grid.{Node, Dir, rank, step, Axis, Grid, Free}
use Rattle.paper.specs.Wire.{Legal}
use Rattle.paper.specs.Layout.{across}
use Rattle.paper.specs.Laws.Steps.{axis_of}
use Rattle.walks.specs.Axes.{coord, place, coord_place, Sense, up, down, sense_of, Further, lower, next, keeps, lands, EdgeAt, free}
use Rattle.walks.specs.Tracks.{Tracks, InSlab}
use Rattle.walks.specs.Crossings.{Crossing, spot, place_spot, crossings, far, Sliced}
use Rattle.walks.specs.Ways.{way_edge, way_of, way_free}
use Rattle.walks.specs.Turns.{Came, by, fee_none, bend, bends}
use Rattle.walks.specs.Cost.{Dearer, dearer_than, Firm}
use Rattle.walks.specs.Aside.{Inward, Inner}
use Rattle.walks.proofs.Aside.{pass}
use Rattle.walks.specs.Run.{Lane, bends_on, last, more}

-- ---- on one axis, through slab z

-- the track where a way through it ends
abbrev finish : Tracks → Sense → ℕ → ℕ
finish U up z = U.track (suc z)
finish U down z = U.track z

-- u is in it or on one of its tracks, k steps before that end
abbrev Before : Tracks → Sense → ℕ → ℕ → ℕ → Type 0
Before U s z k u = (U.track z ≤ u) × (u ≤ U.track (suc z)) × Further s k u (finish U s z)

-- at the end; and from track i to the next, j, at the start
ended : (U : Tracks) (s : Sense) (z u : ℕ) → Before U s z 0 u → u ≡ finish U s z
ended U up z u h = let e : u ≡ U.track (suc z) = omega arith in e
ended U down z u h = let e : u ≡ U.track z = omega arith in e

started : (U : Tracks) (s : Sense) (i j w : ℕ) → Further s 1 i j → Further s w (U.track i) (U.track j)
    → Before U s (lower s i j) w (U.track i) × (finish U s (lower s i j) ≡ U.track j)
started U up i j w h k = let e : U.track (suc i) ≡ U.track j = ap U.track (omega arith) in omega arith
started U down i j w h k = let e : U.track (suc j) ≡ U.track i = ap U.track (omega arith) in omega arith

-- before the end there is a next step, in the slab; and if it is not the last, it ends strictly inside
one_on : (U : Tracks) (s : Sense) (z k u : ℕ) → Before U s z (suc k) u → Further s 1 u (next s u)
one_on U up z k u h = let e : u + 1 ≡ suc u = omega arith in e
one_on U down z k u h = let e : pred u + 1 ≡ u = omega arith in e

before_next : (U : Tracks) (s : Sense) (z k u v : ℕ) → Further s 1 u v → z < U.last → Before U s z (suc k) u
    → InSlab U z (lower s u v) × Before U s z k v
before_next U up z k u v e p h = omega arith
before_next U down z k u v e p h = omega arith

between : (U : Tracks) (s : Sense) (z k u v : ℕ) → Further s 1 u v → Before U s z (suc (suc k)) u → (U.track z < v) × (v < U.track (suc z))
between U up z k u v e h = omega arith
between U down z k u v e h = omega arith

inward : (U : Tracks) (s : Sense) (z k u : ℕ) → z < U.last → Before U s z (suc (suc k)) u → Inward U s u
inward U s z k u p h =
    let o = one_on U s z (suc k) u h in
    let b = between U s z k u (next s u) o h in
    (o, record { z = z; some = p; from = h.0; to = h.1; above = b.0; below = b.1 })

-- ---- a way as a lane

module _ {G : Grid} {T : Axis → Tracks} (sliced : Sliced G T) where
  module _ (d : Dir) (z j : ℕ) (f : EdgeAt (crossings T G) (axis_of d) z j) where
    abbrev U : Tracks
    U = T (axis_of d)

    abbrev s : Sense
    s = sense_of d

    -- the node of the way at u
    abbrev node : ℕ → Node
    node u = place (axis_of d) u ((T (across (axis_of d))).track j)

    some_slab : z < U.last
    some_slab = ((way_edge G T (axis_of d) z j).0 f).0

    -- a step of it is free
    a_step : (k u : ℕ) → Before U s z (suc k) u → Free G (node u) d × (step d (node u) ≡ node (next s u)) × Before U s z k (next s u)
    a_step k u h =
        let o = one_on U s z k u h in
        let b = before_next U s z k u (next s u) o some_slab h in
        let f = free G d u (next s u) _ (record { one = o; edge = way_free sliced (axis_of d) (lower s u (next s u)) z j b.0 f }) in
        (f, lands d u (next s u) _ o, b.1)

    through : (k u : ℕ) → 0 < k → Before U s z k u → Lane G T d (node (finish U s z)) k (node u)
    unfolding Inner
    through zero u n h = absurd (omega arith)
    through (suc zero) u n h = let r = a_step zero u h in last r.0 (r.1 ∙ ap node (ended U s z _ r.2))
    through (suc (suc k)) u n h =
        let r = a_step (suc k) u h in
        more {k = suc k} r.0 (rw (coord_place (axis_of d) u _).0 (inward U s z k u some_slab h))
        (rw r.1 (through (suc k) (next s u) (omega arith) r.2))

  pub lane : (d : Dir) (q : Node) → Free (crossings T G) q d → Lane G T d (spot T (step d q)) (far T d q) (spot T q)
  lane d q f =
      let a = axis_of d in
      let j = coord (across a) q in
      let x = way_of sliced d q f in
      let b = started (T a) (sense_of d) (coord a q) (coord a (step d q)) (far T d q) x.0.hop.one x.0.long in
      let e = ap (λ u. place a u ((T (across a)).track j)) b.1 ∙ (rw (keeps d q) at (place_spot T a (step d q))) in
      subst₂ (λ t p. Lane G T d t (far T d q) p) e (place_spot T a q) (through d _ j x.0.hop.edge (far T d q) _ x.1 b.0)

  -- ---- a run, and then the rest of a wire

  module _ (g : Node) (on : Crossing T g) (τ : ℕ) (d : Dir) (q : Node) (rest : List Dir)
      (legal : Legal G q (spot T g) rest) (firm : Firm τ G (spot T g) (by (axis_of d)) q rest) where
    pub run : (m : Came) (k : ℕ) (p : Node) (c : ℕ) → Lane G T d q k p → bend τ m (axis_of d) + bends τ (by (axis_of d)) rest ≤ c
        → ((v : List Dir) → Legal G p (spot T g) v → k + length rest ≤ length v)
        → ((e : Dir) → rank e < rank d → Dearer τ G (spot T g) m p e (k + length rest) c)
        → Legal G p (spot T g) (replicate k d ++ rest) × Firm τ G (spot T g) m p (replicate k d ++ rest)
    unfolding Legal Firm
    run m k p c (last f x) n least dear =
        ((f, rw x legal), (λ e r. dearer_than τ G (spot T g) m p e (1 + length rest) _ c _ (omega arith) n (dear e r), rw x firm))
    run m k p c (more {p = p'} {k = k'} f i lane) n least dear =
        let long : length (replicate k' d ++ rest) ≡ k' + length rest = omega (arith, length-append (replicate k' d) rest, length-replicate k' d) in
        let later = run (by (axis_of d)) k' (step d p) c lane (omega (arith, fee_none τ (axis_of d)))
        (λ v l. omega (arith, least (d ∷ v) (f, l)))
        (λ e r. pass sliced g on τ m d e p (k' + length rest) c i r (λ v l. omega (arith, least v l))
        (dearer_than τ G (spot T g) m p e _ _ c c (omega arith) (omega arith) (dear e r))) in
        ((f, later.0), (λ e r. dearer_than τ G (spot T g) m p e _ _ c _ (omega arith) (omega (arith, bends_on τ d k' rest)) (dear e r), later.1))
