-- Today's rule, that what is blocked is not open, obeys the two slab laws where no block begins or ends strictly between neighbouring tracks.
-- The definitions and lemmas under it stand in specs/Rule.
use Rattle.std.specs.Prelude.{ℕ, suc, ◌+◌, ◌≤◌, ◌<◌, ◌≡◌, refl, ◌↔◌, List}
use Rattle.std.proofs.Math.Decide.{dec_le}
use Rattle.std.proofs.Common.{arith}
use Rattle.std.proofs.Math.Logic.{by_cases}
use Rattle.paper.specs.Grid.{step, Axis, level, upright, Grid, Span, Meets, Block, Hits, All, Blocked, edge, grid_with}
use Rattle.paper.specs.Layout.{across}
use Rattle.paper.specs.Laws.Lists.{all_imp, any_imp, all_any}
use Rattle.walks.specs.Axes.{place, side}
use Rattle.walks.specs.Tracks.{Tracks, Rising}
use Rattle.walks.specs.Crossings.{Sliced}
use Rattle.walks.specs.Rule.{BlockCut, BlockTracked, Cut, area, cut, span}

-- ---- one axis

-- The one lemma on slabs: such a span, if it meets some part of a slab, its tracks too, meets whatever reaches inside.
slab : {U : Tracks} {s : Span} → Cut U s → (i : ℕ) → i < U.last → (a b a' b' : ℕ) → U.track i ≤ a → b ≤ U.track (suc i)
    → U.track i < b' → a' < U.track (suc i) → Meets s a b → Meets s a' b'
unfolding Meets
slab {U} {s} cut i p a b a' b' h₁ h₂ h₃ h₄ m = (
  by_cases (dec_le s.lo (U.track i + s.c)) (λ q. omega arith) (λ q. absurd (omega (arith, cut.low i p (omega arith)))),
  omega (arith, cut.high i p (omega arith)),
)

-- ---- both axes

pub all_cut : (G : Grid) (T : Axis → Tracks) → ((a : Axis) → Rising (T a) (side a G)) → (bs : List Block)
    → All (BlockTracked T G) bs → All (BlockCut T) bs
all_cut G T r = all_imp (BlockTracked T G) (BlockCut T) (λ b t a. cut (r a) (t a))

edge_area : (a : Axis) (u v : ℕ) → edge a (place a u v) ≡ area a u (suc u) v v
unfolding step
edge_area level u v = refl
edge_area upright u v = refl

hits : (a : Axis) (b : Block) (u u' v v' : ℕ) → Hits b (area a u u' v v') ↔ (Meets (span a b) u u' × Meets (span (across a) b) v v')
unfolding Hits
hits level b u u' v v' = (λ h. h, λ h. h)
hits upright b u u' v v' = (λ h. (h.1, h.0), λ h. (h.1, h.0))

module _ (T : Axis → Tracks) (bs : List Block) (cuts : All (BlockCut T) bs) where
  -- every span without a side between tracks that meets the one meets the other
  abbrev Near : Axis → (u u' x x' : ℕ) → Type 0
  Near a u u' x x' = (s : Span) → Cut (T a) s → Meets s u u' → Meets s x x'

  same : (a : Axis) (u u' : ℕ) → Near a u u' u u'
  same a u u' s c m = m

  -- so what is blocked there is blocked here
  blocked_too : (a : Axis) (u u' v v' x x' y y' : ℕ) → Near a u u' x x' → Near (across a) v v' y y'
      → Blocked bs (area a u u' v v') → Blocked bs (area a x x' y y')
  unfolding Blocked
  blocked_too a u u' v v' x x' y y' f g h =
      any_imp (λ b. BlockCut T b × Hits b (area a u u' v v')) (λ b. Hits b (area a x x' y y'))
      (λ b k.
      let m = (hits a b u u' v v').0 k.1 in
      (hits a b x x' y y').1 (f (span a b) (k.0 a) m.0, g (span (across a) b) (k.0 (across a)) m.1))
      bs (all_any (BlockCut T) (λ b. Hits b (area a u u' v v')) bs cuts h)

  pub sliced : (w h : ℕ) → ((a : Axis) → Rising (T a) (side a (grid_with w h bs))) → Sliced (grid_with w h bs) T
  sliced w h r = record {
    rising = r;
    along = λ a z u u' v p q.
        rw (edge_area a u v, edge_area a u' v) λ n m.
        n (blocked_too a u' (suc u') v v u (suc u) v v
        (λ s c. slab c z p.some u' (suc u') u (suc u) q.from q.below (omega (arith, p.from)) p.below) (same (across a) v v) m);
    aside = λ a u v v' i.
        rw (edge_area a u v, edge_area a u v') λ n m.
        n (blocked_too a u (suc u) v v u (suc u) v' v' (same a u (suc u))
        (λ s c. slab c i.z i.some v v v' v' i.from i.to i.above i.below) m);
  }

  -- the whole way from a track to the next is blocked exactly if its lowest unit edge is
  pub whole : (a : Axis) (i v : ℕ) → i < (T a).last → (T a).track i < (T a).track (suc i)
      → Blocked bs (area a ((T a).track i) ((T a).track (suc i)) v v) ↔ Blocked bs (edge a (place a ((T a).track i) v))
  whole a i v p h =
      rw (edge_area a ((T a).track i) v) (
        blocked_too a _ _ v v _ _ v v (λ s c. slab c i p _ _ _ _ (omega arith) (omega arith) (omega arith) h) (same (across a) v v),
        blocked_too a _ _ v v _ _ v v (λ s c. slab c i p _ _ _ _ (omega arith) h h h) (same (across a) v v),
      )
