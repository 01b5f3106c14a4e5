-- Which cells more or fewer items cover, and which wires then go along a seam.
-- Assumes nothing.
use Rattle.std.specs.Prelude.{ℕ, List, [], ◌∷◌}
use Rattle.std.proofs.Math.Logic.{inl, inr}
use Rattle.std.proofs.Common.{⊎_elim}
use Rattle.paper.specs.Grid.{Node, E, N, step, level, upright, Any, All}
use Rattle.paper.specs.Layout.{Thing, wire, areas, add, Covers, Covered, beside, round, Sealed, InSeam, Seamed, Seamless}
use Rattle.paper.specs.Laws.Lists.{all_imp, any_imp}
use Rattle.paper.specs.Laws.Among.{add_nil, add_cases, all_add}

any_add : (P : Thing → Type 0) (t : Thing) (ts : List Thing) → Any P (add t ts) → Any P (t ∷ ts)
unfolding Any
any_add P t [] h = rw (add_nil t) at h
any_add P t (u ∷ us) h =
    ⊎_elim (λ c. ⊎_elim (λ p. inr (inl p)) (λ k. ⊎_elim inl (λ q. inr (inr q)) (any_add P t us k)) (rw c.1 at h)) (λ c. rw c.1 at h) (add_cases t u us)

-- what goes along a seam does so beside items that cover more
module _ (ts us : List Thing) (more : (q : Node) → Covered ts q → Covered us q) where
  pub seamed_more : (t : Thing) → Seamed ts t → Seamed us t
  unfolding Seamed InSeam Sealed
  seamed_more t s = (s.0, any_imp _ _ (λ r h. (h.0, h.1, h.2, all_imp _ _ more (beside h.0 h.1) h.3)) (areas t) s.1)

  pub seamless_fewer : (vs : List Thing) → All (λ t. ¬ (Seamed us t)) vs → All (λ t. ¬ (Seamed ts t)) vs
  seamless_fewer vs a = all_imp _ _ (λ t n s. n (seamed_more t s)) vs a

pub seamless_add : (t : Thing) (ts : List Thing) → Seamless (t ∷ ts) → Seamless (add t ts)
unfolding Covered All
seamless_add t ts a = seamless_fewer (add t ts) (t ∷ ts) (λ q. any_add (λ u. Covers u q) t ts) (add t ts) (all_add (λ u. ¬ (Seamed (t ∷ ts) u)) t ts a.0 a.1)

-- a wire covers nothing
pub wire_covers : (i : ℕ) (ps : List Node) (ts : List Thing) (q : Node) → Covered (wire i ps ∷ ts) q → Covered ts q
unfolding Covered Covers Any
wire_covers i ps ts q (inl h) = absurd h
wire_covers i ps ts q (inr h) = h

-- at a node in the midst of four such cells no edge is open, neither those from it nor those that lead to it
pub sunk_shut : (ts : List Thing) (p : Node) → (Sealed ts (round p) → Sealed ts (beside level p) × Sealed ts (beside upright p))
    × (Sealed ts (round (step E p)) → Sealed ts (beside level p)) × (Sealed ts (round (step N p)) → Sealed ts (beside upright p))
unfolding Sealed All step
sunk_shut ts p = (
  λ h. ((h.1.0, (h.1.1.1.0, tt)), (h.1.1.0, (h.1.1.1.0, tt))),
  λ h. (h.0, (h.1.1.0, tt)),
  λ h. (h.0, (h.1.0, tt)),
)
