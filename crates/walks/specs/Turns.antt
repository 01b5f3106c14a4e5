-- What a wire costs: its steps, and of wires as long as each other τ for each turn. Where τ is 0 the best wire is the answered one.
-- Assumes nothing.
use Rattle.std.specs.Prelude.{ℕ, ◌+◌, ◌≤◌, ◌≡◌, refl, List, [], ◌∷◌, length}
use Rattle.std.proofs.Common.{arith, sym, ◌∙◌}
use Rattle.paper.specs.Grid.{Node, Dir, Axis, level, upright, Grid}
use Rattle.paper.specs.Wire.{Legal, First, Answered}
use Rattle.paper.specs.Laws.Steps.{axis_of}

-- how a wire has come to a node: it begins there, or has come along an axis
pub data Came : Type 0 where
  fresh : Came
  by : Axis → Came

-- A turn is a change of axis. To go back is none, but no shortest wire goes back (paper, Laws.Steps, `forward`).
abbrev pub fee : ℕ → Axis → Axis → ℕ
fee τ level level = 0
fee τ level upright = τ
fee τ upright level = τ
fee τ upright upright = 0

-- what it costs to go on along an axis
abbrev pub bend : ℕ → Came → Axis → ℕ
bend τ fresh b = 0
bend τ (by a) b = fee τ a b

-- what the turns of v cost
unfoldable pub bends : ℕ → Came → List Dir → ℕ
bends τ m [] = 0
bends τ m (e ∷ v) = bend τ m (axis_of e) + bends τ (by (axis_of e)) v

-- legal, no legal wire is shorter, for none as short the turns cost less, and it is the first of those that cost the same
pub record Best (τ : ℕ) (G : Grid) (s t : Node) (w : List Dir) : Type 0 where
  pub legal : Legal G s t w
  pub shortest : (v : List Dir) → Legal G s t v → length w ≤ length v
  pub straightest : (v : List Dir) → Legal G s t v → length v ≡ length w → bends τ fresh w ≤ bends τ fresh v
  pub first : (v : List Dir) → Legal G s t v → length v ≡ length w → bends τ fresh v ≡ bends τ fresh w → First w v

pub fee_most : (τ : ℕ) (a b : Axis) → fee τ a b ≤ τ
fee_most τ level level = omega arith
fee_most τ level upright = omega arith
fee_most τ upright level = omega arith
fee_most τ upright upright = omega arith

pub fee_none : (τ : ℕ) (a : Axis) → fee τ a a ≡ 0
fee_none τ level = refl
fee_none τ upright = refl

pub bend_most : (τ : ℕ) (m : Came) (b : Axis) → bend τ m b ≤ τ
bend_most τ fresh b = omega arith
bend_most τ (by a) b = fee_most τ a b

-- where turns cost nothing
bends_free : (m : Came) (v : List Dir) → bends 0 m v ≡ 0
unfolding bends
bends_free m [] = refl
bends_free m (e ∷ v) = omega (arith, bend_most 0 m (axis_of e), bends_free (by (axis_of e)) v)

pub best_answered : (G : Grid) (s t : Node) (w : List Dir) → Best 0 G s t w → Answered G s t w
best_answered G s t w b = record {
  legal = b.legal;
  shortest = b.shortest;
  first = λ v l e. b.first v l e (bends_free fresh v ∙ sym (bends_free fresh w));
}
