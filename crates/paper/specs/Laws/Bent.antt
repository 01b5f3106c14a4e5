-- The shape of drawn runs: none is refused just where each goes along an axis and across the one before.
-- Assumes nothing.
use Rattle.std.specs.Prelude.{ℕ, suc, Bool, true, false, ◌⊎◌, List, [], ◌∷◌}
use Rattle.std.proofs.Common.{arith, inl, inr}
use Rattle.paper.specs.Grid.{Axis, level, upright, Area}
use Rattle.paper.specs.Layout.{Along, across}
use Rattle.paper.specs.Drawn.{Bent, Unturned, shape_checks}
use Rattle.paper.specs.Laws.Checks.{Coded, Clear}
use Rattle.paper.specs.Laws.Says.{Says}
use Rattle.paper.specs.Laws.Tests.{alongb, along_says}

pub straight_or : (r : Area) → ¬ (Bent r) → Along level r ⊎ Along upright r
straight_or r n = go (alongb level r) (alongb upright r) (along_says level r) (along_says upright r)
  where
    go : (a b : Bool) → Says a (Along level r) → Says b (Along upright r) → Along level r ⊎ Along upright r
    go true b p q = inl (p.fact tt)
    go false true p q = inr (q.fact tt)
    go false false p q = absurd (n (p.test, q.test))

pub not_both : (r : Area) → Along level r → Along upright r → ⊥
unfolding Along
not_both r a b = omega arith

pub straight_not_bent : (a : Axis) (r : Area) → Along a r → ¬ (Bent r)
straight_not_bent level r h b = b.0 h
straight_not_bent upright r h b = b.1 h

pub across_turned : (a : Axis) (q r : Area) → Along a q → Along (across a) r → ¬ (Unturned q r)
across_turned level q r h k (inl u) = not_both r u.1 k
across_turned level q r h k (inr u) = not_both q h u.0
across_turned upright q r h k (inl u) = not_both q u.0 h
across_turned upright q r h k (inr u) = not_both r k u.1

pub shape_coded : (k : ℕ) (rs : List Area) → Coded (shape_checks k rs)
unfolding Coded shape_checks
shape_coded k [] = tt
shape_coded k (r ∷ []) = omega arith
shape_coded k (q ∷ r ∷ rs) = (omega arith, (omega arith, shape_coded (suc k) (r ∷ rs)))

pub first_straight : (k : ℕ) (r : Area) (rs : List Area) → Clear (shape_checks k (r ∷ rs)) → ¬ (Bent r)
unfolding Clear shape_checks
first_straight k r [] c = c.0
first_straight k r (q ∷ rs) c = c.0
