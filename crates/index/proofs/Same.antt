-- The derived `==` of two indexes tells whether they are equal: part by part, and arrays place by place.
-- Assumes nothing.
use Rattle.std.proofs.Common.{◌≡◌, Bool, true, false, ◌&&◌, List, nat_eq, true≢false, refl, sym, ap, subst}
use lib.Pointwise.{pointwise, pointwise_decides}
use Rattle.tracks.specs.declared.Tracks.{Tracks}
use Rattle.paper.specs.Laws.Says.{Says, said, says_as, says_and, says_eq}
use Rattle.index.specs.declared.Edges.{Edges}
use Rattle.index.specs.declared.Index.{Index}

holds : {b : Bool} {P : Type 0} → Says b P → P → b ≡ true
holds {b = true} s p = refl
holds {b = false} s p = absurd (s.test p)

decided : {b : Bool} {P : Type 0} → (b ≡ true → P) → (P → b ≡ true) → Says b P
decided {b = true} f g = record { fact = λ t. f refl; test = λ p. tt }
decided {b = false} f g = record { fact = λ t. absurd t; test = λ p. absurd (true≢false (sym (g p))) }

says_pointwise : {K : Type 0} {E : K → K → Bool} → ((x y : K) → Says (E x y) (x ≡ y)) → (xs ys : List K) → Says (pointwise E xs ys) (xs ≡ ys)
says_pointwise each xs ys = let d = pointwise_decides (λ x y. (said (each x y), holds (each x y))) xs ys in decided d.0 d.1

tracks : (a b : Tracks) → Says (pointwise nat_eq a.at b.at && nat_eq a.count b.count) (a ≡ b)
tracks a b =
    says_as (λ h k. record { at = h.0 k; count = h.1 k }) (λ e. (ap (λ t. t.at) e, ap (λ t. t.count) e))
    (says_and (says_pointwise says_eq a.at b.at) (says_eq a.count b.count))

abbrev pub edges_test : Edges → Edges → Bool
edges_test a b = nat_eq a.low b.low && nat_eq a.high b.high

edges : (a b : Edges) → Says (edges_test a b) (a ≡ b)
edges a b =
    says_as (λ h k. record { low = h.0 k; high = h.1 k }) (λ e. (ap (λ t. t.low) e, ap (λ t. t.high) e))
    (says_and (says_eq a.low b.low) (says_eq a.high b.high))

pub same_index : (a b : Index) (t : Bool)
    → t ≡ (pointwise nat_eq a.x.at b.x.at && nat_eq a.x.count b.x.count)
    && ((pointwise nat_eq a.y.at b.y.at && nat_eq a.y.count b.y.count)
    && (pointwise edges_test a.upright b.upright && pointwise edges_test a.level b.level))
    → Says t (a ≡ b)
same_index a b t e =
    subst (λ t. Says t (a ≡ b)) (sym e) (
    says_as (λ h k. record { x = h.0 k; y = h.1.0 k; upright = h.1.1.0 k; level = h.1.1.1 k })
    (λ e. (ap (λ i. i.x) e, (ap (λ i. i.y) e, (ap (λ i. i.upright) e, ap (λ i. i.level) e))))
    (says_and (tracks a.x b.x) (says_and (tracks a.y b.y) (says_and (says_pointwise edges a.upright b.upright) (says_pointwise edges a.level b.level))))
    )
