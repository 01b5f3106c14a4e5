-- The stretches of an item as the struct holds it are its places: what two items' stretches say of the items.
-- Assumes nothing.
use Prim.Native.Nat.{ℕ, zero, suc, ◌+◌, ◌≤◌, ◌<◌}
use native.Mathlib.Omega.{arith}
use Rattle.std.proofs.Math.Nat.{add-zero}
use Rattle.std.proofs.Common.{zero-add, sym, ap, subst, subst₂, ◌∙◌}
use Rattle.std.specs.Prelude.{◌≡◌, Bool, true, false, cond, length, get_or, eqb}
use Rattle.std.proofs.Math.Path.{refl, ap₂}
use Rattle.std.proofs.Math.Logic.{inl, inr}
use mathlib.Core.List.{map}
use Rattle.std.proofs.Math.Dec.{eqb-suc-zero}
use Rattle.paper.specs.declared.Item.{Item}
use Rattle.paper.specs.declared.Size.{Size}
use Rattle.paper.specs.Limits.{most_runs}
use Rattle.paper.specs.Grid.{Area, Any, widened, Hits, Blocked}
use Rattle.paper.specs.Wire.{runs}
use Rattle.paper.specs.Layout.{Thing, keep_out, wire, Sort, keep_outs, wires, sort_of, areas, distance, blocks_of, Meet, ThingFits}
use Rattle.paper.specs.Padding.{item_of}
use Rattle.paper.specs.Laws.Back.{thing_of}
use Rattle.paper.specs.Laws.Lists.{any_image, any_back}
use Rattle.paper.specs.Laws.Says.{Says, says_as, says_always, says_never}
use Rattle.blocks.specs.Flat.{listed}
use Rattle.blocks.specs.Growing.{stretch_at, stretched}
use Rattle.blocks.specs.Meeting.{Placed, block_number, kept_from}
use Rattle.blocks.specs.Laws.Lists.{listed_is}
use Rattle.blocks.specs.Laws.Added.{runs_are, nowhere, area_at}

-- any two tests of one fact are equal
pub one_said : {a b : Bool} {P : Type 0} → Says a P → Says b P → a ≡ b
one_said {a = true} {b = true} p q = refl
one_said {a = true} {b = false} p q = absurd (q.test (p.fact tt))
one_said {a = false} {b = true} p q = absurd (p.test (q.fact tt))
one_said {a = false} {b = false} p q = refl

-- ---- a list that a function of the place gives

module _ {A : Type 0} (P : A → Type 0) (f : ℕ → A) where
  any_listed : (i n k : ℕ) → k < n → P (f (i + k)) → Any P (listed f i n)
  unfolding listed Any
  any_listed i zero k h p = absurd (omega arith)
  any_listed i (suc n) zero h p = inl (rw add-zero at p)
  any_listed i (suc n) (suc k) h p = let e : i + suc k ≡ suc i + k = omega arith in inr (any_listed (suc i) n k (omega arith) (rw e at p))

  none_listed : (i n : ℕ) → ((k : ℕ) → k < n → ¬ (P (f (i + k)))) → ¬ (Any P (listed f i n))
  unfolding listed Any
  none_listed i zero miss h = h
  none_listed i (suc n) miss (inl p) = miss 0 (omega arith) (rw add-zero p)
  none_listed i (suc n) miss (inr h) =
      none_listed (suc i) n (λ k l p. let e : i + suc k ≡ suc i + k = omega arith in miss (suc k) (omega arith) (rw e p)) h

  -- some place below n has one
  listed_said : {r : Bool} (n : ℕ) → Says r ((k : ℕ) × (k < n) × P (f k)) → Says r (Any P (listed f 0 n))
  listed_said {r = true} n s = let (k, h, p) = s.fact tt in says_always (any_listed 0 n k h (rw zero-add p))
  listed_said {r = false} n s = says_never (none_listed 0 n (λ k h p. s.test (k, h, rw zero-add at p)))

-- ---- one item's stretches against a place

pub near_said : (m : Item) (n c : ℕ) (a : Area) {r : Bool} → Says r ((k : ℕ) × (k < n) × Hits (widened c (stretch_at m k)) a)
    → Says r (Blocked (stretched m n c) a)
unfolding Blocked
near_said m n c a s =
    says_as (any_image (λ b. Hits b a) (widened c) _) (any_back (λ b. Hits b a) (widened c) _)
    (listed_said (λ r. Hits (widened c r) a) (stretch_at m) n s)

-- ---- an item, by its runs

-- a number that is not zero
one_or : (n : ℕ) → 1 ≤ n → block_number n ≡ n
one_or zero h = absurd (omega arith)
one_or (suc n) h = ap (λ b. cond b 1 (suc n)) (eqb-suc-zero n)

number_of : (s : Size) (t : Thing) → ThingFits s t → block_number (item_of t).runs ≡ length (areas t)
unfolding ThingFits areas
number_of s (keep_out i r) f = unfold item_of in refl
number_of s (wire i ps) f = ap block_number (runs_are i ps) ∙ one_or (length (runs ps)) f.1.some

few_of : (s : Size) (t : Thing) → ThingFits s t → length (areas t) ≤ most_runs
unfolding ThingFits areas
few_of s (keep_out i r) f = omega arith
few_of s (wire i ps) f = f.1.few

module _ (m : Item) (p : Placed m) where
  pub number_is : block_number m.runs ≡ length (areas (thing_of m))
  number_is = ap (λ m. block_number m.runs) p.whole ∙ number_of p.size (thing_of m) p.fits

  pub number_few : block_number m.runs ≤ most_runs
  number_few = subst (λ n. n ≤ most_runs) (sym number_is) (few_of p.size (thing_of m) p.fits)

  stretch_is : (k : ℕ) → k < length (areas (thing_of m)) → stretch_at m (0 + k) ≡ get_or (areas (thing_of m)) k nowhere
  stretch_is k h = ap (stretch_at m) (zero-add k) ∙ ap (λ m. stretch_at m k) p.whole ∙ area_at p.size (thing_of m) p.fits k h

  areas_are : listed (stretch_at m) 0 (block_number m.runs) ≡ areas (thing_of m)
  areas_are = ap (listed (stretch_at m) 0) number_is ∙ listed_is (stretch_at m) nowhere 0 (areas (thing_of m)) stretch_is

-- ---- two items

abbrev sort_for : Bool → Sort
sort_for b = cond b keep_outs wires

sort_of_lem : (b : Bool) (t u : Thing) → sort_of t ≡ keep_outs → sort_of u ≡ wires → sort_of (cond b t u) ≡ sort_for b
sort_of_lem true t u p q = p
sort_of_lem false t u p q = q

sort_is : (m : Item) → sort_of (thing_of m) ≡ sort_for (eqb m.runs 0)
unfolding thing_of
sort_is m = sort_of_lem (eqb m.runs 0) _ _ refl refl

distance_for : (a b : Bool) (c : ℕ) → cond a 0 (cond b 0 c) ≡ distance c (sort_for b) (sort_for a)
distance_for true true c = refl
distance_for true false c = refl
distance_for false true c = refl
distance_for false false c = refl

distance_is : (t u : Item) (c : ℕ) → kept_from t.runs u.runs c ≡ distance c (sort_of (thing_of u)) (sort_of (thing_of t))
distance_is t u c = distance_for (eqb t.runs 0) (eqb u.runs 0) c ∙ sym (ap₂ (distance c) (sort_is u) (sort_is t))

module _ (t u : Item) (p : Placed t) (q : Placed u) (c : ℕ) where
  blocks_are : stretched t (block_number t.runs) (kept_from t.runs u.runs c) ≡ blocks_of c (sort_of (thing_of u)) (thing_of t)
  unfolding blocks_of
  blocks_are = ap₂ (λ d l. map (widened d) l) (distance_is t u c) (areas_are t p)

  -- some stretch of u is blocked by t
  pub meet_said : {r : Bool} → Says r ((k : ℕ) × (k < block_number u.runs)
      × Blocked (stretched t (block_number t.runs) (kept_from t.runs u.runs c)) (stretch_at u k)) → Says r (Meet c (thing_of t) (thing_of u))
  unfolding Meet
  meet_said {r} s =
      subst₂ (λ bs l. Says r (Any (Blocked bs) l)) blocks_are (areas_are u q) (listed_said (Blocked _) (stretch_at u) (block_number u.runs) s)
