-- The contract of the router, by cases; and it decides every number that the router returns.
-- Assumes nothing.
use Rattle.std.specs.Prelude.{ℕ, ◌≤◌, ◌<◌, ◌≡◌, Result, Ok, Err, List, [], map}
use Rattle.std.proofs.Common.{le_antisymm, arith, ◌∙◌}
use Rattle.std.proofs.Math.Path.{refl, sym, ap}
use Rattle.std.proofs.Math.ListN.{length}
use Rattle.paper.specs.declared.Mode.{Mode}
use Rattle.paper.specs.Limits.{most_runs, most_corners}
use Rattle.paper.specs.Grid.{Node, Dir, Grid}
use Rattle.paper.specs.Wire.{AnsweredIn, corners, runs_of, detour}
use Rattle.paper.specs.Padding.{filled}
use Rattle.paper.proofs.Least.{one_in}
use Rattle.paper.specs.Laws.Least.{in_legal, in_shortest}
use Rattle.router.specs.declared.Wire.{Wire}
use Rattle.router.specs.declared.Untold.{Untold}
use Rattle.router.specs.declared.Untold.TheVariants.{NoWire, TooManyRuns}
use Rattle.router.specs.Route.{shortest_of, Valued, Coded, AnswersIn, Found, Written, Routes}

module _ (m : Mode) (G : Grid) (s t : Node) where
  -- few runs and many do not go together
  apart : (w v : List Dir) → AnsweredIn m G s t w → AnsweredIn m G s t v → runs_of s w ≤ most_runs → most_runs < runs_of s v → ⊥
  apart w v a b few many = omega (arith, few, many, ap (runs_of s) (one_in m G s t w v a b))

  -- the arrays of a list of corners are those of an equal one
  arrays : (f : Node → ℕ) (xs : List ℕ) (ps qs : List Node) → ps ≡ qs → xs ≡ filled 0 most_corners (map f ps) → xs ≡ filled 0 most_corners (map f qs)
  arrays f xs ps qs e h = h ∙ ap (λ ns. filled 0 most_corners (map f ns)) e

  same_route : (r q : Result Wire Untold) → Routes m G s t r → Routes m G s t q → r ≡ q
  unfolding Found Written
  same_route (Ok u) (Ok v) f g =
      let e = one_in m G s t f.found.0 g.found.0 f.found.1.0 g.found.1.0 in
      let ps : f.turned ≡ g.turned = f.written.2 ∙ ap (corners s) (one_in m G s t f.written.0 g.written.0 f.written.1 g.written.1) ∙ sym g.written.2 in
      let x : u.length ≡ v.length = f.found.2 ∙ ap length e ∙ sym g.found.2 in
      let y : u.detour ≡ v.detour = f.found.3 ∙ ap (detour t s) e ∙ sym g.found.3 in
      let z : u.corners ≡ v.corners = f.found.4 ∙ ap (λ w. length (corners s w)) e ∙ sym g.found.4 in
      let xs : u.xs ≡ v.xs = arrays (λ p. p.x) u.xs f.turned g.turned ps f.xs_are ∙ sym g.xs_are in
      let ys : u.ys ≡ v.ys = arrays (λ p. p.y) u.ys f.turned g.turned ps f.ys_are ∙ sym g.ys_are in
      λ i. Ok (record { length = x i; detour = y i; corners = z i; xs = xs i; ys = ys i })
  same_route (Ok u) (Err NoWire) f g = absurd (g.found f.found.0 (in_legal m G s t f.found.0 f.found.1.0))
  same_route (Ok u) (Err (TooManyRuns a)) f g = absurd (apart f.found.0 g.found.0 f.found.1.0 g.found.1.0 f.found.1.1 g.found.1.1)
  same_route (Err NoWire) (Ok v) f g = absurd (f.found g.found.0 (in_legal m G s t g.found.0 g.found.1.0))
  same_route (Err NoWire) (Err NoWire) f g = refl
  same_route (Err NoWire) (Err (TooManyRuns a)) f g = absurd (f.found g.found.0 (in_legal m G s t g.found.0 g.found.1.0))
  same_route (Err (TooManyRuns a)) (Ok v) f g = absurd (apart g.found.0 f.found.0 g.found.1.0 f.found.1.0 g.found.1.1 f.found.1.1)
  same_route (Err (TooManyRuns a)) (Err NoWire) f g = absurd (g.found f.found.0 (in_legal m G s t f.found.0 f.found.1.0))
  same_route (Err (TooManyRuns a)) (Err (TooManyRuns n)) f g =
      ap (λ k. Err (TooManyRuns k)) (f.found.2 ∙ ap length (one_in m G s t f.found.0 g.found.0 f.found.1.0 g.found.1.0) ∙ sym g.found.2)

  -- ---- by cases, and by the number

  silent : (e : Untold) → Valued (Err e) 0 0 []
  silent e = record { length_is = refl; detour_is = refl; corners_are = refl; xs_are = refl; ys_are = refl }

  pub answers_of : (o : Result Wire Untold) → Routes m G s t o → Coded m G s t o
  unfolding Found Written
  answers_of (Ok u) r =
      let w = r.found.0 in
      let a = r.found.1 in
      record {
        few = (λ e. (w, a), λ f. refl);
        none = (λ e. absurd (omega arith), λ f. absurd (f w (in_legal m G s t w a.0)));
        many = (λ e. absurd (omega arith), λ f. absurd (apart w f.0 a.0 f.1.0 a.1 f.1.1));
        values = λ v b.
            let e = one_in m G s t w v a.0 b.0 in
            let ps : r.turned ≡ corners s v = r.written.2 ∙ ap (corners s) (one_in m G s t r.written.0 v r.written.1 b.0) in
            record {
              length_is = r.found.2 ∙ ap length e;
              detour_is = r.found.3 ∙ ap (detour t s) e;
              corners_are = r.found.4 ∙ ap (λ u. length (corners s u)) e;
              xs_are = arrays (λ p. p.x) u.xs r.turned (corners s v) ps r.xs_are;
              ys_are = arrays (λ p. p.y) u.ys r.turned (corners s v) ps r.ys_are;
            };
        silent = λ z. absurd (z refl);
        shortest = λ v b. r.found.2 ∙ ap length (one_in m G s t w v a.0 b);
      }
  answers_of (Err NoWire) r = record {
    few = (λ e. absurd (omega arith), λ g. absurd (r.found g.0 (in_legal m G s t g.0 g.1.0)));
    none = (λ e. r.found, λ g. refl);
    many = (λ e. absurd (omega arith), λ g. absurd (r.found g.0 (in_legal m G s t g.0 g.1.0)));
    values = λ v b. absurd (r.found v (in_legal m G s t v b.0));
    silent = λ z. silent NoWire;
    shortest = λ v b. absurd (r.found v (in_legal m G s t v b));
  }
  answers_of (Err (TooManyRuns n)) r =
      let w = r.found.0 in
      let a = r.found.1 in
      record {
        few = (λ e. absurd (omega arith), λ f. absurd (apart f.0 w f.1.0 a.0 f.1.1 a.1));
        none = (λ e. absurd (omega arith), λ f. absurd (f w (in_legal m G s t w a.0)));
        many = (λ e. (w, a), λ f. refl);
        values = λ v b. absurd (apart v w b.0 a.0 b.1 a.1);
        silent = λ z. silent (TooManyRuns n);
        shortest = λ v b. r.found.2 ∙ ap length (one_in m G s t w v a.0 b);
      }

  pub routes_of : (o : Result Wire Untold) → Coded m G s t o → Routes m G s t o
  unfolding Found Written
  routes_of (Ok u) c =
      let f = c.few.0 refl in
      let v = c.values f.0 f.1 in
      record {
        found = (f.0, f.1, v.length_is, v.detour_is, v.corners_are);
        turned = corners s f.0;
        written = (f.0, f.1.0, refl);
        xs_are = v.xs_are;
        ys_are = v.ys_are;
      }
  routes_of (Err NoWire) c = record { found = c.none.0 refl; turned = []; written = refl; xs_are = refl; ys_are = refl }
  routes_of (Err (TooManyRuns n)) c =
      let f = c.many.0 refl in
      record { found = (f.0, f.1, c.shortest f.0 f.1.0); turned = []; written = refl; xs_are = refl; ys_are = refl }

  pub one_route : (r q : Result Wire Untold) → AnswersIn m G s t r → AnswersIn m G s t q → r ≡ q
  one_route r q c d = same_route r q (routes_of r c) (routes_of q d)

-- ---- the shortest length that is told in a mode is the one of the other too

module _ (m n : Mode) (G : Grid) (s t : Node) (w : List Dir) (b : AnsweredIn n G s t w) where
  as_short : (v : List Dir) → AnsweredIn m G s t v → length v ≡ length w
  as_short v a = le_antisymm (in_shortest m G s t v a w (in_legal n G s t w b)) (in_shortest n G s t w b v (in_legal m G s t v a))

  same_length : (o : Result Wire Untold) → Found m G s t o → shortest_of o ≡ length w
  unfolding Found
  same_length (Ok u) f = f.2 ∙ as_short f.0 f.1.0
  same_length (Err NoWire) f = absurd (f w (in_legal n G s t w b))
  same_length (Err (TooManyRuns a)) f = f.2 ∙ as_short f.0 f.1.0

  pub shortest_same : (r : Result Wire Untold) → AnswersIn m G s t r → shortest_of r ≡ length w
  shortest_same r a = same_length r (routes_of m G s t r a).found
