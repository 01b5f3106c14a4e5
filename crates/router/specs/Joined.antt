-- From the tracks, the marks and the distances to the answered wire on the whole grid.
-- Assumes nothing.
use Rattle.std.specs.Prelude.{ℕ, ◌+◌, ◌-◌, ◌*◌, ◌/◌, ◌≤◌, ◌<◌, ◌≡◌, None, Result, Err, List, [], ◌∷◌, length}
use Rattle.std.proofs.Common.{arith, ◌∙◌}
use Rattle.std.proofs.Math.Decide.{dec_lt, dec_le}
use Rattle.std.proofs.Math.Nat.{mul-div_cancel_left}
use Rattle.std.proofs.Math.Path.{refl, ap}
use Rattle.paper.specs.declared.Pins.{Pins}
use Rattle.paper.specs.declared.Mode.{Mode}
use Rattle.paper.specs.Limits.{most_corners}
use Rattle.paper.specs.Grid.{Node, Dir, step, Axis, Grid, Block, All, grid_with}
use Rattle.paper.specs.Wire.{Legal, AnsweredIn, turns, corners, runs, manhattan, detour, gap}
use Rattle.paper.specs.Answer.{source, target}
use Rattle.paper.specs.Laws.Back.{length_runs}
use Rattle.paper.specs.Laws.Detour.{length_detour}
use Rattle.paper.specs.Laws.Least.{in_legal}
use Rattle.distances.specs.Lower.{none}
use Rattle.distances.specs.Ways.{cell, Map, Distances}
use Rattle.tracks.specs.declared.At.{At}
use Rattle.trace.specs.Trail.{crossing, distance, spot, Toll, toll, dues, Trail, Charted}
use Rattle.bends.specs.Table.{On}
use Rattle.walks.specs.Tracks.{Tracks}
use Rattle.walks.specs.Crossings.{Crossing}
use Rattle.walks.specs.Rule.{BlockTracked}
use Rattle.walks.specs.Turns.{fresh}
use Rattle.walks.specs.Tables as tables
use Rattle.walks.specs.Onward.{Begins}
use Rattle.walks.specs.Modes.{price_of, best_in}
use Rattle.walks.specs.Route.{tracks}
use Rattle.walks.proofs.Route.{route, some_route, no_route}
use Rattle.router.specs.declared.Wire.{Wire}
use Rattle.router.specs.declared.Untold.{Untold}
use Rattle.router.specs.declared.Untold.TheVariants.{NoWire, TooManyRuns}
use Rattle.router.specs.Route.{AnswersIn, Found, Written}
use Rattle.router.specs.One.{answers_of}
use Rattle.router.specs.Told.{detour_for, telling, Tells, Lent, ToldIn}
use Rattle.router.specs.Bent.{seen_in, counted_in}
use Rattle.router.specs.Charts.{tracks_in, Marks, trail_of, searched_all}

-- a wire that is found, by its tables and by its trail
pub record Got (A : List Dir → Type 0) (m : Map) (d : List ℕ) (o : Toll) (left : ℕ) (s t : At) : Type 0 where
  pub word : List Dir
  pub answered : A word
  pub long : length word ≡ distance d (crossing s)
  pub trail : Trail m d o (crossing t) None left (crossing s) word

module _ (w h : ℕ) (bs : List Block) (m : Map) (k : Marks w h bs m)
    (tracked : All (BlockTracked (tracks (tracks_in m.xs m.nx) (tracks_in m.ys m.ny)) (grid_with w h bs)) bs)
    (d : List ℕ) (s t : At) (dist : Distances m t.i t.j (cell s.i s.j) d) (ch : Charted m d)
    (s_x : s.i < m.nx) (s_y : s.j < m.ny) (t_x : t.i < m.nx) (t_y : t.j < m.ny)
    (a b : Node) (start : spot m (crossing s) ≡ a) (end : spot m (crossing t) ≡ b) where
  abbrev G : Grid
  G = grid_with w h bs

  abbrev T : Axis → Tracks
  T = tracks (tracks_in m.xs m.nx) (tracks_in m.ys m.ny)

  on : Crossing T (crossing s)
  on = (omega (arith, s_x), omega (arith, s_y))

  -- in each mode
  pub got : (o : Mode) (c : List ℕ) (n : ℕ) → Lent o m d (crossing s) (crossing t) c → Begins (dues (price_of o) c) (crossing s) n → distance d (crossing s) < none
      → Got (AnsweredIn o G a b) m d (toll (price_of o) c) n s t
  got o c n lent begins r =
      let at : On m (crossing s) = record { on_x = s_x; on_y = s_y } in
      let done = counted_in w h bs m k d t.i t.j (crossing s) dist t_x t_y ch at tracked o c lent in
      let seen = seen_in w h bs m k d t.i t.j (crossing s) dist t_x t_y ch at o r in
      let l = some_route k.rise_x k.rise_y bs tracked a b (crossing s) (crossing t) start end on (price_of o) (dues (price_of o) c) done seen n begins in
      record {
        word = l.0;
        answered = best_in o G a b l.0
            (route k.rise_x k.rise_y bs tracked a b (crossing s) (crossing t) start end on (price_of o) (dues (price_of o) c) done seen n begins (omega arith) l.0 l.1);
        long = tables.trace_length (price_of o) G T (distance d) (dues (price_of o) c) (crossing t) dist.target fresh n (crossing s) l.0 l.1;
        trail = trail_of w h bs m k d (price_of o) c (crossing t) fresh n None refl (crossing s) l.0 l.1;
      }

  pub nowhere : distance d (crossing s) ≡ none → (v : List Dir) → ¬ (Legal G a b v)
  nowhere e =
      no_route k.rise_x k.rise_y bs tracked a b (crossing s) (crossing t) start end on
      (searched_all w h bs m k d t.i t.j (cell s.i s.j) dist t_x t_y e) (omega arith)

-- ---- in the paper's words

-- a corner more than runs
corner_runs : (p : Node) (w : List Dir) → length (runs (corners p w)) + 1 ≡ length (corners p w)
unfolding corners
corner_runs p [] = omega (arith, length_runs p [])
corner_runs p (e ∷ w) = omega (arith, length_runs p (turns e (step e p) w))

-- the detour that is told is the wire's
told_detour : (G : Grid) (p : Pins) (w : List Dir) → Legal G (source p) (target p) w → detour_for (length w) p ≡ detour (target p) (source p) w
unfolding detour_for
told_detour G p w l =
    let e : length w - gap p.sx p.tx - gap p.sy p.ty ≡ 2 * detour (target p) (source p) w
    = unfold manhattan in omega (arith, length_detour G (source p) (target p) w l) in
    ap (λ n. n / 2) e ∙ mul-div_cancel_left (detour (target p) (source p) w) {n = 2} (omega arith)

module _ (o : Mode) (G : Grid) (p : Pins) where
  pub answers_none : ((v : List Dir) → ¬ (Legal G (source p) (target p) v)) → AnswersIn o G (source p) (target p) (Err NoWire)
  unfolding Found Written
  answers_none n = answers_of o G (source p) (target p) (Err NoWire) (record { found = n; turned = []; written = refl; xs_are = refl; ys_are = refl })

  module _ (w : List Dir) (a : AnsweredIn o G (source p) (target p) w) where
    pub answers_many : most_corners < length (corners (source p) w) → AnswersIn o G (source p) (target p) (Err (TooManyRuns (length w)))
    unfolding Found Written
    answers_many h =
        answers_of o G (source p) (target p) (Err (TooManyRuns (length w)))
        (record { found = (w, (a, omega (arith, corner_runs (source p) w)), refl); turned = []; written = refl; xs_are = refl; ys_are = refl })

    pub answers_few : length (corners (source p) w) ≤ most_corners → AnswersIn o G (source p) (target p) (telling (length w) p (corners (source p) w))
    unfolding Found Written
    answers_few h = answers_of o G (source p) (target p) (telling (length w) p (corners (source p) w)) (record {
      found = (w, (a, omega (arith, corner_runs (source p) w)), refl, told_detour G p w (in_legal o G (source p) (target p) w a), refl);
      turned = corners (source p) w;
      written = (w, a, refl);
      xs_are = refl;
      ys_are = refl;
    })

  -- from what is told of the tables to the answer
  pub reached : (m : Map) (d : List ℕ) (l : Toll) (left : ℕ) (s t : At) → spot m (crossing s) ≡ source p → distance d (crossing s) < none
      → Got (AnsweredIn o G (source p) (target p)) m d l left s t → (r : Result Wire Untold) → Tells m d l left s t p r → AnswersIn o G (source p) (target p) r
  reached m d l left s t start near g r tell =
      elim (dec_le (length (corners (source p) g.word)) most_corners) [
        | yes few ↦
            let e = tell.few_told g.word g.trail near (rw start few) in
            rw (e, start, ← g.long) (answers_few g.word g.answered few)
        | no many ↦
            rw (tell.many_told g.word g.trail near (rw start (omega arith)), ← g.long) (answers_many g.word g.answered (omega arith))
      ]

module _ (w h : ℕ) (bs : List Block) (m : Map) (k : Marks w h bs m)
    (tracked : All (BlockTracked (tracks (tracks_in m.xs m.nx) (tracks_in m.ys m.ny)) (grid_with w h bs)) bs)
    (d : List ℕ) (s t : At) (dist : Distances m t.i t.j (cell s.i s.j) d) (ch : Charted m d)
    (sx : s.i < m.nx) (sy : s.j < m.ny) (tx : t.i < m.nx) (ty : t.j < m.ny)
    (p : Pins) (start : spot m (crossing s) ≡ source p) (end : spot m (crossing t) ≡ target p) (r : Result Wire Untold) where
  pub answers : (o : Mode) → ToldIn o m d s t p r → AnswersIn o (grid_with w h bs) (source p) (target p) r
  answers o tell =
      elim (dec_lt (distance d (crossing s)) none) [
        | no far ↦
            let z : distance d (crossing s) ≡ none = omega (arith, dist.top (cell s.i s.j)) in
            rw (tell.none_told z) (answers_none o (grid_with w h bs) p (nowhere w h bs m k tracked d s t dist ch sx sy tx ty (source p) (target p) start end z))
        | yes near ↦
            let u = tell.turned near in
            reached o (grid_with w h bs) p m d (toll (price_of o) u.table) u.left s t start near
            (got w h bs m k tracked d s t dist ch sx sy tx ty (source p) (target p) start end o u.table u.left u.lent u.begins near) r u.tells
      ]
