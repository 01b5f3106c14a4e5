-- The whole way once more, for the proof of the router: from what each layer ensures to the answer.
-- Assumes nothing.
use Rattle.std.specs.Prelude.{ℕ, ◌≤◌, ◌<◌, ◌≡◌, Result, get_or}
use Rattle.std.proofs.Common.{arith, inl, inr}
use Rattle.std.proofs.Math.Path.{refl}
use mathlib.Core.List.{List, [], ◌∷◌}
use Rattle.paper.specs.declared.Size.{Size}
use Rattle.paper.specs.declared.Pins.{Pins}
use Rattle.paper.specs.declared.Mode.{Mode}
use Rattle.paper.specs.declared.Mode.TheVariants.{Plain}
use Rattle.paper.specs.Grid.{level, upright, grid_with, Block, All, Any}
use Rattle.paper.specs.Wire.{manhattan}
use Rattle.paper.specs.Answer.{source, target}
use Rattle.paper.specs.Laws.Detour.{length_detour}
use Rattle.paper.specs.Laws.Joins.{joined}
use Rattle.blocks.specs.declared.Blocks.{Blocks}
use Rattle.blocks.specs.Flat.{listed, flat, block_at, first_at}
use Rattle.tracks.specs.declared.Tracks.{Tracks}
use Rattle.tracks.specs.Tracks.{spans}
use Rattle.tracks.specs.Laws.{track_further}
use Rattle.distances.specs.Lower.{none}
use Rattle.distances.specs.Ways.{cell, Map, map, Distances}
use Rattle.edges.specs.Marks.{box_at, Marked}
use Rattle.tracks.specs.declared.At.{At}
use Rattle.trace.specs.Trail.{crossing, distance, spot, Charted}
use Rattle.router.specs.declared.Wire.{Wire}
use Rattle.router.specs.declared.Untold.{Untold}
use Rattle.router.specs.Route.{AnswersIn}
use Rattle.router.specs.Told.{Stands, Tracked, Ready, Lent, ToldIn}
use Rattle.walks.specs.Rule.{BlockTracked}
use Rattle.walks.specs.Route.{tracks}
use Rattle.router.specs.Charts.{tracks_in, Marks, owed}
use Rattle.router.specs.Joined.{got, answers}
use Rattle.router.specs.Lines.{to_distances, all_tracked, all_marked}

-- the same blocks, told by their arrays
same : (b : Blocks) → listed (box_at b.x0 b.y0 b.x1 b.y1 b.c) 0 (first_at b b.items) ≡ flat b
unfolding box_at block_at
same b = refl

-- on a map of the same tracks
pub kept : {z : Size} {b : Blocks} {p : Pins} {x y x' y' : Tracks} → Tracked z b p x y → x' ≡ x → y' ≡ y → Tracked z b p x' y'
kept t e f = rw (e, f) t

module _ (z : Size) (b : Blocks) (p : Pins) (x y : Tracks) (k : Tracked z b p x y) where
  abbrev n : ℕ
  n = first_at b b.items

  -- the pins stand on tracks
  pub s_on_x : Stands x.at x.count p.sx
  unfolding Any
  s_on_x = track_further k.on_x p.sx k.on.0.0 (inl refl)

  pub s_on_y : Stands y.at y.count p.sy
  unfolding Any
  s_on_y = track_further k.on_y p.sy k.on.0.1 (inl refl)

  pub t_on_x : Stands x.at x.count p.tx
  unfolding Any
  t_on_x = track_further k.on_x p.tx k.on.1.0 (inr (inl refl))

  pub t_on_y : Stands y.at y.count p.ty
  unfolding Any
  t_on_y = track_further k.on_y p.ty k.on.1.1 (inr (inl refl))

  module _ (ways rises d : List ℕ) (s t : At)
      (mx : Marked level ways x.at x.count y.at y.count (box_at b.x0 b.y0 b.x1 b.y1 b.c) n)
      (my : Marked upright rises x.at x.count y.at y.count (box_at b.x0 b.y0 b.x1 b.y1 b.c) n)
      (dist : Distances (map x.at x.count y.at y.count ways rises) t.i t.j (cell s.i s.j) d)
      (sx : (s.i < x.count) × (get_or x.at s.i 0 ≡ p.sx)) (sy : (s.j < y.count) × (get_or y.at s.j 0 ≡ p.sy))
      (tx : (t.i < x.count) × (get_or x.at t.i 0 ≡ p.tx)) (ty : (t.j < y.count) × (get_or y.at t.j 0 ≡ p.ty)) where
    abbrev m : Map
    m = map x.at x.count y.at y.count ways rises

    abbrev bs : List Block
    bs = joined (listed (box_at b.x0 b.y0 b.x1 b.y1 b.c) 0 n)

    start : spot m (crossing s) ≡ source p
    start = λ i. record { x = sx.1 i; y = sy.1 i }

    end : spot m (crossing t) ≡ target p
    end = λ i. record { x = tx.1 i; y = ty.1 i }

    marked : Marks z.w z.h bs m
    marked = all_marked z.w z.h b.x0 b.y0 b.x1 b.y1 b.c n (p.sx ∷ p.tx ∷ []) (p.sy ∷ p.ty ∷ []) x y k.on_x k.on_y k.range.0.0 k.range.1.0 ways rises mx my

    tracked : All (BlockTracked (tracks (tracks_in x.at x.count) (tracks_in y.at y.count)) (grid_with z.w z.h bs)) bs
    tracked = all_tracked z.w z.h b.x0 b.y0 b.x1 b.y1 b.c n (p.sx ∷ p.tx ∷ []) (p.sy ∷ p.ty ∷ []) x y k.on_x k.on_y k.range.0.0 k.range.1.0

    pub charted : Charted m d
    charted = record {
      nx_few = k.on_x.few;
      ny_few = k.on_y.few;
      wide_x = to_distances (spans n b.x0 b.x1 b.c) z.w (p.sx ∷ p.tx ∷ []) x k.on_x k.range.0.0 k.range.0.1;
      wide_y = to_distances (spans n b.y0 b.y1 b.c) z.h (p.sy ∷ p.ty ∷ []) y k.on_y k.range.1.0 k.range.1.1;
      top = dist.top;
    }

    -- a distance is at least the pins' own
    far : distance d (crossing s) < none → manhattan (source p) (target p) ≤ distance d (crossing s)
    unfolding Lent
    far h =
        let g = got z.w z.h bs m marked tracked d s t dist charted sx.0 sy.0 tx.0 ty.0 (source p) (target p) start end Plain [] 0 tt
        (record { low = λ a. omega arith; one = level; is = refl }) h in
        omega (arith, g.long, length_detour (grid_with z.w z.h bs) (source p) (target p) g.word g.answered.legal)

    pub ready : Ready m d s t p
    ready = record {
      s_x = sx.0;
      s_y = sy.0;
      home = dist.target;
      far = far;
      owed = λ r. owed z.w z.h bs m marked d t.i t.j (cell s.i s.j) dist r;
    }

    pub answered : (r : Result Wire Untold) (o : Mode) → ToldIn o m d s t p r → AnswersIn o (grid_with z.w z.h (joined (flat b))) (source p) (target p) r
    answered r o tell = rw (← same b) (answers z.w z.h bs m marked tracked d s t dist charted sx.0 sy.0 tx.0 ty.0 p start end r o tell)
