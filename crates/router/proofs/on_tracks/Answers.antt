-- `router::on_tracks` meets its contract: each layer's word handed to the next.
use Prim.Native.Nat.{ℕ}
use lib.ListN.{replicate, length-replicate}
use Rattle.edges.specs.Marks.{Blank}
use Rattle.router.specs.Modes.{get_or_zeros}
use Rattle.router.specs.Lines.{to_edges, to_distances}
use Rattle.router.specs.Found.{kept, s_on_x, s_on_y, t_on_x, t_on_y, charted, ready, answered}
use Rattle.router.proofs.on_tracks.Goals as goal

-- no way is marked yet
blank : Blank (replicate 9216 0)
blank = record { long = length-replicate {A = ℕ} 9216 0; each = λ i h. get_or_zeros 9216 i }

pub edges-requires-clause-blank : goal.edges-requires-clause-blank
edges-requires-clause-blank c = (blank, blank)

pub edges-requires-clause-tracks : goal.edges-requires-clause-tracks
edges-requires-clause-tracks c = record { x = to_edges _ _ _ _ c.requires.on_x; y = to_edges _ _ _ _ c.requires.on_y }

-- ---- the pins' crossings

pub crossing_at-s-requires-clause-stands : goal.crossing_at-s-requires-clause-stands
crossing_at-s-requires-clause-stands c =
    let r = kept c.requires c.edges.ensures.tracks.0 c.edges.ensures.tracks.1 in
    (s_on_x _ _ _ _ _ r, s_on_y _ _ _ _ _ r)

pub crossing_at-t-requires-clause-stands : goal.crossing_at-t-requires-clause-stands
crossing_at-t-requires-clause-stands c =
    let r = kept c.requires c.edges.ensures.tracks.0 c.edges.ensures.tracks.1 in
    (t_on_x _ _ _ _ _ r, t_on_y _ _ _ _ _ r)

-- ---- the distances, and the answer

pub distances-d-requires : goal.distances-d-requires
distances-d-requires c =
    let r = kept c.requires c.edges.ensures.tracks.0 c.edges.ensures.tracks.1 in
    let s = c.crossing_at-s.ensures in
    let t = c.crossing_at-t.ensures in (
      r.on_x.few,
      r.on_y.few,
      t.upright_track.0,
      t.level_track.0,
      s.upright_track.0,
      s.level_track.0,
      to_distances _ _ _ _ r.on_x r.range.0.0 r.range.0.1,
      to_distances _ _ _ _ r.on_y r.range.1.0 r.range.1.1,
    )

pub invariant_of-by_mode : goal.invariant_of-by_mode
invariant_of-by_mode c =
    let r = kept c.requires c.edges.ensures.tracks.0 c.edges.ensures.tracks.1 in
    let e = c.edges.ensures in
    let s = c.crossing_at-s.ensures in
    let t = c.crossing_at-t.ensures in
    record { charted = charted _ _ _ _ _ r _ _ _ _ _ e.level_ways e.upright_ways c.distances-d.ensures s.upright_track s.level_track t.upright_track t.level_track }

pub by_mode-requires : goal.by_mode-requires
by_mode-requires c =
    let r = kept c.requires c.edges.ensures.tracks.0 c.edges.ensures.tracks.1 in
    let e = c.edges.ensures in
    let s = c.crossing_at-s.ensures in
    let t = c.crossing_at-t.ensures in
    ready _ _ _ _ _ r _ _ _ _ _ e.level_ways e.upright_ways c.distances-d.ensures s.upright_track s.level_track t.upright_track t.level_track

pub returns : goal.returns
returns c =
    let r = kept c.requires c.edges.ensures.tracks.0 c.edges.ensures.tracks.1 in
    let e = c.edges.ensures in
    let s = c.crossing_at-s.ensures in
    let t = c.crossing_at-t.ensures in
    answered _ _ _ _ _ r _ _ _ _ _ e.level_ways e.upright_ways c.distances-d.ensures s.upright_track s.level_track t.upright_track t.level_track _ c.args.mode c.by_mode.ensures
