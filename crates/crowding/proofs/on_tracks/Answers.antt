-- `crowding::on_tracks` meets its contract: the marks, then the words of each track.
use Rattle.std.proofs.Common.{◌∙◌, ap, arith}
use Rattle.tracks.specs.Laws.{track_two}
use Rattle.router.specs.Lines.{to_edges}
use Rattle.crowding.specs.Filling.{OnTracks}
use Rattle.crowding.specs.Laws.Opened.{built_map}
use Rattle.crowding.proofs.on_tracks.Goals as goal

-- the tracks rise
pub edges-requires-clause-tracks : goal.edges-requires-clause-tracks
edges-requires-clause-tracks c =
    let e = c.open_map-map.ensures.tracks in
    record { x = rw e.0 (to_edges _ _ _ _ c.requires.on_x); y = rw e.1 (to_edges _ _ _ _ c.requires.on_y) }

-- the map keeps them
pub overflow_sub-map : goal.overflow_sub-map
overflow_sub-map c =
    omega (arith, track_two c.requires.on_y c.requires.high, ap (λ t. t.count) (c.edges.ensures.tracks.1 ∙ c.open_map-map.ensures.tracks.1))

pub overflow_sub-map-2 : goal.overflow_sub-map-2
overflow_sub-map-2 c =
    omega (arith, track_two c.requires.on_x c.requires.wide, ap (λ t. t.count) (c.edges.ensures.tracks.0 ∙ c.open_map-map.ensures.tracks.0))

pub returns : goal.returns
returns c =
    let e = c.edges.ensures in
    let o = c.open_map-map.ensures.tracks in
    let t : OnTracks c.args.size c.args.held.now c.edges.new.map.x c.edges.new.map.y = rw (e.tracks.0 ∙ o.0, e.tracks.1 ∙ o.1) c.requires in
    built_map _ _ c.edges.new.map _ _ t e.level_ways e.upright_ways c.lanes-upright.ensures c.lanes-level.ensures
