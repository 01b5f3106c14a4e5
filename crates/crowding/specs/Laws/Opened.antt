-- From marks to whole edges: a mark tells of the first unit edge, and the slab law of all the others.
-- Assumes nothing.
use Rattle.std.specs.Prelude.{ℕ, zero, suc, ◌+◌, ◌-◌, ◌≤◌, ◌<◌, ◌≡◌, Bool, true, false, ◌↔◌, List, [], ◌∷◌, ◌++◌, map, get_or, T}
use Rattle.std.proofs.Common.{zero-add, add-one, arith, sym, ap, subst, ◌∙◌, eqb→eq, eq-eqb}
use Rattle.std.proofs.Math.Path.{refl}
use Rattle.paper.specs.Grid.{Node, Axis, level, upright, Grid, Edge, Block, grid_with}
use Rattle.paper.specs.Layout.{across}
use Rattle.paper.specs.Laws.Joins.{joined}
use Rattle.paper.specs.declared.Size.{Size}
use Rattle.blocks.specs.declared.Blocks.{Blocks}
use Rattle.blocks.specs.Flat.{listed, block_at, first_at, flat}
use Rattle.blocks.specs.Laws.Lists.{length_listed, listed_more}
use Rattle.tracks.specs.declared.Tracks.{Tracks}
use Rattle.tracks.specs.declared.Map.{Map}
use Rattle.tracks.specs.Tracks.{span_at, spans, track, AreTracks}
use Rattle.tracks.specs.Laws.{track_below, track_two}
use Rattle.edges.specs.Marks.{box_at, boxes, Marked}
use Rattle.distances.specs.Ways as ways
use Rattle.walks.specs.Axes.{place, side, EdgeAt}
use Rattle.walks.specs.Tracks as lines
use Rattle.walks.specs.Tracks.{InSlab, on_board}
use Rattle.walks.specs.Crossings.{Sliced, edge_along}
use Rattle.walks.specs.Rule.{span}
use Rattle.walks.specs.Route as route
use Rattle.walks.proofs.Route.{laws}
use Rattle.router.specs.Charts.{tracks_in, Marks}
use Rattle.router.specs.Lines.{all_tracked, all_marked}
use Rattle.index.specs.declared.Edges.{Edges}
use Rattle.index.specs.declared.Index.{Index}
use Rattle.crowding.specs.Crowding.{OpenWay, Lane, Lanes, BuiltOn}
use Rattle.crowding.specs.Filling.{cell_of, is_clear, bits_of, Filled, OnTracks}
use Rattle.crowding.specs.Laws.Marking.{listed_at}

-- ---- the first unit edge of a slab, and all of them

edge_at : (G : Grid) (a : Axis) (u v : ℕ) → Edge G a (place a u v) ↔ EdgeAt G a u v
unfolding Edge
edge_at G level u v = (λ f. f, λ f. f)
edge_at G upright u v = (λ f. (f.1, f.0, f.2), λ f. (f.1, f.0, f.2))

module _ {G : Grid} {T : Axis → lines.Tracks} (sliced : Sliced G T) where
  pub way_open : (a : Axis) (z v : ℕ) → z < (T a).last → v ≤ side (across a) G
      → G.Open a (place a ((T a).track z) v) ↔ OpenWay G a ((T a).track z) ((T a).track (suc z)) v
  unfolding OpenWay
  way_open a z v h k =
      let inc = (sliced.rising a).inc z h in
      let here : InSlab (T a) z ((T a).track z) = record { some = h; from = omega arith; below = inc } in
      let first : (T a).track z < side a G = omega (arith, inc, on_board (sliced.rising a) (suc z) h) in (
        λ o u p q. (edge_at G a u v).1 (edge_along sliced a z ((T a).track z) u v here (record { some = h; from = p; below = q }) (first, k, o)),
        λ w. ((edge_at G a ((T a).track z) v).0 (w ((T a).track z) (omega arith) inc)).2,
      )

-- ---- bits

clear_iff : (u : Bool) (d : List ℕ) (k t : ℕ) → (is_clear u d k t ≡ true) ↔ (get_or d (cell_of u k t) 0 ≡ 0)
unfolding is_clear
clear_iff u d k t = (λ e. eqb→eq _ _ (subst T (sym e) tt), λ e. eq-eqb _ _ e)

lane_of : (G : Grid) (a : Axis) (t : Tracks) (v : ℕ) (u : Bool) (d : List ℕ) (k : ℕ) → 1 ≤ t.count
    → ((j : ℕ) → j + 1 < t.count → (get_or d (cell_of u k j) 0 ≡ 0) ↔ OpenWay G a (track t j) (track t (j + 1)) v)
    → Lane G a t v (bits_of u d k (t.count - 1))
lane_of G a t v u d k some h = record {
  long = omega (arith, length_listed (is_clear u d k) 0 (t.count - 1));
  each = λ j l.
      let n : j < t.count - 1 = omega (arith, length_listed (is_clear u d k) 0 (t.count - 1)) in
      let e : get_or (bits_of u d k (t.count - 1)) j false ≡ is_clear u d k j = listed_at (is_clear u d k) false 0 (t.count - 1) j n ∙ ap (is_clear u d k) (zero-add j) in
      let f = h j (omega arith) in
      let g = clear_iff u d k j in
      (λ p. f.0 (g.0 (sym e ∙ p)), λ w. e ∙ g.1 (f.1 w));
}

-- ---- spans in a row

map_listed : {A B : Type 0} (g : A → B) (f : ℕ → A) (k n : ℕ) → map g (listed f k n) ≡ listed (λ i. g (f i)) k n
unfolding listed
map_listed g f k zero = refl
map_listed g f k (suc n) = ap (λ l. g (f k) ∷ l) (map_listed g f (suc k) n)

spans_listed : (n : ℕ) (lo hi c : List ℕ) → spans n lo hi c ≡ listed (span_at lo hi c) 0 n
unfolding spans
spans_listed zero lo hi c = unfold listed in refl
spans_listed (suc n) lo hi c =
    ap (λ l. l ++ span_at lo hi c n ∷ []) (spans_listed n lo hi c)
    ∙ ap (λ j. listed (span_at lo hi c) 0 n ++ span_at lo hi c j ∷ []) (sym (zero-add n))
    ∙ sym (listed_more (span_at lo hi c) 0 n)

-- ---- the index

module _ (w h : ℕ) (x0 y0 x1 y1 c : List ℕ) (n : ℕ) (x y : Tracks) (tx : AreTracks (spans n x0 x1 c) w [] x) (ty : AreTracks (spans n y0 y1 c) h [] y)
    (hw : 1 ≤ w) (hh : 1 ≤ h) (flat tall : List ℕ)
    (mf : Marked level flat x.at x.count y.at y.count (box_at x0 y0 x1 y1 c) n)
    (mt : Marked upright tall x.at x.count y.at y.count (box_at x0 y0 x1 y1 c) n) (es fs : List Edges)
    (pu : Filled true tall x.count (y.count - 1) es) (pl : Filled false flat y.count (x.count - 1) fs) where
  abbrev bs : List Block
  bs = listed (box_at x0 y0 x1 y1 c) 0 n

  abbrev G : Grid
  G = grid_with w h (joined bs)

  abbrev lanes : Axis → lines.Tracks
  lanes = route.tracks (tracks_in x.at x.count) (tracks_in y.at y.count)

  marked : Marks w h (joined bs) (ways.map x.at x.count y.at y.count flat tall)
  marked = all_marked w h x0 y0 x1 y1 c n [] [] x y tx ty hw hh flat tall mf mt

  cut : Sliced G lanes
  cut = laws marked.rise_x marked.rise_y (joined bs) (all_tracked w h x0 y0 x1 y1 c n [] [] x y tx ty hw hh)

  open_upright : (i j : ℕ) → i < x.count → j + 1 < y.count
      → (get_or tall (cell_of true i j) 0 ≡ 0) ↔ OpenWay G upright (track y j) (track y (j + 1)) (track x i)
  open_upright i j p q =
      let m = marked.clear upright i j p (omega arith) in
      let o = way_open cut upright j (track x i) (omega arith) (track_below tx i p) in
      rw add-one ((λ z. o.0 (m.0 z), λ z. m.1 (o.1 z)))

  open_level : (i j : ℕ) → i < y.count → j + 1 < x.count
      → (get_or flat (cell_of false i j) 0 ≡ 0) ↔ OpenWay G level (track x j) (track x (j + 1)) (track y i)
  open_level i j p q =
      let m = marked.clear level j i (omega arith) p in
      let o = way_open cut level j (track y i) (omega arith) (track_below ty i p) in
      rw add-one ((λ z. o.0 (m.0 z), λ z. m.1 (o.1 z)))

  on_x : AreTracks (map (span level) bs) w [] x
  unfolding box_at
  on_x = rw (map_listed (span level) (box_at x0 y0 x1 y1 c) 0 n) (rw (spans_listed n x0 x1 c) at tx)

  on_y : AreTracks (map (span upright) bs) h [] y
  unfolding box_at
  on_y = rw (map_listed (span upright) (box_at x0 y0 x1 y1 c) 0 n) (rw (spans_listed n y0 y1 c) at ty)

  pub built : BuiltOn G bs (record { x = x; y = y; upright = es; level = fs })
  built = record {
    on_x = on_x;
    on_y = on_y;
    upright_are = record {
      room = pu.room;
      each = λ k p. (
        bits_of true tall k (y.count - 1),
        lane_of G upright y (track x k) true tall k (omega (arith, track_two ty hh)) (λ j q. open_upright k j p q),
        pu.each k p,
      );
      rest = pu.rest;
    };
    level_are = record {
      room = pl.room;
      each = λ k p. (
        bits_of false flat k (x.count - 1),
        lane_of G level x (track y k) false flat k (omega (arith, track_two tx hw)) (λ j q. open_level k j p q),
        pl.each k p,
      );
      rest = pl.rest;
    };
  }

-- ---- by the marks of a map

same_boxes : (b : Blocks) (n : ℕ) → listed (boxes b) 0 n ≡ listed (block_at b) 0 n
unfolding box_at block_at
same_boxes b n = refl

pub built_map : (s : Size) (b : Blocks) (m : Map) (es fs : List Edges) → OnTracks s b m.x m.y
    → Marked level m.flat m.x.at m.x.count m.y.at m.y.count (boxes b) (first_at b b.items)
    → Marked upright m.tall m.x.at m.x.count m.y.at m.y.count (boxes b) (first_at b b.items)
    → Filled true m.tall m.x.count (m.y.count - 1) es → Filled false m.flat m.y.count (m.x.count - 1) fs
    → BuiltOn (grid_with s.w s.h (joined (flat b))) (flat b) (record { x = m.x; y = m.y; upright = es; level = fs })
built_map s b m es fs t p q u l =
    let n = first_at b b.items in
    rw (same_boxes b n)
    at (built s.w s.h b.x0 b.y0 b.x1 b.y1 b.c n m.x m.y t.on_x t.on_y t.wide t.high m.flat m.tall p q es fs u l)

-- ---- the same index over a grid with the same open edges

module _ {G H : Grid} (wide : G.wide ≡ H.wide) (high : G.high ≡ H.high) (same : (a : Axis) (p : Node) → G.Open a p ↔ H.Open a p) where
  edge_alike : (a : Axis) (p : Node) → Edge G a p ↔ Edge H a p
  unfolding Edge
  edge_alike level p = (
    λ f. (omega (arith, f.0), omega (arith, f.1), (same level p).0 f.2),
    λ f. (omega (arith, f.0), omega (arith, f.1), (same level p).1 f.2),
  )
  edge_alike upright p = (
    λ f. (omega (arith, f.0), omega (arith, f.1), (same upright p).0 f.2),
    λ f. (omega (arith, f.0), omega (arith, f.1), (same upright p).1 f.2),
  )

  lane_alike : {a : Axis} {t : Tracks} {v : ℕ} {bs : List Bool} → Lane G a t v bs → Lane H a t v bs
  unfolding OpenWay
  lane_alike p = record {
    long = p.long;
    each = λ k h. let e = p.each k h in (λ z n u w. (edge_alike _ _).0 (e.0 z n u w), λ o. e.1 (λ n u w. (edge_alike _ _).1 (o n u w)));
  }

  lanes_alike : {a : Axis} {t u : Tracks} {es : List Edges} → Lanes G a t u es → Lanes H a t u es
  lanes_alike p = record { room = p.room; each = λ k h. let e = p.each k h in (e.0, lane_alike e.1, e.2); rest = p.rest }

  pub built_alike : {bs : List Block} {i : Index} → BuiltOn G bs i → BuiltOn H bs i
  built_alike {bs} {i} p = record {
    on_x = subst (λ n. AreTracks (map (span level) bs) n [] i.x) wide p.on_x;
    on_y = subst (λ n. AreTracks (map (span upright) bs) n [] i.y) high p.on_y;
    upright_are = lanes_alike p.upright_are;
    level_are = lanes_alike p.level_are;
  }
