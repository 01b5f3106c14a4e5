-- What the tracks of an axis give to the layers above: once for both axes.
-- Assumes nothing.
use Rattle.std.specs.Prelude.{ℕ, zero, suc, ◌+◌, ◌-◌, ◌≤◌, ◌<◌, ◌≡◌, refl, ◌↔◌, List, [], ◌∷◌, get_or}
use Rattle.std.proofs.Common.{add-one, eq-or-lt_of_le, le_of_suc-le-suc, arith, sym, ap, subst, inl, inr, ⊎_elim}
use Rattle.paper.specs.Grid.{Axis, level, upright, Span, Block, Hits, Any, All, Blocked, edge, grid_with}
use Rattle.paper.specs.Laws.Lists.{any_left, any_right, any_split}
use Rattle.paper.specs.Laws.Joins.{joins, joined}
use Rattle.blocks.specs.Flat.{listed}
use Rattle.tracks.specs.declared.Tracks.{Tracks}
use Rattle.tracks.specs.Tracks.{span_at, spans, AreTracks}
use Rattle.tracks.specs.Laws.{track_side, track_below, track_rising, track_first, track_last, track_two}
use Rattle.distances.specs.Sweep.{Widths}
use Rattle.distances.specs.Ways.{cell, map}
use Rattle.edges.specs.Ranges as ranges
use Rattle.edges.specs.Marks.{box_at, crossing, Shuts, SeamShuts, Shut, Marked}
use Rattle.walks.specs.Axes.{side}
use Rattle.walks.specs.Tracks as lines
use Rattle.walks.specs.Rule.{Tracked, BlockTracked, span}
use Rattle.walks.specs.Route.{tracks}
use Rattle.trace.specs.Trail.{marks}
use Rattle.router.specs.Charts.{tracks_in, Marks}
use Rattle.router.specs.Pairs.{pair_in, pair_out, joined_tracked}

-- ---- one axis

module _ (ss : List Span) (far : ℕ) (further : List ℕ) (r : Tracks) (t : AreTracks ss far further r) where
  rises : (i j : ℕ) → i < j → j < r.count → get_or r.at i 0 < get_or r.at j 0
  rises i zero h k = absurd (omega arith)
  rises i (suc j) h k =
      let next : get_or r.at j 0 < get_or r.at (suc j) 0 = rw (add-one j) at (track_rising t j (omega arith)) in
      ⊎_elim (λ e. rw e next) (λ (p : i < j). omega (arith, rises i j p (omega arith), next)) (eq-or-lt_of_le (le_of_suc-le-suc h))

  pub to_edges : ranges.Ascending r
  to_edges = record { few = t.few; rise = record { rise = rises } }

  pub to_distances : 1 ≤ far → far ≤ 30000 → Widths r.at (r.count - 1)
  to_distances some h = record {
    rise = λ i p. track_rising t i (omega arith);
    top = λ i p. omega (arith, track_below t i (omega (arith, track_two t some)));
  }

  pub to_walks : 1 ≤ far → lines.Rising (tracks_in r.at r.count) far
  to_walks h = record {
    inc = λ i p. rises i (suc i) (omega arith) (omega arith);
    start = track_first t;
    end = track_last t;
  }

  -- each side of one of the spans that lies on the board is a track
  pub to_rule : (s : Span) → Any (λ u. u ≡ s) ss → Tracked (tracks_in r.at r.count) far s
  to_rule s k = record {
    low = λ x e h. let p = track_side t x h s k (inl e) in (p.0, omega (arith, p.1), p.2);
    high = λ h. let p = track_side t (s.hi + s.c) h s k (inr refl) in (p.0, omega (arith, p.1), p.2);
  }

span_in : (lo hi c : List ℕ) (n k : ℕ) → k < n → Any (λ u. u ≡ span_at lo hi c k) (spans n lo hi c)
unfolding spans Any
span_in lo hi c zero k h = absurd (omega arith)
span_in lo hi c (suc n) k h =
    ⊎_elim
    (λ e. any_right (λ u. u ≡ span_at lo hi c k) (spans n lo hi c) (span_at lo hi c n ∷ []) (inl (ap (span_at lo hi c) (sym e))))
    (λ p. any_left (λ u. u ≡ span_at lo hi c k) (spans n lo hi c) (span_at lo hi c n ∷ []) (span_in lo hi c n k p))
    (eq-or-lt_of_le (le_of_suc-le-suc h))

-- ---- lists of blocks by their places

all_listed : {A : Type 0} (P : A → Type 0) (f : ℕ → A) (s n : ℕ) → ((k : ℕ) → s ≤ k → k < s + n → P (f k)) → All P (listed f s n)
unfolding All listed
all_listed P f s zero h = tt
all_listed P f s (suc n) h = (h s (omega arith) (omega arith), all_listed P f (suc s) n (λ k p q. h k (omega arith) (omega arith)))

any_listed : {A : Type 0} (P : A → Type 0) (f : ℕ → A) (s n k : ℕ) → s ≤ k → k < s + n → P (f k) → Any P (listed f s n)
unfolding Any listed
any_listed P f s zero k h q p = absurd (omega arith)
any_listed P f s (suc n) k h q p = ⊎_elim (λ e. inl (subst (λ j. P (f j)) (sym e) p)) (λ r. inr (any_listed P f (suc s) n k r (omega arith) p)) (eq-or-lt_of_le h)

listed_any : {A : Type 0} (P : A → Type 0) (f : ℕ → A) (s n : ℕ) → Any P (listed f s n) → (k : ℕ) × (k < s + n) × P (f k)
unfolding Any listed
listed_any P f s zero h = absurd h
listed_any P f s (suc n) (inl p) = (s, omega arith, p)
listed_any P f s (suc n) (inr h) = let r = listed_any P f (suc s) n h in (r.0, omega (arith, r.1), r.2)

abbrev HitsAt : Axis → List ℕ → List ℕ → ℕ → ℕ → Block → Type 0
HitsAt a xs ys i j k = Hits k (edge a (crossing xs ys i j))

-- a way is shut just if its first unit edge is blocked, by a block or by the rectangle of two
shut_iff : (a : Axis) (xs ys : List ℕ) (b : ℕ → Block) (n i j : ℕ) → Shut a xs ys b n i j ↔ Blocked (joined (listed b 0 n)) (edge a (crossing xs ys i j))
unfolding Blocked Shuts SeamShuts
shut_iff a xs ys b n i j =
    let P : Block → Type 0 = HitsAt a xs ys i j in
    let bs = listed b 0 n in (
      λ s. ⊎_elim (λ h. any_left P bs (joins bs) (any_listed P b 0 n s.0 (omega arith) (omega (arith, s.1)) h))
          (λ h. any_right P bs (joins bs) (pair_in P b 0 n s.0 h.0 (omega arith) h.1 (omega (arith, s.1)) h.2)) s.2,
      λ h. ⊎_elim (λ p. let r = listed_any P b 0 n p in (r.0, omega (arith, r.1), inl r.2))
          (λ p. let r = pair_out P b 0 n p in (r.0, omega (arith, r.4), inr (r.1, r.3, r.5))) (any_split P bs (joins bs) h),
    )

clear_iff : (a : Axis) (d xs ys : List ℕ) (nx ny : ℕ) (b : ℕ → Block) (n : ℕ) → Marked a d xs nx ys ny b n
    → (i j : ℕ) → i < nx → j < ny → (get_or d (cell i j) 0 ≡ 0) ↔ (¬ (Blocked (joined (listed b 0 n)) (edge a (crossing xs ys i j))))
clear_iff a d xs ys nx ny b n m i j hi hj =
    let s = shut_iff a xs ys b n i j in (
      λ z h. ⊎_elim (λ p. omega (arith, p.1)) (λ p. p.0 (s.1 h)) (m.each i j hi hj),
      λ z. ⊎_elim (λ p. absurd (z (s.0 p.0))) (λ p. p.1) (m.each i j hi hj),
    )

-- ---- both axes

module _ (w h : ℕ) (x0 y0 x1 y1 c : List ℕ) (n : ℕ) (fx fy : List ℕ) (x y : Tracks)
    (tx : AreTracks (spans n x0 x1 c) w fx x) (ty : AreTracks (spans n y0 y1 c) h fy y) (hw : 1 ≤ w) (hh : 1 ≤ h) where
  abbrev alone : List Block
  alone = listed (box_at x0 y0 x1 y1 c) 0 n

  abbrev boxes : List Block
  boxes = joined alone

  abbrev both : Axis → lines.Tracks
  both = tracks (tracks_in x.at x.count) (tracks_in y.at y.count)

  pub all_tracked : All (BlockTracked both (grid_with w h boxes)) boxes
  all_tracked =
      joined_tracked both (grid_with w h boxes) alone
      (all_listed (BlockTracked both (grid_with w h boxes)) (box_at x0 y0 x1 y1 c) 0 n (λ k p q. each k (omega arith)))
    where
      each : (k : ℕ) → k < n → (a : Axis) → Tracked (both a) (side a (grid_with w h boxes)) (span a (box_at x0 y0 x1 y1 c k))
      each k q level = unfold box_at in to_rule (spans n x0 x1 c) w fx x tx (span_at x0 x1 c k) (span_in x0 x1 c n k q)
      each k q upright = unfold box_at in to_rule (spans n y0 y1 c) h fy y ty (span_at y0 y1 c k) (span_in y0 y1 c n k q)

  pub all_marked : (flat tall : List ℕ) → Marked level flat x.at x.count y.at y.count (box_at x0 y0 x1 y1 c) n
      → Marked upright tall x.at x.count y.at y.count (box_at x0 y0 x1 y1 c) n
      → Marks w h boxes (map x.at x.count y.at y.count flat tall)
  all_marked flat tall p q = record {
    nx_some = omega (arith, track_two tx hw);
    ny_some = omega (arith, track_two ty hh);
    rise_x = to_walks (spans n x0 x1 c) w fx x tx hw;
    rise_y = to_walks (spans n y0 y1 c) h fy y ty hh;
    clear = clear;
  }
    where
      clear : (a : Axis) (i j : ℕ) → i < x.count → j < y.count
          → (get_or (marks (map x.at x.count y.at y.count flat tall) a) (cell i j) 0 ≡ 0) ↔ (¬ (Blocked boxes (edge a (crossing x.at y.at i j))))
      clear level i j hi hj = clear_iff level flat x.at y.at x.count y.count (box_at x0 y0 x1 y1 c) n p i j hi hj
      clear upright i j hi hj = clear_iff upright tall x.at y.at x.count y.count (box_at x0 y0 x1 y1 c) n q i j hi hj
