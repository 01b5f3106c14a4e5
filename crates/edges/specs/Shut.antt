-- From ranges and marks to the ways that blocks shut.
-- Assumes nothing.
use Rattle.std.specs.Prelude.{ℕ, suc, ◌+◌, ◌≤◌, ◌<◌, ◌≡◌, refl, ◌⊎◌, ◌↔◌, List, [], ◌∷◌, get_or}
use Rattle.std.proofs.Common.{eq-or-lt_of_le, le_of_suc-le-suc, arith, sym, ap₂, subst, subst₂, ◌∙◌}
use Rattle.std.proofs.Math.Decide.{dec_lt, dec_le}
use Rattle.std.proofs.Math.Logic.{inl, inr, ⊎_elim}
use Rattle.paper.specs.Grid.{Axis, level, upright, Meets, Block, Hits, Any, step}
use Rattle.paper.specs.Laws.Joins.{Touch, Share, join_of}
use Rattle.paper.specs.Laws.Joining.{join_none}
use Rattle.tracks.specs.declared.Map.{Map}
use Rattle.blocks.specs.declared.Blocks.{Blocks}
use Rattle.blocks.specs.declared.Place.{Place}
use Rattle.blocks.specs.Flat.{place_at}
use Rattle.seams.specs.Seaming.{place_box}
use Rattle.edges.specs.declared.Range.{Range}
use Rattle.edges.specs.Ranges.{Ascending, Meeting}
use Rattle.edges.specs.Marks.{cell, In, Boxed, box_at, boxes, Shuts, SeamShuts, Seam, Added, Blank, Shut, Marked}
use Rattle.edges.specs.Maps.{Mapped, Ways, ByBlock, ByRectangle, BySeams, Gains}

-- how far the first unit edge of a way reaches on each axis
abbrev pub on_x : Axis → ℕ
on_x level = 1
on_x upright = 0

abbrev pub on_y : Axis → ℕ
on_y level = 0
on_y upright = 1

-- a block shuts a way where it meets it on both axes
shuts_iff : (a : Axis) (b : Block) (xs ys : List ℕ) (i j : ℕ)
    → Shuts a b xs ys i j ↔ (Meets b.along_x (get_or xs i 0) (get_or xs i 0 + on_x a) × Meets b.along_y (get_or ys j 0) (get_or ys j 0 + on_y a))
unfolding Shuts Hits Meets step
shuts_iff level b xs ys i j = (λ h. omega arith, λ h. omega arith)
shuts_iff upright b xs ys i j = (λ h. omega arith, λ h. omega arith)

in_or_out : (x y : Range) (i j : ℕ) → In x y i j ⊎ (¬ (In x y i j))
in_or_out x y i j =
    elim (dec_le x.from i) [
      | no h ↦ inr (λ p. h p.0.0)
      | yes h ↦ elim (dec_lt i x.to) [
        | no k ↦ inr (λ p. k p.0.1)
        | yes k ↦ elim (dec_le y.from j) [
          | no m ↦ inr (λ p. m p.1.0)
          | yes m ↦ elim (dec_lt j y.to) [ no n ↦ inr (λ p. n p.1.1) | yes n ↦ inl ((h, k), (m, n)) ]
        ]
      ]
    ]

-- the marks of one block
pub added : (a : Axis) (b : Block) (xs ys d e : List ℕ) (nx ny : ℕ) (x y : Range) → nx ≤ 96
    → Meeting xs nx b.along_x.lo b.along_x.hi b.along_x.c (on_x a) x
    → Meeting ys ny b.along_y.lo b.along_y.hi b.along_y.c (on_y a) y
    → Boxed d e x y → Added d e nx ny (Shuts a b xs ys)
added a b xs ys d e nx ny x y narrow p q box = record {
  long = box.long;
  each = λ i j hi hj.
      let on = shuts_iff a b xs ys i j in
      ⊎_elim
      (λ m. inl (on.1 ((p.those i hi).0 m.0, (q.those j hj).0 m.1), box.marked i j (omega arith) m))
      (λ m. inr (λ s. m ((p.those i hi).1 (on.0 s).0, (q.those j hj).1 (on.0 s).1), box.others i j (omega arith) m))
      (in_or_out x y i j);
  rest = λ i j hi out.
      box.others i j hi (λ m. ⊎_elim (λ h. omega (arith, h, m.0.1, p.ends)) (λ h. omega (arith, h, m.1.1, q.ends)) out);
}

-- ---- one after another

pub added_none : (d : List ℕ) (nx ny : ℕ) (P : ℕ → ℕ → Type 0) → ((i j : ℕ) → ¬ (P i j)) → Added d d nx ny P
added_none d nx ny P n = record { long = refl; each = λ i j hi hj. inr (n i j, refl); rest = λ i j hi out. refl }

pub added_both : (d e f : List ℕ) (nx ny : ℕ) (P Q R : ℕ → ℕ → Type 0) → ((i j : ℕ) → R i j ↔ (P i j ⊎ Q i j))
    → Added d e nx ny P → Added e f nx ny Q → Added d f nx ny R
added_both d e f nx ny P Q R s p q = record {
  long = q.long ∙ p.long;
  each = λ i j hi hj.
      ⊎_elim
      (λ h. inl ((s i j).1 (inr h.0), h.1))
      (λ h. ⊎_elim (λ k. inl ((s i j).1 (inl k.0), h.1 ∙ k.1)) (λ k. inr (λ r. ⊎_elim k.0 h.0 ((s i j).0 r), h.1 ∙ k.1)) (p.each i j hi hj))
      (q.each i j hi hj);
  rest = λ i j hi out. q.rest i j hi out ∙ p.rest i j hi out;
}

-- ---- one after another on a map

-- where none is meant
pub gains_none : (m : Map) (P : Ways) → ((a : Axis) (i j : ℕ) → ¬ (P a m.x m.y i j)) → Gains m m P
gains_none m P n = record {
  x_kept = refl;
  y_kept = refl;
  level_ways = added_none m.flat m.x.count m.y.count (P level m.x m.y) (n level);
  upright_ways = added_none m.tall m.x.count m.y.count (P upright m.x m.y) (n upright);
}

-- what is meant the second time, on the tracks of the first
module _ {m n o : Map} (P Q R : Ways) (s : (a : Axis) (i j : ℕ) → R a m.x m.y i j ↔ (P a m.x m.y i j ⊎ Q a m.x m.y i j)) (p : Gains m n P) (q : Gains n o Q) where
  pub gains_both : Gains m o R
  gains_both = record {
    x_kept = q.x_kept ∙ p.x_kept;
    y_kept = q.y_kept ∙ p.y_kept;
    level_ways = added_both m.flat n.flat o.flat m.x.count m.y.count _ _ _ (s level) p.level_ways
        (subst₂ (λ x y. Added n.flat o.flat x.count y.count (Q level x y)) p.x_kept p.y_kept q.level_ways);
    upright_ways = added_both m.tall n.tall o.tall m.x.count m.y.count _ _ _ (s upright) p.upright_ways
        (subst₂ (λ x y. Added n.tall o.tall x.count y.count (Q upright x y)) p.x_kept p.y_kept q.upright_ways);
  }

-- the same in other words
pub gains_as : {m n : Map} (P R : Ways) → ((a : Axis) (i j : ℕ) → R a m.x m.y i j ↔ P a m.x m.y i j) → Gains m n P → Gains m n R
gains_as {m} P R s p =
    gains_both P (λ a x y i j. ⊥) R (λ a i j. (λ r. inl ((s a i j).0 r), ⊎_elim (s a i j).1 (λ x. absurd x))) p (gains_none _ _ (λ a i j h. h))

same_tracks : {m n : Map} → Mapped m → n.x ≡ m.x → n.y ≡ m.y → Mapped n
same_tracks h e f = record { x = subst Ascending (sym e) h.x; y = subst Ascending (sym f) h.y }

pub gains_mapped : {m n : Map} {P : Ways} → Mapped m → Gains m n P → Mapped n
gains_mapped h g = same_tracks h g.x_kept g.y_kept

-- ---- the rectangle of two blocks

wide_first : (b d : Block) → ¬ (b.along_x.c ≡ 0) → join_of b d ≡ []
unfolding Touch Share
wide_first b d n = join_none b d (λ h. n h.0.0.0) (λ h. n h.0.0.0)

wide_second : (b d : Block) → ¬ (d.along_x.c ≡ 0) → join_of b d ≡ []
unfolding Touch Share
wide_second b d n = join_none b d (λ h. n h.0.0.1) (λ h. n h.0.0.1)

-- that of two places is that of the blocks there that are not widened
pub joined : (held : Blocks) (m k : ℕ) {p q : Place} {js : List Block} → get_or held.c m 0 ≡ 0 → get_or held.c k 0 ≡ 0
    → p ≡ place_at held m → q ≡ place_at held k → join_of (place_box p) (place_box q) ≡ js → join_of (boxes held m) (boxes held k) ≡ js
unfolding box_at
joined held m k e f g h j =
    ap₂ join_of (bare m e) (bare k f) ∙ rw (g, h) at j
  where
    bare : (l : ℕ) → get_or held.c l 0 ≡ 0 → boxes held l ≡ place_box (place_at held l)
    bare l z = λ i. record {
      along_x = record { lo = get_or held.x0 l 0; hi = get_or held.x1 l 0; c = z i };
      along_y = record { lo = get_or held.y0 l 0; hi = get_or held.y1 l 0; c = z i };
    }

module _ (m : Map) (b d : Block) where
  -- where there is none
  pub gains_apart : join_of b d ≡ [] → Gains m m (ByRectangle b d)
  unfolding SeamShuts Any
  gains_apart e = gains_none m (ByRectangle b d) (λ a i j h. rw e at h)

  pub gains_wide : ¬ (b.along_x.c ≡ 0) → Gains m m (ByRectangle b d)
  gains_wide n = gains_apart (wide_first b d n)

  -- what the rectangle shuts is what it is to shut
  pub gains_over : {n : Map} (q : Block) → join_of b d ≡ q ∷ [] → Gains m n (ByBlock q) → Gains m n (ByRectangle b d)
  unfolding SeamShuts Any
  gains_over q e g = gains_as (ByBlock q) (ByRectangle b d) (λ a i j. (λ h. ⊎_elim (λ x. x) (λ x. absurd x) (rw e at h), λ h. rw e (inl h))) g

-- ---- the rectangles of block k, one after another

module _ (b : ℕ → Block) (k : ℕ) where
  pub seams_first : (m : Map) → Gains m m (BySeams b k 0)
  seams_first m = gains_none m (BySeams b k 0) (λ a i j h. omega (arith, h.1))

  pub seams_next : {m n o : Map} (l : ℕ) → Gains m n (BySeams b k l) → Gains n o (ByRectangle (b l) (b k)) → Gains m o (BySeams b k (l + 1))
  seams_next {m} l p q =
      gains_both (BySeams b k l) (ByRectangle (b l) (b k)) (BySeams b k (l + 1)) (λ a i j. (
        λ s. ⊎_elim (λ e. inr (subst (λ h. SeamShuts a (b h) (b k) m.x.at m.y.at i j) e s.2)) (λ h. inl (s.0, h, s.2))
            (eq-or-lt_of_le (le_of_suc-le-suc (let h : s.0 < suc l = omega (arith, s.1) in h))),
        ⊎_elim (λ s. (s.0, omega (arith, s.1), s.2)) (λ s. (l, omega arith, s)),
      )) p q

  -- a block that is widened has none
  pub seams_wide : (m : Map) → ¬ ((b k).along_x.c ≡ 0) → Gains m m (BySeams b k k)
  unfolding SeamShuts Any
  seams_wide m n = gains_none m (BySeams b k k) (λ a i j h. let e : join_of (b h.0) (b k) ≡ [] = wide_second (b h.0) (b k) n in rw e at h.2)

-- ---- block after block

module _ (a : Axis) (xs : List ℕ) (nx : ℕ) (ys : List ℕ) (ny : ℕ) (b : ℕ → Block) where
  marked_first : (d : List ℕ) → nx ≤ 96 → ny ≤ 96 → Blank d → Marked a d xs nx ys ny b 0
  marked_first d hx hy z = record {
    long = z.long;
    each = λ i j hi hj. inr (λ s. omega (arith, s.1), z.each (cell i j) (omega arith));
    rest = λ i j hi hj out. z.each (cell i j) (omega arith);
  }

  -- what block n adds: what it shuts itself, and its rectangles with those before it
  abbrev Adds : ℕ → ℕ → ℕ → Type 0
  Adds n i j = Shuts a (b n) xs ys i j ⊎ Seam a xs ys b n n i j

  -- with one block more a way is shut by it or by one before
  shut_more : (n i j : ℕ) → Shut a xs ys b (n + 1) i j → Shut a xs ys b n i j ⊎ Adds n i j
  shut_more n i j s =
      ⊎_elim (λ e. inr (subst (λ k. Adds k i j) e s.2)) (λ h. inl (s.0, h, s.2))
      (eq-or-lt_of_le (le_of_suc-le-suc (let h : s.0 < suc n = omega (arith, s.1) in h)))

  marked_by : (d e : List ℕ) (n : ℕ) → Marked a d xs nx ys ny b n → Added d e nx ny (Adds n) → Marked a e xs nx ys ny b (n + 1)
  marked_by d e n m p = record {
    long = p.long ∙ m.long;
    each = λ i j hi hj.
        ⊎_elim
        (λ h. inl ((n, omega arith, h.0), h.1))
        (λ h. ⊎_elim
        (λ k. inl ((k.0.0, omega (arith, k.0.1), k.0.2), h.1 ∙ k.1))
        (λ k. inr (λ s. ⊎_elim k.0 h.0 (shut_more n i j s), h.1 ∙ k.1))
        (m.each i j hi hj))
        (p.each i j hi hj);
    rest = λ i j hi hj out. p.rest i j hi out ∙ m.rest i j hi hj out;
  }

-- from m on, whose tables had no marks, the first k blocks are marked
pub record Done (m n : Map) (b : ℕ → Block) (k : ℕ) : Type 0 where
  pub x_kept : n.x ≡ m.x
  pub y_kept : n.y ≡ m.y
  pub level_ways : Marked level n.flat m.x.at m.x.count m.y.at m.y.count b k
  pub upright_ways : Marked upright n.tall m.x.at m.x.count m.y.at m.y.count b k

pub done_first : (m : Map) (b : ℕ → Block) → Mapped m → Blank m.flat × Blank m.tall → Done m m b 0
done_first m b h z = record {
  x_kept = refl;
  y_kept = refl;
  level_ways = marked_first level m.x.at m.x.count m.y.at m.y.count b m.flat h.x.few h.y.few z.0;
  upright_ways = marked_first upright m.x.at m.x.count m.y.at m.y.count b m.tall h.x.few h.y.few z.1;
}

-- block k itself, and its rectangles with those before it
abbrev Adding : (ℕ → Block) → ℕ → Ways
Adding b k a x y i j = ByBlock (b k) a x y i j ⊎ BySeams b k k a x y i j

pub done_more : {m n o q : Map} (b : ℕ → Block) (k : ℕ) → Done m n b k → Gains n o (ByBlock (b k)) → Gains o q (BySeams b k k) → Done m q b (k + 1)
done_more {m} {n} {o} {q} b k d g s = record {
  x_kept = all.x_kept ∙ d.x_kept;
  y_kept = all.y_kept ∙ d.y_kept;
  level_ways = marked_by level m.x.at m.x.count m.y.at m.y.count b n.flat q.flat k d.level_ways
      (subst₂ (λ x y. Added n.flat q.flat x.count y.count (Adding b k level x y)) d.x_kept d.y_kept all.level_ways);
  upright_ways = marked_by upright m.x.at m.x.count m.y.at m.y.count b n.tall q.tall k d.upright_ways
      (subst₂ (λ x y. Added n.tall q.tall x.count y.count (Adding b k upright x y)) d.x_kept d.y_kept all.upright_ways);
}
  where
    all : Gains n q (Adding b k)
    all = gains_both (ByBlock (b k)) (BySeams b k k) (Adding b k) (λ a i j. (λ h. h, λ h. h)) g s

pub done_mapped : {m n : Map} {b : ℕ → Block} {k : ℕ} → Mapped m → Done m n b k → Mapped n
done_mapped h d = same_tracks h d.x_kept d.y_kept

-- told by the tracks that it has now
module _ {m n : Map} {b : ℕ → Block} {k : ℕ} (d : Done m n b k) where
  pub done_level : Marked level n.flat n.x.at n.x.count n.y.at n.y.count b k
  done_level = subst₂ (λ x y. Marked level n.flat x.at x.count y.at y.count b k) (sym d.x_kept) (sym d.y_kept) d.level_ways

  pub done_upright : Marked upright n.tall n.x.at n.x.count n.y.at n.y.count b k
  done_upright = subst₂ (λ x y. Marked upright n.tall x.at x.count y.at y.count b k) (sym d.x_kept) (sym d.y_kept) d.upright_ways
