-- One call of the trace: at home, stuck, straight on, or with a corner.
-- Assumes nothing.
use Rattle.std.specs.Prelude.{ℕ, ◌+◌, ◌≤◌, ◌≡◌, Option, Some, None, List, [], ◌∷◌, ◌++◌, map, length, replicate}
use Rattle.std.proofs.Common.{arith, sym, ap, subst, ◌∙◌}
use Rattle.paper.specs.Grid.{Node, Dir, step, Free}
use Rattle.paper.specs.Laws.Steps.{axis_of}
use Rattle.distances.specs.Ways.{Map}
use Rattle.trace.specs.Trail.{distance, chart, spot, far, Leads, Toll, dues, Trail, FirstWay, Charted, corners_from, over, Traces}
use Rattle.trace.specs.Over.{over_more}
use Rattle.trace.specs.Hops.{far_some, hop_spot, from_end, corner_on, corner_at_lem}
use Rattle.trace.specs.Next.{trail_next, trail_stuck, trail_home}

-- ---- where the way leads

module _ (m : Map) (d : List ℕ) (o : Toll) (came : Option Dir) (left : ℕ) (c : Charted m d) (q : Node) (e : Dir) (w : FirstWay m d o came left q (Some e)) where
  pub leads : Leads m d q e
  unfolding FirstWay
  leads = w.0.leads

  pub falls : distance d (step e q) + 1 ≤ distance d q
  falls = omega (arith, leads.nearer, far_some m d c q e leads.clear)

-- ---- what is written

module _ (m : Map) (d : List ℕ) (o : Toll) (g q : Node) (came : Option Dir) (left at : ℕ) (xs ys : List ℕ) where
  pub traced_home : Charted m d → distance d g ≡ 0 → q ≡ g
      → Traces m d o g q came left at xs (over at ((spot m q).x ∷ []) xs) ys (over at ((spot m q).y ∷ []) ys) (at + 1)
  traced_home c z e = record {
    counted = λ v t. omega (arith, ap length (one v t));
    xs_are = λ v t. ap (λ ns. over at (map (λ p. p.x) ns) xs) (sym (one v t));
    ys_are = λ v t. ap (λ ns. over at (map (λ p. p.y) ns) ys) (sym (one v t));
  }
    where
      one : (v : List Dir) → Trail m d o g came left q v → corners_from came (spot m q) v ≡ spot m q ∷ []
      one v t = ap (corners_from came (spot m q)) (trail_home m d o g came left v c z (subst (λ p. Trail m d o g came left p v) e t)) ∙ from_end came (spot m q)

  pub traced_stuck : ¬ (q ≡ g) → FirstWay m d o came left q None → Traces m d o g q came left at xs xs ys ys at
  traced_stuck ne w = record {
    counted = λ v t. absurd (trail_stuck m d o g came left q v ne w t);
    xs_are = λ v t. absurd (trail_stuck m d o g came left q v ne w t);
    ys_are = λ v t. absurd (trail_stuck m d o g came left q v ne w t);
  }

  module _ (c : Charted m d) (ne : ¬ (q ≡ g)) (e : Dir) (w : FirstWay m d o came left q (Some e)) (xs' ys' : List ℕ) (r : ℕ) where
    clear : Free (chart m) q e
    clear = (leads m d o came left c q e w).clear

    -- straight on
    pub traced_on : came ≡ Some e → Traces m d o g (step e q) (Some e) (dues o.price o.table (axis_of e) (step e q)) at xs xs' ys ys' r
        → Traces m d o g q came left at xs xs' ys ys' r
    traced_on z t = record {
      counted = λ v p. let n = trail_next m d o g came left q e v ne w p in t.counted n.rest n.trail ∙ ap (λ ns. at + length ns) (sym (same v p));
      xs_are = λ v p. let n = trail_next m d o g came left q e v ne w p in t.xs_are n.rest n.trail ∙ ap (λ ns. over at (map (λ p. p.x) ns) xs) (sym (same v p));
      ys_are = λ v p. let n = trail_next m d o g came left q e v ne w p in t.ys_are n.rest n.trail ∙ ap (λ ns. over at (map (λ p. p.y) ns) ys) (sym (same v p));
    }
      where
        same : (v : List Dir) (p : Trail m d o g came left q v)
            → corners_from came (spot m q) v ≡ corners_from (Some e) (spot m (step e q)) (trail_next m d o g came left q e v ne w p).rest
        same v p =
            let n = trail_next m d o g came left q e v ne w p in
            ap (corners_from came (spot m q)) n.same ∙ ap (λ k. corners_from k (spot m q) (replicate (far m e q) e ++ n.rest)) z
            ∙ corner_on e (far m e q) (spot m q) _ n.rest (far_some m d c q e clear) (hop_spot m d c q e clear)

    -- with a corner
    pub traced_at : ¬ (came ≡ Some e)
        → Traces m d o g (step e q) (Some e) (dues o.price o.table (axis_of e) (step e q)) (at + 1) (over at ((spot m q).x ∷ []) xs) xs' (over at ((spot m q).y ∷ []) ys) ys' r
        → Traces m d o g q came left at xs xs' ys ys' r
    traced_at z t = record {
      counted = λ v p. let n = trail_next m d o g came left q e v ne w p in omega (arith, t.counted n.rest n.trail, ap length (same v p));
      xs_are = λ v p. let n = trail_next m d o g came left q e v ne w p in
          t.xs_are n.rest n.trail ∙ over_more at _ _ xs ∙ ap (λ ns. over at (map (λ p. p.x) ns) xs) (sym (same v p));
      ys_are = λ v p. let n = trail_next m d o g came left q e v ne w p in
          t.ys_are n.rest n.trail ∙ over_more at _ _ ys ∙ ap (λ ns. over at (map (λ p. p.y) ns) ys) (sym (same v p));
    }
      where
        same : (v : List Dir) (p : Trail m d o g came left q v)
            → corners_from came (spot m q) v ≡ spot m q ∷ corners_from (Some e) (spot m (step e q)) (trail_next m d o g came left q e v ne w p).rest
        same v p =
            let n = trail_next m d o g came left q e v ne w p in
            ap (corners_from came (spot m q)) n.same
            ∙ corner_at_lem e (far m e q) (spot m q) _ n.rest (far_some m d c q e clear) (hop_spot m d c q e clear) came z
