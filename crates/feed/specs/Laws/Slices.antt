-- The lent slice: corners written from its start, two numbers each.
-- Assumes nothing.
use Rattle.std.specs.Prelude.{ℕ, zero, suc, ◌+◌, ◌≤◌, ◌<◌, ◌≡◌, List, [], ◌∷◌, ◌++◌, map}
use Rattle.std.proofs.Common.{arith, add-one, sym, ap, ◌∙◌, append_assoc, take-suc, drop-cons, length-take-le}
use Rattle.std.proofs.Math.Path.{refl}
use lib.ListN.{length, take, drop, get_or, set, length-append, replicate}
use Rattle.std.proofs.lemmas.List.{set_at}
use Rattle.std.proofs.Math.Seq.{append_snoc}
use Rattle.paper.specs.Grid.{Node}
use Rattle.paper.specs.Answer.{flat, written}
use Rattle.paper.specs.Laws.Back.{nodes, length_nodes}

-- ---- corners, read from two arrays

abbrev origin : Node
origin = record { x = 0; y = 0 }

node_at : (xs ys : List ℕ) (k : ℕ) → length xs ≡ length ys → k < length xs
    → get_or (nodes xs ys) k origin ≡ record { x = get_or xs k 0; y = get_or ys k 0 }
unfolding nodes
node_at [] ys k e h = absurd (omega arith)
node_at (x ∷ xs) [] k e h = absurd (omega arith)
node_at (x ∷ xs) (y ∷ ys) zero e h = refl
node_at (x ∷ xs) (y ∷ ys) (suc k) e h = node_at xs ys k (omega arith) (omega arith)

-- the arrays hold the corners ps, and zeros after them
pub nodes_are : (ps : List Node) (xs ys : List ℕ) (m n k : ℕ) → xs ≡ map (λ p. p.x) ps ++ replicate m 0 → ys ≡ map (λ p. p.y) ps ++ replicate n 0
    → k ≡ length ps → take k (nodes xs ys) ≡ ps
unfolding nodes
nodes_are [] xs ys m n k p q e = rw e (none (nodes xs ys))
  where
    none : (l : List Node) → take 0 l ≡ []
    none l = refl
nodes_are (r ∷ ps) xs ys m n k p q e = rw (p, q, e) (ap (λ l. r ∷ l) (nodes_are ps _ _ m n (length ps) refl refl refl))

-- ---- the slice

length_flat : (ps : List Node) → length (flat ps) ≡ length ps + length ps
unfolding flat
length_flat [] = refl
length_flat (p ∷ ps) = omega (arith, length_flat ps)

flat_more : (ps : List Node) (p : Node) → flat (ps ++ p ∷ []) ≡ flat ps ++ (p.x ∷ p.y ∷ [])
unfolding flat
flat_more [] p = refl
flat_more (q ∷ ps) p = ap (λ l. q.x ∷ q.y ∷ l) (flat_more ps p)

-- one corner more
written_more : (s : List ℕ) (ps : List Node) (p : Node) (k : ℕ) → length ps ≡ k → k + k + 1 < length s
    → set (set (written ps s) (k + k) p.x) (k + k + 1) p.y ≡ written (ps ++ p ∷ []) s
written_more s ps p k e h =
    let n : length (flat ps) ≡ k + k = omega (arith, length_flat ps) in
    let m : length (flat (ps ++ p ∷ [])) ≡ suc (suc (k + k)) = omega (arith, length_flat (ps ++ p ∷ []), length-append ps (p ∷ [])) in
    let a : drop (k + k) s ≡ get_or s (k + k) 0 ∷ get_or s (suc (k + k)) 0 ∷ drop (suc (suc (k + k))) s
    = drop-cons s (k + k) 0 (omega arith) ∙ ap (λ l. get_or s (k + k) 0 ∷ l) (drop-cons s (suc (k + k)) 0 (omega arith)) in
    let x : set (flat ps ++ get_or s (k + k) 0 ∷ get_or s (suc (k + k)) 0 ∷ drop (suc (suc (k + k))) s) (k + k) p.x
    ≡ flat ps ++ p.x ∷ get_or s (suc (k + k)) 0 ∷ drop (suc (suc (k + k))) s = set_at (flat ps) _ _ p.x (k + k) n in
    let l : length (flat ps ++ p.x ∷ []) ≡ suc (k + k) = omega (arith, length-append (flat ps) (p.x ∷ [])) in
    let y : set ((flat ps ++ p.x ∷ []) ++ get_or s (suc (k + k)) 0 ∷ drop (suc (suc (k + k))) s) (suc (k + k)) p.y
    ≡ (flat ps ++ p.x ∷ []) ++ p.y ∷ drop (suc (suc (k + k))) s = set_at (flat ps ++ p.x ∷ []) _ _ p.y (suc (k + k)) l in
    let z : set (flat ps ++ p.x ∷ get_or s (suc (k + k)) 0 ∷ drop (suc (suc (k + k))) s) (suc (k + k)) p.y
    ≡ flat ps ++ p.x ∷ p.y ∷ drop (suc (suc (k + k))) s
    = ap (λ l. set l (suc (k + k)) p.y) (sym (append_snoc (flat ps) p.x _)) ∙ y ∙ append_snoc (flat ps) p.x _ in
    rw (n, m, a, add-one, x, flat_more ps p, append_assoc) z

module _ (xs ys s : List ℕ) (e : length xs ≡ length ys) where
  pub write_first : s ≡ written (take 0 (nodes xs ys)) s
  unfolding flat
  write_first = refl

  pub write_next : (k : ℕ) (out : List ℕ) → k < length xs → k + k + 1 < length s → out ≡ written (take k (nodes xs ys)) s
      → set (set out (k + k) (get_or xs k 0)) (k + k + 1) (get_or ys k 0) ≡ written (take (k + 1) (nodes xs ys)) s
  write_next k out h long p =
      let few : k < length (nodes xs ys) = omega (arith, length_nodes xs ys e) in
      let t : take (k + 1) (nodes xs ys) ≡ take k (nodes xs ys) ++ (record { x = get_or xs k 0; y = get_or ys k 0 } ∷ [])
      = rw (add-one, take-suc (nodes xs ys) k origin few, node_at xs ys k e h) in
      rw (p, t) (written_more s (take k (nodes xs ys)) (record { x = get_or xs k 0; y = get_or ys k 0 }) k (length-take-le k (nodes xs ys) (omega arith)) long)

  pub length_written : (ps : List Node) → length ps + length ps ≤ length s → length (written ps s) ≡ length s
  length_written ps h = omega (arith, length-append (flat ps) (drop (length (flat ps)) s), lib.ListN.length-drop (length (flat ps)) s, length_flat ps)
