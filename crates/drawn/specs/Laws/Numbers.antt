-- The numbers as corners, and the corners as an item holds them.
-- Assumes nothing.
use Rattle.std.specs.Prelude.{ℕ, zero, suc, ◌+◌, ◌-◌, ◌≤◌, ◌<◌, ◌≡◌, refl, List, [], ◌∷◌, map, get_or, set, replicate}
use native.Mathlib.Omega.{arith}
use Rattle.std.proofs.Common.{add-one, sym, ap₂, ◌∙◌, length-append, take-suc, length-take-le}
use Rattle.std.proofs.Math.Path.{ap}
use Rattle.std.proofs.Math.ListN.{length, take}
use Rattle.std.proofs.lemmas.List.{length-replicate, length-map}
use Rattle.std.proofs.Math.Seq.{take_all}
use Rattle.paper.specs.declared.Item.{Item}
use Rattle.paper.specs.Limits.{most_corners}
use Rattle.paper.specs.Grid.{Node}
use Rattle.paper.specs.Layout.{wire}
use Rattle.paper.specs.Padding.{filled, item_of}
use Rattle.paper.specs.Drawn.{drawn}
use Rattle.paper.specs.Laws.Back.{nodes_back, take_filled}
use Rattle.paper.specs.Laws.Drawn.{length_drawn}
use Rattle.paper.specs.Laws.Filled.{images_more}
use Rattle.shapes.specs.Corners.{corners_of}

abbrev origin : Node
origin = record { x = 0; y = 0 }

drawn_at : (ns : List ℕ) (k j : ℕ) → length ns ≡ k + k → j < k
    → ((get_or (drawn ns) j origin).x ≡ get_or ns (j + j) 0) × ((get_or (drawn ns) j origin).y ≡ get_or ns (j + j + 1) 0)
unfolding drawn
drawn_at [] k j e h = absurd (omega arith)
drawn_at (x ∷ []) zero j e h = absurd (omega arith)
drawn_at (x ∷ []) (suc k) j e h = absurd (omega arith)
drawn_at (x ∷ y ∷ ns) zero j e h = absurd (omega arith)
drawn_at (x ∷ y ∷ ns) (suc k) zero e h = (refl, refl)
drawn_at (x ∷ y ∷ ns) (suc k) (suc j) e h =
    let m = drawn_at ns k j (omega arith) (omega arith) in
    let a : suc j + suc j ≡ suc (suc (j + j)) = omega arith in
    let b : suc j + suc j + 1 ≡ suc (suc (j + j + 1)) = omega arith in
    (m.0 ∙ ap (λ i. get_or (x ∷ y ∷ ns) i 0) (sym a), m.1 ∙ ap (λ i. get_or (x ∷ y ∷ ns) i 0) (sym b))

-- the arrays once k corners are in them
abbrev pub xs_of : List ℕ → ℕ → List ℕ
xs_of ns k = filled 0 most_corners (map (λ p. p.x) (take k (drawn ns)))

abbrev pub ys_of : List ℕ → ℕ → List ℕ
ys_of ns k = filled 0 most_corners (map (λ p. p.y) (take k (drawn ns)))

module _ (ns : List ℕ) (n : ℕ) (e : length ns ≡ n + n) (few : n ≤ most_corners) where
  more : (f : Node → ℕ) (k : ℕ) → k < n → set (filled 0 most_corners (map f (take k (drawn ns)))) k (f (get_or (drawn ns) k origin))
      ≡ filled 0 most_corners (map f (take (k + 1) (drawn ns)))
  more f k h =
      let l = length_drawn ns n e in
      images_more f 0 most_corners (take k (drawn ns)) (get_or (drawn ns) k origin) k (length-take-le k (drawn ns) (omega arith)) (omega arith)
      ∙ ap (λ ps. filled 0 most_corners (map f ps)) (sym (take-suc (drawn ns) k origin (omega arith)) ∙ ap (λ i. take i (drawn ns)) (sym (add-one k)))

  pub x_next : (k : ℕ) (out : List ℕ) → k < n → out ≡ xs_of ns k → set out k (get_or ns (k + k) 0) ≡ xs_of ns (k + 1)
  x_next k out h o = ap₂ (λ l v. set l k v) o (sym (drawn_at ns n k e h).0) ∙ more (λ p. p.x) k h

  pub y_next : (k : ℕ) (out : List ℕ) → k < n → out ≡ ys_of ns k → set out k (get_or ns (k + k + 1) 0) ≡ ys_of ns (k + 1)
  y_next k out h o = ap₂ (λ l v. set l k v) o (sym (drawn_at ns n k e h).1) ∙ more (λ p. p.y) k h

  pub wire_whole : (m : Item) (k : ℕ) → n ≤ k → m.id ≡ 0 → m.runs ≡ n - 1 → m.xs ≡ xs_of ns k → m.ys ≡ ys_of ns k → m ≡ item_of (wire 0 (drawn ns))
  unfolding item_of
  wire_whole m k h a b x y =
      let l = length_drawn ns n e in
      let t : take k (drawn ns) ≡ drawn ns = take_all k (drawn ns) (omega arith) in
      let r : m.runs ≡ length (drawn ns) - 1 = omega arith in
      let xs : m.xs ≡ filled 0 most_corners (map (λ p. p.x) (drawn ns)) = x ∙ ap (λ ps. filled 0 most_corners (map (λ p. p.x) ps)) t in
      let ys : m.ys ≡ filled 0 most_corners (map (λ p. p.y) (drawn ns)) = y ∙ ap (λ ps. filled 0 most_corners (map (λ p. p.y) ps)) t in
      λ i. record { id = a i; runs = r i; xs = xs i; ys = ys i }

-- read back
pub corners_back : (ps : List Node) (n : ℕ) → length ps ≡ n → corners_of (item_of (wire 0 ps)) n ≡ ps
unfolding item_of
corners_back ps n e =
    rw (take_filled (λ (p : Node). p.x) 0 most_corners ps n e, take_filled (λ (p : Node). p.y) 0 most_corners ps n e) (nodes_back ps)

-- both arrays have their length
pub item_long : (ps : List Node) (m : Item) → m ≡ item_of (wire 0 ps) → length ps ≤ most_corners → (length m.xs ≡ most_corners) × (length m.ys ≡ most_corners)
unfolding item_of
item_long ps m e h = (ap (λ m. length m.xs) e ∙ full (map (λ p. p.x) ps) (omega (arith, length-map ps (λ p. p.x))), ap (λ m. length m.ys) e ∙ full (map (λ p. p.y) ps) (omega (arith, length-map ps (λ p. p.y))))
  where
    full : (l : List ℕ) → length l ≤ most_corners → length (filled 0 most_corners l) ≡ most_corners
    full l h = omega (arith, length-append l (replicate (most_corners - length l) 0), length-replicate {A = ℕ} (most_corners - length l) 0)
