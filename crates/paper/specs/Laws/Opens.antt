-- Grids with the same open edges have the same legal wires, and the same answered one in each mode.
-- Assumes nothing.
use Rattle.std.specs.Prelude.{ℕ, ◌↔◌}
use mathlib.Core.List.{List, [], ◌∷◌}
use Rattle.paper.specs.declared.Mode.{Mode}
use Rattle.paper.specs.declared.Mode.TheVariants.{Plain, Fewest}
use Rattle.paper.specs.Grid.{Node, Dir, E, N, W, S, step, Axis, level, upright, Grid, Edge, Free}
use Rattle.paper.specs.Wire.{Legal, AnsweredIn}

module _ (w h : ℕ) where
  abbrev pub floor : (Axis → Node → Type 0) → Grid
  floor K = record { wide = w; high = h; Open = K }

  module _ (K L : Axis → Node → Type 0) (more : (a : Axis) (p : Node) → K a p → L a p) where
    edge_more : (a : Axis) (p : Node) → Edge (floor K) a p → Edge (floor L) a p
    unfolding Edge
    edge_more level p e = (e.0, e.1, more level p e.2)
    edge_more upright p e = (e.0, e.1, more upright p e.2)

    free_more : (p : Node) (d : Dir) → Free (floor K) p d → Free (floor L) p d
    unfolding Free
    free_more p E f = edge_more level p f
    free_more p N f = edge_more upright p f
    free_more p W f = (f.0, edge_more level (step W p) f.1)
    free_more p S f = (f.0, edge_more upright (step S p) f.1)

    pub legal_more : (s t : Node) (v : List Dir) → Legal (floor K) s t v → Legal (floor L) s t v
    unfolding Legal
    legal_more s t [] l = l
    legal_more s t (d ∷ v) l = (free_more s d l.0, legal_more (step d s) t v l.1)

  module _ (K L : Axis → Node → Type 0) (same : (a : Axis) (p : Node) → K a p ↔ L a p) (s t : Node) where
    back : (v : List Dir) → Legal (floor L) s t v → Legal (floor K) s t v
    back = legal_more L K (λ a p. (same a p).1) s t

    pub answered_alike : (m : Mode) (v : List Dir) → AnsweredIn m (floor K) s t v → AnsweredIn m (floor L) s t v
    answered_alike Plain v h = record {
      legal = legal_more K L (λ a p. (same a p).0) s t v h.legal;
      shortest = λ u l. h.shortest u (back u l);
      first = λ u l e. h.first u (back u l) e;
    }
    answered_alike Fewest v h = record {
      legal = legal_more K L (λ a p. (same a p).0) s t v h.legal;
      shortest = λ u l. h.shortest u (back u l);
      straightest = λ u l e. h.straightest u (back u l) e;
      first = λ u l e f. h.first u (back u l) e f;
    }
