-- What is told from a table of distances and the trail through it.
-- Assumes nothing.
use Rattle.std.specs.Prelude.{ℕ, ◌-◌, ◌/◌, ◌≤◌, ◌<◌, ◌≡◌, None, Result, Ok, Err, List, [], ◌∷◌, map, length, get_or}
use Rattle.paper.specs.declared.Size.{Size}
use Rattle.paper.specs.declared.Pins.{Pins}
use Rattle.paper.specs.declared.Mode.{Mode}
use Rattle.paper.specs.declared.Mode.TheVariants.{Plain, Fewest}
use Rattle.paper.specs.Layout.{InRange, OnBoard}
use Rattle.blocks.specs.declared.Blocks.{Blocks}
use Rattle.blocks.specs.Flat.{first_at, Fits}
use Rattle.tracks.specs.declared.Tracks.{Tracks}
use Rattle.tracks.specs.Tracks.{spans, AreTracks}
use Rattle.paper.specs.Limits.{most_corners}
use Rattle.paper.specs.Grid.{Node, Dir}
use Rattle.paper.specs.Wire.{corners, manhattan, gap}
use Rattle.paper.specs.Padding.{filled}
use Rattle.paper.specs.Answer.{source, target}
use Rattle.distances.specs.Lower.{none}
use Rattle.distances.specs.Ways.{Map}
use Rattle.tracks.specs.declared.At.{At}
use Rattle.trace.specs.Trail.{crossing, distance, spot, Toll, toll, dues, Trail}
use Rattle.bends.specs.Table.{Owed, Bends}
use Rattle.walks.specs.Onward.{Begins}
use Rattle.walks.specs.Modes.{price_of}
use Rattle.router.specs.declared.Wire.{Wire}
use Rattle.router.specs.declared.Untold.{Untold}
use Rattle.router.specs.declared.Untold.TheVariants.{NoWire, TooManyRuns}

unfoldable pub detour_for : ℕ → Pins → ℕ
detour_for n p = (n - gap p.sx p.tx - gap p.sy p.ty) / 2

-- the answer with the corners ps
abbrev pub telling : ℕ → Pins → List Node → Result Wire Untold
telling n p ps = Ok (record {
  length = n;
  detour = detour_for n p;
  corners = length ps;
  xs = filled 0 most_corners (map (λ q. q.x) ps);
  ys = filled 0 most_corners (map (λ q. q.y) ps);
})

pub record Ready (m : Map) (d : List ℕ) (s t : At) (p : Pins) : Type 0 where
  pub s_x : s.i < m.nx
  pub s_y : s.j < m.ny
  pub home : distance d (crossing t) ≡ 0
  pub far : distance d (crossing s) < none → manhattan (source p) (target p) ≤ distance d (crossing s)
  pub owed : distance d (crossing s) < none → Owed m d (crossing t) (distance d (crossing s))

pub record Tells (m : Map) (d : List ℕ) (o : Toll) (left : ℕ) (s t : At) (p : Pins) (r : Result Wire Untold) : Type 0 where
  pub none_told : distance d (crossing s) ≡ none → r ≡ Err NoWire
  pub few_told : (v : List Dir) → Trail m d o (crossing t) None left (crossing s) v → distance d (crossing s) < none → length (corners (spot m (crossing s)) v) ≤ most_corners
      → r ≡ telling (distance d (crossing s)) p (corners (spot m (crossing s)) v)
  pub many_told : (v : List Dir) → Trail m d o (crossing t) None left (crossing s) v → distance d (crossing s) < none → most_corners < length (corners (spot m (crossing s)) v)
      → r ≡ Err (TooManyRuns (distance d (crossing s)))

-- ---- in each mode

-- the table that is lent to the trace: any, or that of the turns
unfoldable pub Lent : Mode → Map → List ℕ → Node → Node → List ℕ → Type 0
Lent Plain m d s t c = Unit {0}
Lent Fewest m d s t c = Bends m d s t c

-- told through such a table
pub record Turned (o : Mode) (m : Map) (d : List ℕ) (s t : At) (p : Pins) (r : Result Wire Untold) : Type 0 where
  pub table : List ℕ
  pub left : ℕ
  pub lent : Lent o m d (crossing s) (crossing t) table
  pub begins : Begins (dues (price_of o) table) (crossing s) left
  pub tells : Tells m d (toll (price_of o) table) left s t p r

pub record ToldIn (o : Mode) (m : Map) (d : List ℕ) (s t : At) (p : Pins) (r : Result Wire Untold) : Type 0 where
  pub none_told : distance d (crossing s) ≡ none → r ≡ Err NoWire
  pub turned : distance d (crossing s) < none → Turned o m d s t p r

abbrev pub Fewer : Map → List ℕ → At → At → Pins → Result Wire Untold → Type 0
Fewer m d s t p r = ToldIn Fewest m d s t p r

-- ---- on the tracks

-- one of the tracks stands at v
abbrev pub Stands : List ℕ → ℕ → ℕ → Type 0
Stands at count v = (j : ℕ) × (j < count) × (get_or at j 0 ≡ v)

-- the tracks of both axes, for these blocks and pins
pub record Tracked (s : Size) (b : Blocks) (p : Pins) (x y : Tracks) : Type 0 where
  pub range : InRange s
  pub fits : Fits b
  pub on : OnBoard s (source p) × OnBoard s (target p)
  pub on_x : AreTracks (spans (first_at b b.items) b.x0 b.x1 b.c) s.w (p.sx ∷ p.tx ∷ []) x
  pub on_y : AreTracks (spans (first_at b b.items) b.y0 b.y1 b.c) s.h (p.sy ∷ p.ty ∷ []) y
