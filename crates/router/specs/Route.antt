-- What the router answers, in the paper's words.
-- Assumes nothing.
use Rattle.std.specs.Prelude.{ℕ, ◌≤◌, ◌<◌, ◌≡◌, ◌↔◌, Result, Ok, Err, List, [], map, length}
use Rattle.paper.specs.declared.Size.{Size}
use Rattle.paper.specs.declared.Pins.{Pins}
use Rattle.paper.specs.declared.Mode.{Mode}
use Rattle.paper.specs.declared.Mode.TheVariants.{Plain}
use Rattle.paper.specs.Limits.{most_runs, most_corners}
use Rattle.paper.specs.Grid.{Node, Dir, Grid, Block, Blocked, node}
use Rattle.paper.specs.Wire.{Legal, AnsweredIn, corners, runs_of, detour}
use Rattle.paper.specs.Layout.{InRange, OnBoard}
use Rattle.paper.specs.Padding.{filled}
use Rattle.paper.specs.Answer.{source, target}
use Rattle.router.specs.declared.Wire.{Wire}
use Rattle.router.specs.declared.Untold.{Untold}
use Rattle.router.specs.declared.Untold.TheVariants.{NoWire, TooManyRuns}

-- ---- the paper's number and values for each case

abbrev pub code_of : Result Wire Untold → ℕ
code_of (Ok w) = 0
code_of (Err NoWire) = 12
code_of (Err (TooManyRuns n)) = 13

abbrev pub length_of : Result Wire Untold → ℕ
length_of (Ok w) = w.length
length_of (Err e) = 0

abbrev pub detour_of : Result Wire Untold → ℕ
detour_of (Ok w) = w.detour
detour_of (Err e) = 0

abbrev pub corners_of : Result Wire Untold → ℕ
corners_of (Ok w) = w.corners
corners_of (Err e) = 0

-- no corners where there is no wire to tell
abbrev pub xs_of : Result Wire Untold → List ℕ
xs_of (Ok w) = w.xs
xs_of (Err e) = filled 0 most_corners []

abbrev pub ys_of : Result Wire Untold → List ℕ
ys_of (Ok w) = w.ys
ys_of (Err e) = filled 0 most_corners []

-- how long a shortest wire is, whatever its run count; 0 where there is none
abbrev pub shortest_of : Result Wire Untold → ℕ
shortest_of (Ok w) = w.length
shortest_of (Err NoWire) = 0
shortest_of (Err (TooManyRuns n)) = n

-- the values that go with the number: length, detour and corners, which are counted and stand in the arrays
pub record Valued (o : Result Wire Untold) (n d : ℕ) (ps : List Node) : Type 0 where
  pub length_is : length_of o ≡ n
  pub detour_is : detour_of o ≡ d
  pub corners_are : corners_of o ≡ length ps
  pub xs_are : xs_of o ≡ filled 0 most_corners (map (λ p. p.x) ps)
  pub ys_are : ys_of o ≡ filled 0 most_corners (map (λ p. p.y) ps)

-- ---- what is answered

-- the word that is answered, and how many runs it has
abbrev pub Few : Mode → Grid → Node → Node → List Dir → Type 0
Few m G s t w = AnsweredIn m G s t w × (runs_of s w ≤ most_runs)

abbrev pub Many : Mode → Grid → Node → Node → List Dir → Type 0
Many m G s t w = AnsweredIn m G s t w × (most_runs < runs_of s w)

-- each number exactly where it applies, and the values that go with it
pub record Coded (m : Mode) (G : Grid) (s t : Node) (o : Result Wire Untold) : Type 0 where
  pub few : (code_of o ≡ 0) ↔ ((w : List Dir) × Few m G s t w)
  pub none : (code_of o ≡ 12) ↔ ((w : List Dir) → ¬ (Legal G s t w))
  pub many : (code_of o ≡ 13) ↔ ((w : List Dir) × Many m G s t w)
  pub values : (w : List Dir) → Few m G s t w → Valued o (length w) (detour t s w) (corners s w)
  pub silent : ¬ (code_of o ≡ 0) → Valued o 0 0 []
  pub shortest : (w : List Dir) → AnsweredIn m G s t w → shortest_of o ≡ length w

abbrev pub AnswersIn : Mode → Grid → Node → Node → Result Wire Untold → Type 0
AnswersIn m G s t r = Coded m G s t r

abbrev pub Answers : Grid → Node → Node → Result Wire Untold → Type 0
Answers G s t r = AnswersIn Plain G s t r

-- ---- the same by cases, for the proofs

unfoldable pub Found : Mode → Grid → Node → Node → Result Wire Untold → Type 0
Found m G s t (Ok r) = (w : List Dir) × Few m G s t w × (r.length ≡ length w) × (r.detour ≡ detour t s w) × (r.corners ≡ length (corners s w))
Found m G s t (Err NoWire) = (w : List Dir) → ¬ (Legal G s t w)
Found m G s t (Err (TooManyRuns n)) = (w : List Dir) × Many m G s t w × (n ≡ length w)

-- the corners that are written: the wire's, or none
unfoldable pub Written : Mode → Grid → Node → Node → Result Wire Untold → List Node → Type 0
Written m G s t (Ok r) ps = (w : List Dir) × AnsweredIn m G s t w × (ps ≡ corners s w)
Written m G s t (Err e) ps = ps ≡ []

pub record Routes (m : Mode) (G : Grid) (s t : Node) (o : Result Wire Untold) : Type 0 where
  pub found : Found m G s t o
  pub turned : List Node
  pub written : Written m G s t o turned
  pub xs_are : xs_of o ≡ filled 0 most_corners (map (λ p. p.x) turned)
  pub ys_are : ys_of o ≡ filled 0 most_corners (map (λ p. p.y) turned)

-- ---- what is asked: two different pins on the board that are not blocked

pub record Asked (s : Size) (bs : List Block) (p : Pins) : Type 0 where
  pub range : InRange s
  pub on : OnBoard s (source p) × OnBoard s (target p)
  pub two : ¬ (source p ≡ target p)
  pub clear : (¬ (Blocked bs (node (source p)))) × (¬ (Blocked bs (node (target p))))
