-- The customer's demands, said of a router: of whatever is done with a board, bytes and a lent slice. `feed::feed` is one that keeps its contract.
-- Assumes nothing.
use Rattle.std.specs.Prelude.{ℕ, ◌≤◌, ◌≡◌, List, [], ◌∷◌}
use Rattle.paper.specs.declared.Board.{Board}
use Rattle.paper.specs.declared.Reply.{Reply}
use Rattle.paper.specs.Grid.{Node}
use Rattle.paper.specs.Layout.{fresh}
use Rattle.paper.specs.Padding.{board_of}
use Rattle.paper.specs.Answer.{written, Fed}
use Rattle.paper.specs.History.{Call}

-- the reply, and what the slice holds afterwards
pub record Router : Type 0 where
  pub reply : Board → List ℕ → List ℕ → Reply
  pub slice : Board → List ℕ → List ℕ → List ℕ

-- it keeps the contract of `feed`, for every board, all bytes and every slice
unfoldable pub Feeds : Router → Type 0
Feeds f = (b : Board) (bytes s : List ℕ) → Fed b bytes s (f.slice b bytes s) (f.reply b bytes s)

-- ---- any list of calls

-- one call: the bytes, and the slice that is lent
pub record Asking : Type 0 where
  pub bytes : List ℕ
  pub lent : List ℕ

-- the calls one after another, from b on, and the board that they leave
unfoldable pub calls_of : Router → Board → List Asking → List Call
calls_of f b [] = []
calls_of f b (a ∷ as') =
    record { bytes = a.bytes; lent = a.lent; after = f.slice b a.bytes a.lent; reply = f.reply b a.bytes a.lent }
    ∷ calls_of f (f.reply b a.bytes a.lent).board as'

unfoldable pub left_by : Router → Board → List Asking → Board
left_by f b [] = b
left_by f b (a ∷ as') = left_by f (f.reply b a.bytes a.lent).board as'

-- a board that comes about by some list of calls on a fresh one
pub record Made (f : Router) (b : Board) : Type 0 where
  pub asked : List Asking
  pub left : b ≡ left_by f (board_of fresh) asked

-- ---- wrong routers

-- one that refuses everything
unfoldable pub RefusesAll : Router → Type 0
RefusesAll f = (b : Board) (bytes s : List ℕ) → ¬ ((f.reply b bytes s).code ≡ 0)

-- one that tells the same corners whenever it tells some
unfoldable pub OneWire : Router → List Node → Type 0
OneWire f ps = (b : Board) (bytes s : List ℕ) → 1 ≤ (f.reply b bytes s).corners → f.slice b bytes s ≡ written ps s

-- one that answers 0 to every record after the first
unfoldable pub OnlyFirst : Router → Type 0
OnlyFirst f = (b : Board) (bytes s : List ℕ) → ¬ (b ≡ board_of fresh) → (f.reply b bytes s).code ≡ 0

-- one that writes the slice, tells a number or changes the board with a refusal
unfoldable pub SpeaksRefusing : Router → Type 0
SpeaksRefusing f = (b : Board) × (bytes : List ℕ) × (s : List ℕ) × (¬ ((f.reply b bytes s).code ≡ 0)) ×
    (¬ ((f.slice b bytes s ≡ s) × ((f.reply b bytes s).board ≡ b) × ((f.reply b bytes s).length ≡ 0) × ((f.reply b bytes s).detour ≡ 0)))
