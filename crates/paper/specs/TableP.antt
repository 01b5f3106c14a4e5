-- Document 01, "Table P, to be proved", its codes 11 as document 02 (order 2) parts them and P11 as its order 3 has it: the list, and what is to be proved of each of its rows.
-- Assumes nothing.
use Rattle.std.specs.Prelude.{ℕ, ◌≤◌, List, [], ◌∷◌, length}
use Rattle.paper.specs.declared.Pins.{Pins}
use Rattle.paper.specs.declared.Reply.{Reply}
use Rattle.paper.specs.declared.Verdict.{Verdict}
use Rattle.paper.specs.Limits.{least_slice}
use Rattle.paper.specs.Grid.{Node}
use Rattle.paper.specs.Layout.{Thing, keep_out, wire, Layout}
use Rattle.paper.specs.Padding.{board_of}
use Rattle.paper.specs.Answer.{named, plain, written, Fed}

-- an ask on a board of 10 × 10: its clearance and items, the pins, and what is answered
pub record Row : Type 0 where
  pub clearance : ℕ
  pub items : List Thing
  pub pins : Pins
  pub said : Verdict
  pub long : ℕ
  pub away : ℕ
  pub turned : List Node

abbrev pub row : ℕ → List Thing → Pins → Verdict → ℕ → ℕ → List Node → Row
row c ts p v n d ps = record { clearance = c; items = ts; pins = p; said = v; long = n; away = d; turned = ps }

abbrev pub layout_in : Row → Layout
layout_in r = record { size = record { w = 10; h = 10; clearance = r.clearance }; items = r.items; kept = [] }

-- the twelve bytes of an ask whose numbers are below 256
abbrev pub asking : Pins → List ℕ
asking p = 4 ∷ 0 ∷ 0 ∷ 0 ∷ p.sx ∷ 0 ∷ p.sy ∷ 0 ∷ p.tx ∷ 0 ∷ p.ty ∷ 0 ∷ []

abbrev pub reply_in : Row → Reply
reply_in r = record { code = r.said.code; pin = r.said.place; id = r.said.id; length = r.long; detour = r.away; corners = length r.turned; board = board_of (layout_in r) }

-- whatever slice is lent, of 50 numbers or more, the board fed with the ask replies so
unfoldable pub Stands : Row → Type 0
Stands r = (s : List ℕ) → least_slice ≤ length s → Fed (board_of (layout_in r)) (asking r.pins) s (written r.turned s) (reply_in r)

-- ---- the list

abbrev pub at : ℕ → ℕ → Node
at x y = record { x = x; y = y }

abbrev pub from : ℕ → ℕ → ℕ → ℕ → Pins
from sx sy tx ty = record { sx = sx; sy = sy; tx = tx; ty = ty }

abbrev pub keep : ℕ → ℕ → ℕ → ℕ → ℕ → Thing
keep i x0 y0 x1 y1 = keep_out i (record { x0 = x0; y0 = y0; x1 = x1; y1 = y1 })

-- P3's keep-out, and P6's wire
abbrev pub k3 : List Thing
k3 = keep 1 3 2 6 8 ∷ []

abbrev pub w6 : List Thing
w6 = wire 7 (at 5 0 ∷ at 5 10 ∷ []) ∷ []

abbrev pub table_p : List Row
table_p =
    row 1 [] (from 0 0 10 10) (plain 0) 20 0 (at 0 0 ∷ at 10 0 ∷ at 10 10 ∷ [])  -- P1
    ∷ row 1 [] (from 10 10 0 0) (plain 0) 20 0 (at 10 10 ∷ at 0 10 ∷ at 0 0 ∷ [])  -- P2
    ∷ row 1 k3 (from 1 5 8 5) (plain 0) 13 3 (at 1 5 ∷ at 3 5 ∷ at 3 8 ∷ at 8 8 ∷ at 8 5 ∷ [])  -- P3
    ∷ row 1 k3 (from 8 5 1 5) (plain 0) 13 3 (at 8 5 ∷ at 8 8 ∷ at 1 8 ∷ at 1 5 ∷ [])  -- P4
    ∷ row 1 (keep 1 4 0 5 10 ∷ []) (from 2 5 8 5) (plain 0) 16 5 (at 2 5 ∷ at 4 5 ∷ at 4 10 ∷ at 8 10 ∷ at 8 5 ∷ [])  -- P5
    ∷ row 1 w6 (from 2 5 8 5) (plain 12) 0 0 []  -- P6
    ∷ row 1 w6 (from 4 0 4 10) (plain 0) 10 0 (at 4 0 ∷ at 4 10 ∷ [])  -- P7
    ∷ row 2 w6 (from 4 0 4 10) (named 18 1 7) 0 0 []  -- P7, with clearance 2
    ∷ row 1 k3 (from 3 2 6 8) (plain 0) 9 0 (at 3 2 ∷ at 6 2 ∷ at 6 8 ∷ [])  -- P8
    ∷ row 1 k3 (from 4 5 8 5) (named 11 1 1) 0 0 []  -- P9
    ∷ row 1 k3 (from 4 5 4 5) (plain 10) 0 0 []  -- P10
    ∷ row 1 (keep 1 2 2 5 8 ∷ keep 2 5 2 8 8 ∷ []) (from 5 0 5 10) (plain 0) 16 3 (at 5 0 ∷ at 8 0 ∷ at 8 10 ∷ at 5 10 ∷ [])  -- P11
    ∷ row 1 [] (from 11 0 0 0) (plain 9) 0 0 []  -- P12
    ∷ []
