-- Lines of the sheet that document 01 prints whole, each kind of line once.
-- Assumes nothing.
use Rattle.std.specs.Prelude.{ℕ, true, false, List, [], ◌∷◌}
use Rattle.paper.specs.Grid.{All}
use Rattle.paper.specs.Answer.{named, plain}
use Rattle.text.specs.Text.{Part, Spells}
use Rattle.sheet.specs.Sheet.{corners_in, wire_in, blame_in, line_in, last_line}
use Rattle.text.specs.Laws.Decimal.{digits_of}
use Rattle.text.specs.Laws.Spelling.{text_of, text_spells}

pub record Printed-as : Type 0 where
  pub parts : List Part
  pub text : List ℕ

-- "3 0 13 3 1:5 3:5 3:8 8:8 8:5", "4 18 2 7" (document 02, order 2), "10 15", "end"; and "cut". Numbers after the last corner are not shown.
abbrev pub worked : List Printed-as
worked =
    record {
      parts = line_in 3 (plain 0) 13 3 5 (1 ∷ 5 ∷ 3 ∷ 5 ∷ 3 ∷ 8 ∷ 8 ∷ 8 ∷ 8 ∷ 5 ∷ 7 ∷ 7 ∷ []);
      text = 51 ∷ 32 ∷ 48 ∷ 32 ∷ 49 ∷ 51 ∷ 32 ∷ 51 ∷ 32 ∷ 49 ∷ 58 ∷ 53 ∷ 32 ∷ 51 ∷ 58 ∷ 53 ∷ 32 ∷ 51 ∷ 58 ∷ 56 ∷ 32 ∷ 56 ∷ 58 ∷ 56 ∷ 32 ∷ 56 ∷ 58 ∷ 53 ∷ 10 ∷ [];
    }
    ∷ record { parts = line_in 4 (named 18 2 7) 0 0 0 (7 ∷ 7 ∷ []); text = 52 ∷ 32 ∷ 49 ∷ 56 ∷ 32 ∷ 50 ∷ 32 ∷ 55 ∷ 10 ∷ [] }
    ∷ record { parts = line_in 10 (plain 15) 0 0 0 []; text = 49 ∷ 48 ∷ 32 ∷ 49 ∷ 53 ∷ 10 ∷ [] }
    ∷ record { parts = last_line false; text = 101 ∷ 110 ∷ 100 ∷ 10 ∷ [] }
    ∷ record { parts = last_line true; text = 99 ∷ 117 ∷ 116 ∷ 10 ∷ [] }
    ∷ []

pub worked_lines : All (λ p. Spells p.parts p.text) worked
unfolding All text_of digits_of corners_in wire_in blame_in
worked_lines = (text_spells _, (text_spells _, (text_spells _, (text_spells _, (text_spells _, tt)))))
