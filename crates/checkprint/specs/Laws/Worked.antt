-- Numbers and lines of the example, each kind of line once.
-- Assumes nothing.
use Rattle.std.specs.Prelude.{ℕ, ◌≡◌, refl, List, [], ◌∷◌}
use Rattle.paper.specs.Grid.{All}
use Rattle.text.specs.Text.{Part, Spells}
use Rattle.text.specs.Laws.Decimal.{digits_of}
use Rattle.text.specs.Laws.Spelling.{text_of, text_spells}
use Rattle.checkprint.specs.declared.Last.TheVariants.{End, Bad, Cut}
use Rattle.checkprint.specs.Checked.{words_in, told_in, line_of, last_line}

-- the low byte first; a byte alone is no number
pub worked_words : words_in (10 ∷ 0 ∷ 0 ∷ 1 ∷ 7 ∷ []) ≡ 10 ∷ 256 ∷ []
unfolding words_in
worked_words = refl

pub record Printed-as : Type 0 where
  pub parts : List Part
  pub text : List ℕ

-- "3 0 4", "6 22", "12 24 1", "end", "bad", "cut"
abbrev pub worked : List Printed-as
worked =
    record { parts = line_of 3 (record { code = 0; run = 0; excess = 4 }); text = 51 ∷ 32 ∷ 48 ∷ 32 ∷ 52 ∷ 10 ∷ [] }
    ∷ record { parts = line_of 6 (record { code = 22; run = 0; excess = 0 }); text = 54 ∷ 32 ∷ 50 ∷ 50 ∷ 10 ∷ [] }
    ∷ record { parts = line_of 12 (record { code = 24; run = 1; excess = 0 }); text = 49 ∷ 50 ∷ 32 ∷ 50 ∷ 52 ∷ 32 ∷ 49 ∷ 10 ∷ [] }
    ∷ record { parts = last_line End; text = 101 ∷ 110 ∷ 100 ∷ 10 ∷ [] }
    ∷ record { parts = last_line Bad; text = 98 ∷ 97 ∷ 100 ∷ 10 ∷ [] }
    ∷ record { parts = last_line Cut; text = 99 ∷ 117 ∷ 116 ∷ 10 ∷ [] }
    ∷ []

pub worked_lines : All (λ p. Spells p.parts p.text) worked
unfolding All text_of digits_of told_in
worked_lines = (text_spells _, (text_spells _, (text_spells _, (text_spells _, (text_spells _, (text_spells _, tt))))))
