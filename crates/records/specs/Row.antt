-- One row of the paper's table: which record a kind, an id and four numbers are.
-- Assumes nothing.
use Rattle.std.specs.Prelude.{ℕ, ◌≡◌, ◌⊎◌}
use Rattle.records.specs.declared.Numbers.{Numbers}
use Rattle.paper.specs.declared.Mode.{Mode}
use Rattle.paper.specs.declared.Question.{Question}
use Rattle.paper.specs.declared.Record.{Record}
use Rattle.paper.specs.declared.Record.TheVariants.{Malformed}
use Rattle.paper.specs.Reading.{Fields, fields, fields_of, Plain}

abbrev pub with_kind : ℕ → Numbers → Fields
with_kind k n = fields k n.id n.a n.b n.c n.d

-- the question that the four numbers ask
abbrev pub asked : Mode → Numbers → Question
asked m n = record { pins = record { sx = n.a; sy = n.b; tx = n.c; ty = n.d }; mode = m }

-- they are the record's, or no record's
unfoldable pub Row : ℕ → Numbers → Record → Type 0
Row k n r = (Plain r × (with_kind k n ≡ fields_of r)) ⊎ ((r ≡ Malformed) × ((q : Record) → Plain q → ¬ (with_kind k n ≡ fields_of q)))

-- the four numbers are 0
abbrev pub Blank : Numbers → Type 0
Blank n = (n.a ≡ 0) × (n.b ≡ 0) × (n.c ≡ 0) × (n.d ≡ 0)
