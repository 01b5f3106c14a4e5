-- Document 02, order 5: a record fed to a board and the index beside it; the crowding sheet of a board.
-- Assumes nothing.
use Rattle.std.specs.Prelude.{ℕ, ◌≡◌, ◌⊎◌, List, [], ◌∷◌, replicate}
use Rattle.paper.specs.declared.Board.{Board}
use Rattle.paper.specs.Layout.{Layout}
use Rattle.paper.specs.Padding.{Holds, WellFormed}
use Rattle.paper.specs.Answer.{plain, verdict, BeforeBounds, Refused, Fed}
use Rattle.index.specs.declared.Index.{Index}
use Rattle.index.specs.declared.Crowding.{Crowding}
use Rattle.index.specs.Bits.{most_lines}
use Rattle.crowding.specs.Crowding.{IndexOf, Lines}
use Rattle.beside.specs.declared.Kept.{Kept}

-- the board is well formed, and the index is that of its items
unfoldable pub Agrees : Board → Index → Type 0
Agrees b i = (l : Layout) × Holds b l × IndexOf l i

-- ---- feeding

-- a refusal with the code: every other number 0, and board, index and slice as they were
abbrev pub AsItWas : ℕ → Board → Index → List ℕ → List ℕ → Kept → Type 0
AsItWas k b i s s' r = (verdict r.reply ≡ plain k) × Refused b s s' r.reply × (r.index ≡ i)

-- 17, then 25, else as `feed`, and the index is that of the items that are left
unfoldable pub FedBeside : Board → Index → List ℕ → List ℕ → List ℕ → Kept → Type 0
FedBeside b i bytes s s' r =
    ((¬ (WellFormed b)) × AsItWas 17 b i s s' r)
    ⊎ (WellFormed b × (¬ (Agrees b i)) × AsItWas 25 b i s s' r)
    ⊎ (Agrees b i × Fed b bytes s s' r.reply × Agrees r.reply.board r.index)

-- one call: its bytes, the slice lent and what it held afterwards, what was given back
pub record Call : Type 0 where
  pub bytes : List ℕ
  pub lent : List ℕ
  pub after : List ℕ
  pub kept : Kept

-- the calls, one after another, from a board and an index to another
unfoldable pub FedAll : Board → Index → List Call → Board → Index → Type 0
FedAll b i [] b' i' = (b' ≡ b) × (i' ≡ i)
FedAll b i (c ∷ cs) b' i' = FedBeside b i c.bytes c.lent c.after c.kept × FedAll c.kept.reply.board c.kept.index cs b' i'

-- ---- the sheet

-- the code, and every number 0
abbrev pub refusal : ℕ → Crowding
refusal k = record {
  code = k;
  upright = 0;
  level = 0;
  at = replicate most_lines 0;
  free = replicate most_lines 0;
  stretch = replicate most_lines 0;
}

-- 17, then 25, then 2, else the lines
unfoldable pub Crowds : Board → Index → Crowding → Type 0
Crowds b i r =
    ((¬ (WellFormed b)) × (r ≡ refusal 17))
    ⊎ (WellFormed b × (¬ (Agrees b i)) × (r ≡ refusal 25))
    ⊎ ((l : Layout) × Holds b l × IndexOf l i × ((BeforeBounds l × (r ≡ refusal 2)) ⊎ ((¬ (BeforeBounds l)) × Lines l i r)))
