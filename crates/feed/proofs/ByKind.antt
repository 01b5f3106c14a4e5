-- What `feed_sound` cites: what was read is of the case of the first byte, and what its reply then is.
use Rattle.std.specs.Prelude.{ℕ, ◌≤◌, ◌≡◌, ◌⊎◌, List, get_or}
use mathlib.Core.Path.{sym, subst₂}
use Rattle.paper.specs.declared.Board.{Board}
use Rattle.paper.specs.declared.Record.{Record}
use Rattle.paper.specs.declared.Reply.{Reply}
use Rattle.paper.specs.Padding.{WellFormed}
use Rattle.paper.specs.Reading.{Reads}
use Rattle.paper.specs.Answer.{plain, Replies, Fed}
use Rattle.paper.specs.Laws.Back.{layout_of}
use Rattle.paper.specs.Laws.Feeds.{refusing}
use Rattle.feed.specs.Feeding.{KindIs, CaseIs, Quietly}
use Rattle.feed.specs.Laws.Kinds.{kind_read, Case, of_kind, no_kind}
use Rattle.feed.specs.Laws.Replying.{malformed_reply, fed_by}

kind : (bytes : List ℕ) (rec : Record) (n : ℕ) → Reads bytes rec → n ≡ get_or bytes 0 0 → KindIs n rec
kind bytes rec n r e = rw e (kind_read bytes rec r)

pub case_read : (bytes : List ℕ) (rec : Record) (n c : ℕ) → Reads bytes rec → n ≡ get_or bytes 0 0 → Case n c → CaseIs c rec
case_read bytes rec n c r e h = of_kind rec n c (kind bytes rec n r e) h

-- a reply that is the same whatever slice is lent
pub fed_quietly : (b : Board) (bytes s : List ℕ) (rec : Record) (r : Reply) → WellFormed b → Reads bytes rec → Quietly (layout_of b) rec r
    → Fed b bytes s s r × WellFormed r.board
unfolding Quietly
fed_quietly b bytes s rec r w k q = fed_by b w bytes rec s s r k (q s)

-- no kind is malformed
pub fed_of_no_kind : (b : Board) (bytes s : List ℕ) (rec : Record) (n : ℕ) (r : Reply) → WellFormed b → Reads bytes rec → n ≡ get_or bytes 0 0
    → ¬ (((1 ≤ n) × (n ≤ 6)) ⊎ (n ≡ 8) ⊎ (n ≡ 9)) → r ≡ refusing (plain 1) b → Fed b bytes s s r × WellFormed r.board
fed_of_no_kind b bytes s rec n r w k e out f =
    fed_by b w bytes rec s s r k
    (subst₂ (λ rec r. Replies (layout_of b) rec s s r) (sym (no_kind rec n (kind bytes rec n k e) out)) (sym f) (malformed_reply b w s))
