-- What is said of a board and an index that are refused whatever is asked of them, and of those that are not.
-- Assumes nothing.
use Rattle.std.specs.Prelude.{ℕ, ◌≤◌, ◌≡◌, refl, List}
use Rattle.std.proofs.Common.{sym, subst, inl, inr}
use Rattle.paper.specs.declared.Board.{Board}
use Rattle.paper.specs.declared.Refusal.{Refusal}
use Rattle.paper.specs.declared.Reply.{Reply}
use Rattle.paper.specs.Answer.{plain, Fed}
use Rattle.paper.specs.Codes.{code_of}
use Rattle.paper.specs.Laws.Back.{layout_of, well_formed}
use Rattle.paper.specs.Laws.Feeds.{refusing}
use Rattle.index.specs.declared.Index.{Index}
use Rattle.index.specs.declared.Crowding.{Crowding}
use Rattle.index.specs.Rows.{Counted}
use Rattle.tracks.specs.Tracks.{most_tracks}
use Rattle.crowding.specs.Crowding.{Built}
use Rattle.crowding.specs.Laws.One.{counted_lines}
use Rattle.beside.specs.declared.Kept.{Kept}
use Rattle.beside.specs.Beside.{Agrees, FedBeside, refusal, Crowds}
use Rattle.beside.specs.Laws.{Unfit, agrees_well, agrees_read, told_as, built_of, LeavesItems, leaves_same}

-- ---- feeding

-- where the items stay, so does the index
pub still_agrees : (b : Board) (i : Index) (bytes s s' : List ℕ) (r : Reply) → Agrees b i → Fed b bytes s s' r → LeavesItems bytes r.code → Agrees r.board i
still_agrees b i bytes s s' r a f l = subst (λ b. Agrees b i) (sym (leaves_same b bytes s s' r f l)) a

pub fed_unfit : (b : Board) (i : Index) (bytes s : List ℕ) (why : Refusal) → Unfit b i why
    → FedBeside b i bytes s s (record { reply = refusing (plain (code_of why)) b; index = i })
unfolding FedBeside
fed_unfit b i bytes s why (inl p) = rw p.1 (inl (p.0, told_as 17 b i s))
fed_unfit b i bytes s why (inr p) = rw p.2 (inr (inl (p.0, p.1, told_as 25 b i s)))

pub fed_fit : (b : Board) (i : Index) (bytes s s' : List ℕ) (r : Kept) → Agrees b i → Fed b bytes s s' r.reply → Agrees r.reply.board r.index
    → FedBeside b i bytes s s' r
unfolding FedBeside
fed_fit b i bytes s s' r a f n = inr (inr (a, f, n))

-- ---- the sheet

pub crowds_unfit : (b : Board) (i : Index) (why : Refusal) → Unfit b i why → Crowds b i (refusal (code_of why))
unfolding Crowds
crowds_unfit b i why (inl p) = rw p.1 (inl (p.0, refl))
crowds_unfit b i why (inr p) = rw p.2 (inr (inl (p.0, p.1, refl)))

pub crowds_bare : (b : Board) (i : Index) → Agrees b i → b.size.w ≡ 0 → Crowds b i (refusal 2)
unfolding Crowds layout_of
crowds_bare b i a z = inr (inr (layout_of b, well_formed b (agrees_well b i a), agrees_read b i a, inl (z, refl)))

-- after bounds the index is built
built : (b : Board) (i : Index) → Agrees b i → ¬ (b.size.w ≡ 0) → Built (layout_of b) i
unfolding layout_of
built b i a n = built_of (layout_of b) i (agrees_read b i a) n

pub few_tracks : (b : Board) (i : Index) → Agrees b i → ¬ (b.size.w ≡ 0) → (i.x.count ≤ most_tracks) × (i.y.count ≤ most_tracks)
few_tracks b i a n = let p = built b i a n in (p.on_x.few, p.on_y.few)

pub crowds_lines : (b : Board) (i : Index) (r : Crowding) → Agrees b i → ¬ (b.size.w ≡ 0) → Counted i r → Crowds b i r
unfolding Crowds layout_of
crowds_lines b i r a n c =
    inr (inr (layout_of b, well_formed b (agrees_well b i a), agrees_read b i a, inr (n, counted_lines (layout_of b) i r (built b i a n) c)))
