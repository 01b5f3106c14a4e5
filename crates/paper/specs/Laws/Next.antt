-- What an accepted record leaves is sound again: the steps that all kinds share.
-- Assumes nothing.
use Rattle.std.specs.Prelude.{ℕ, zero, suc, ◌≡◌, List, [], ◌∷◌, length, take}
use Rattle.std.proofs.Common.{arith, ap, inl, inr, length-take}
use Rattle.paper.specs.declared.Size.{Size}
use Rattle.paper.specs.declared.Verdict.{Verdict}
use Rattle.paper.specs.declared.Record.{Record}
use Rattle.paper.specs.declared.Record.TheVariants.{Bounds, KeepOut, Lay, Ask, TakeOut, Undo, Malformed}
use Rattle.paper.specs.Limits.{most_kept}
use Rattle.paper.specs.Grid.{All, Pairs}
use Rattle.paper.specs.Layout.{Thing, block_count, ItemsFit, Turn, undo, CanUndo, Undoes, Layout, InRange, empty, Laid, Sound}
use Rattle.paper.specs.Answer.{Gives, BeforeBounds, checks, changed}
use Rattle.paper.specs.Laws.Checks.{Coded, clear_of, Spared, spared}

-- ---- code 0: none of the checks applies

pub checks_coded : (l : Layout) (rec : Record) (n : ℕ) → Coded (checks l rec n)
unfolding Coded checks
checks_coded l Malformed n = omega arith
checks_coded l (Bounds s) n = omega arith
checks_coded l (KeepOut i r) n = omega arith
checks_coded l (Lay i p) n = omega arith
checks_coded l (Ask p) n = omega arith
checks_coded l (TakeOut i) n = omega arith
checks_coded l Undo n = omega arith

abbrev pub Spares : Layout → Record → ℕ → Type 0
Spares l rec n = (k : ℕ) → Spared (checks l rec n) k

pub spares : (l : Layout) (rec : Record) (n : ℕ) (v : Verdict) → v.code ≡ 0 → Gives (checks l rec n) v → Spares l rec n
spares l rec n v z g = spared (checks l rec n) (clear_of (checks l rec n) v z (checks_coded l rec n) g)

-- ---- the kept changes

undoes_take : (s : Size) (ts : List Thing) (n : ℕ) (cs : List Turn) → Undoes s ts cs → Undoes s ts (take n cs)
unfolding Undoes
undoes_take s ts zero cs h = tt
undoes_take s ts (suc n) [] h = tt
undoes_take s ts (suc n) (c ∷ cs) h = (h.0, h.1, undoes_take s (undo c ts) n cs h.2)

-- a change that can be undone, to what the board was, is kept
pub laid_keep : (l : Layout) (ts : List Thing) (c : Turn) → Laid l → ItemsFit l.size ts → CanUndo c ts → undo c ts ≡ l.items
    → Laid (changed l ts c)
unfolding Undoes
laid_keep l ts c p f can e = record {
  range = p.range;
  fits = f;
  kept_few = omega (arith, length-take most_kept (c ∷ l.kept));
  undoes = undoes_take l.size ts most_kept (c ∷ l.kept) (can, rw e p.fits, rw e p.undoes);
}

pub laid_undo : (l : Layout) (c : Turn) (cs : List Turn) → Laid l → l.kept ≡ c ∷ cs
    → Laid (record { size = l.size; items = undo c l.items; kept = cs })
unfolding Undoes
laid_undo l c cs p e =
    let u : Undoes l.size l.items (c ∷ cs) = rw e at p.undoes in
    record { range = p.range; fits = u.1; kept_few = omega (arith, p.kept_few, ap length e); undoes = u.2 }

pub laid_empty : (z : Size) → InRange z → Laid (empty z)
unfolding All Pairs block_count Undoes
laid_empty z h = record {
  range = h;
  fits = record { two = record { rising = tt; each = tt; apart = tt; blocks_few = omega arith }; seamless = tt };
  kept_few = omega arith;
  undoes = tt;
}

pub laid : (l : Layout) → Sound l → ¬ (BeforeBounds l) → Laid l
unfolding Sound
laid l (inl e) n = absurd (n (ap (λ m. m.size.w) e))
laid l (inr p) n = p
