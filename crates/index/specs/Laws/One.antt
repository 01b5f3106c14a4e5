-- There is one sheet of an index.
-- Assumes nothing.
use Rattle.std.specs.Prelude.{ℕ, ◌+◌, ◌-◌, ◌≤◌, ◌<◌, ◌≡◌}
use Rattle.std.proofs.Common.{arith, sym, ◌∙◌, ext_get_or}
use Rattle.std.proofs.Math.Decide.{dec_lt}
use Rattle.index.specs.declared.Edges.{Edges}
use Rattle.index.specs.declared.Index.{Index}
use Rattle.index.specs.declared.Crowding.{Crowding}
use Rattle.index.specs.Rows.{Shows, Same, Long, Counted}

-- two sheets with the same line for each upright track, for each level one and after them
pub same_sheet : (i : Index) (r s : Crowding) → r.code ≡ s.code → r.upright ≡ s.upright → r.level ≡ s.level → Long r → Long s
    → ((k : ℕ) → k < i.x.count → Same s r k) → ((k : ℕ) → k < i.y.count → Same s r (i.x.count + k))
    → ((k : ℕ) → i.x.count + i.y.count ≤ k → Same s r k) → r ≡ s
same_sheet i r s c u v p q up on rest =
    let a = ext_get_or 0 r.at s.at (p.at_long ∙ sym q.at_long) (λ k h. (alike k).at_is) in
    let f = ext_get_or 0 r.free s.free (p.free_long ∙ sym q.free_long) (λ k h. (alike k).free_is) in
    let t = ext_get_or 0 r.stretch s.stretch (p.stretch_long ∙ sym q.stretch_long) (λ k h. (alike k).stretch_is) in
    λ k. record { code = c k; upright = u k; level = v k; at = a k; free = f k; stretch = t k }
  where
    past : (k : ℕ) → i.x.count ≤ k → Dec (k < i.x.count + i.y.count) → Same s r k
    past k n (yes h) =
        let e : i.x.count + (k - i.x.count) ≡ k = omega arith in
        let o : k - i.x.count < i.y.count = omega arith in
        rw e at (on (k - i.x.count) o)
    past k n (no m) = rest k (omega arith)

    go : (k : ℕ) → Dec (k < i.x.count) → Same s r k
    go k (yes h) = up k h
    go k (no n) = past k (omega arith) (dec_lt k (i.x.count + i.y.count))

    alike : (k : ℕ) → Same s r k
    alike k = go k (dec_lt k i.x.count)

-- what is shown is the same
shows_same : {r s : Crowding} {k v : ℕ} {e : Edges} → Shows r k v e → Shows s k v e → Same s r k
shows_same p q = record { at_is = p.at_is ∙ sym q.at_is; free_is = p.free_is ∙ sym q.free_is; stretch_is = p.stretch_is ∙ sym q.stretch_is }

pub one_counted : (i : Index) (r s : Crowding) → Counted i r → Counted i s → r ≡ s
one_counted i r s p q =
    same_sheet i r s (p.code_is ∙ sym q.code_is) (p.upright_is ∙ sym q.upright_is) (p.level_is ∙ sym q.level_is) p.long q.long
    (λ k h. shows_same (p.uprights k h) (q.uprights k h)) (λ k h. shows_same (p.levels k h) (q.levels k h))
    (λ k h. let f = p.rest k h in let g = q.rest k h in record { at_is = f.0 ∙ sym g.0; free_is = f.1 ∙ sym g.1; stretch_is = f.2 ∙ sym g.2 })
