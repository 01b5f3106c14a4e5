-- Lists of checks: what they give is determined, and what is known where none of them applies.
-- Only the laws of the first part go by the cases of a check.
-- Assumes nothing.
use Rattle.std.specs.Prelude.{ℕ, ◌≤◌, ◌≡◌, refl, Bool, true, false, cond, ◌⊎◌, List, [], ◌∷◌, ◌++◌, eqb}
use Rattle.std.proofs.Common.{arith, sym, ap, ◌∙◌, inl, inr, ⊎_elim}
use Rattle.paper.specs.declared.Verdict.{Verdict}
use Rattle.paper.specs.Answer.{named, plain, Check, ◌about◌if◌, ◌unless◌, ◌about◌naming◌, Applies, Idle, Gives}

-- ---- one check

abbrev pub number_of : Check → ℕ
number_of (n about i if p) = n
number_of (n unless p) = n
number_of (n about i naming P) = n

one_applies : (c : Check) (u v : Verdict) → Applies c u → Applies c v → u ≡ v
one_applies (n about i if p) u v a b = a.1 ∙ sym b.1
one_applies (n unless p) u v a b = a.1 ∙ sym b.1
one_applies (n about i naming P) u v a b =
    let e : a.0 ≡ b.0 = omega (arith, a.2 b.0 b.1, b.2 a.0 a.1) in
    a.3 ∙ ap (named n i) e ∙ sym b.3

not_idle : (c : Check) (v : Verdict) → Applies c v → ¬ (Idle c)
not_idle (n about i if p) v a h = h a.0
not_idle (n unless p) v a h = a.0 h
not_idle (n about i naming P) v a h = h a.0 a.1

number_is : (c : Check) (v : Verdict) → Applies c v → v.code ≡ number_of c
number_is (n about i if p) v a = ap (λ v. v.code) a.1
number_is (n unless p) v a = ap (λ v. v.code) a.1
number_is (n about i naming P) v a = ap (λ v. v.code) a.3

-- ---- one verdict

pub one_verdict : (cs : List Check) (u v : Verdict) → Gives cs u → Gives cs v → u ≡ v
unfolding Gives
one_verdict [] u v p q = p ∙ sym q
one_verdict (c ∷ cs) u v (inl p) (inl q) = one_applies c u v p q
one_verdict (c ∷ cs) u v (inl p) (inr q) = absurd (not_idle c u p q.0)
one_verdict (c ∷ cs) u v (inr p) (inl q) = absurd (not_idle c v q p.0)
one_verdict (c ∷ cs) u v (inr p) (inr q) = one_verdict cs u v p.1 q.1

-- ---- code 0: none of them applies

-- no check of the list gives 0
unfoldable pub Coded : List Check → Type 0
Coded [] = Unit {0}
Coded (c ∷ cs) = (1 ≤ number_of c) × Coded cs

unfoldable pub Clear : List Check → Type 0
Clear [] = Unit {0}
Clear (c ∷ cs) = Idle c × Clear cs

pub clear_of : (cs : List Check) (v : Verdict) → v.code ≡ 0 → Coded cs → Gives cs v → Clear cs
unfolding Gives Coded Clear
clear_of [] v z k g = tt
clear_of (c ∷ cs) v z k (inl g) = absurd (omega (arith, k.0, number_is c v g))
clear_of (c ∷ cs) v z k (inr g) = (g.0, clear_of cs v z k.1 g.1)

pub of_clear : (cs : List Check) → Clear cs → Gives cs (plain 0)
unfolding Gives Clear
of_clear [] k = refl
of_clear (c ∷ cs) k = inr (k.0, of_clear cs k.1)

-- what is known of the first check that gives k
unfoldable pub Spared : List Check → ℕ → Type 0
Spared [] k = Unit {0}
Spared (c ∷ cs) k = cond (eqb k (number_of c)) (Idle c) (Spared cs k)

either : {A B : Type 0} (b : Bool) → A → B → cond b A B
either true x y = x
either false x y = y

pub spared : (cs : List Check) → Clear cs → (k : ℕ) → Spared cs k
unfolding Clear Spared
spared [] h k = tt
spared (c ∷ cs) h k = either (eqb k (number_of c)) h.0 (spared cs h.1 k)

-- ---- two lists together: where the first gives none, the second decides

pub gives_first : (cs ds : List Check) (v : Verdict) → ¬ (v.code ≡ 0) → Gives cs v → Gives (cs ++ ds) v
unfolding Gives
gives_first [] ds v n g = absurd (n (ap (λ v. v.code) g))
gives_first (c ∷ cs) ds v n (inl g) = inl g
gives_first (c ∷ cs) ds v n (inr g) = inr (g.0, gives_first cs ds v n g.1)

pub gives_then : (cs ds : List Check) (v : Verdict) → Clear cs → Gives ds v → Gives (cs ++ ds) v
unfolding Gives Clear
gives_then [] ds v k h = h
gives_then (c ∷ cs) ds v k h = inr (k.0, gives_then cs ds v k.1 h)

pub clear_join : (cs ds : List Check) → Clear cs → Clear ds → Clear (cs ++ ds)
unfolding Clear
clear_join [] ds k h = h
clear_join (c ∷ cs) ds k h = (k.0, clear_join cs ds k.1 h)

pub clear_split : (cs ds : List Check) → Clear (cs ++ ds) → Clear cs × Clear ds
unfolding Clear
clear_split [] ds h = (tt, h)
clear_split (c ∷ cs) ds h = let m = clear_split cs ds h.1 in ((h.0, m.0), m.1)

pub coded_join : (cs ds : List Check) → Coded cs → Coded ds → Coded (cs ++ ds)
unfolding Coded
coded_join [] ds k h = h
coded_join (c ∷ cs) ds k h = (k.0, coded_join cs ds k.1 h)

-- what two lists give, the first gives, or the second where none of the first applies
pub gives_either : (cs ds : List Check) (v : Verdict) → Gives (cs ++ ds) v → Gives cs v ⊎ (Clear cs × Gives ds v)
unfolding Gives Clear
gives_either [] ds v g = inr (tt, g)
gives_either (c ∷ cs) ds v (inl g) = inl (inl g)
gives_either (c ∷ cs) ds v (inr g) = ⊎_elim (λ h. inl (inr (g.0, h))) (λ h. inr ((g.0, h.0), h.1)) (gives_either cs ds v g.1)
