-- What a user of the tracks may cite: each law of one list of tracks takes `AreTracks` first.
-- Assumes nothing.
use Rattle.std.specs.Prelude.{ℕ, zero, suc, ◌+◌, ◌-◌, ◌≤◌, ◌<◌, ◌≡◌, refl, List, [], ◌∷◌, length, get_or}
use native.Mathlib.Omega.{arith}
use Rattle.std.proofs.Common.{eq-or-lt_of_le, le_of_suc-le-suc, sym, ap, ◌∙◌, ⊎_elim, length-append, length-take-le, get_or-take, ext_get_or}
use Rattle.std.proofs.Math.Decide.{dec_lt}
use Rattle.std.proofs.Math.Logic.{inl, inr}
use Rattle.std.proofs.Math.ListN.{get_or-append}
use Rattle.std.proofs.lemmas.List.{get_or_at}
use Rattle.paper.specs.Grid.{Span, Any}
use Rattle.paper.specs.Laws.Lists.{any_imp}
use Rattle.tracks.specs.declared.Tracks.{Tracks}
use Rattle.tracks.specs.Tracks.{span_at, spans, SideOf, Has, Wanted, listed, track, AreTracks}
use Rattle.tracks.specs.Places.{has_at, place_of, pairs_at, one_rising}

-- v is where a track stands
abbrev pub IsTrack : Tracks → ℕ → Type 0
IsTrack r v = (j : ℕ) × (j < r.count) × (track r j ≡ v)

-- ---- one list of tracks

module _ {ss : List Span} {side : ℕ} {further : List ℕ} {r : Tracks} (t : AreTracks ss side further r) where
  pub track_of : (v : ℕ) → Wanted ss side further v → IsTrack r v
  track_of v w = let p = place_of r.count r.at v (t.all v w) in (p.0, p.1, p.3)

  pub track_further : (v : ℕ) → v ≤ side → Has further v → IsTrack r v
  unfolding Wanted
  track_further v h k = track_of v (h, inr (inr (inl k)))

  pub track_side : (v : ℕ) → v ≤ side → (s : Span) → Any (λ u. u ≡ s) ss → SideOf s v → IsTrack r v
  unfolding Wanted
  track_side v h s k e = track_of v (h, inr (inr (inr (any_imp (λ u. u ≡ s) (λ u. SideOf u v) (λ u q. rw q e) ss k))))

  track_zero : IsTrack r 0
  unfolding Wanted
  track_zero = track_of 0 (omega arith, inl refl)

  track_end : IsTrack r side
  unfolding Wanted
  track_end = track_of side (omega arith, inr (inl refl))

  pub track_below : (i : ℕ) → i < r.count → track r i ≤ side
  unfolding Wanted
  track_below i h = (t.only (track r i) (has_at r.count r.at i h (omega (arith, t.few, t.room)))).0

  rises : (i j : ℕ) → i < j → j < r.count → track r i < track r j
  rises i j h k = pairs_at (λ a b. a < b) r.count r.at t.rising i j h k (omega (arith, t.few, t.room))

  pub track_rising : (i : ℕ) → i + 1 < r.count → track r i < track r (i + 1)
  track_rising i h = rises i (i + 1) (omega arith) h

  pub track_first : track r 0 ≡ 0
  track_first =
      let p = track_zero in
      let least : 0 ≤ p.0 = omega arith in
      ⊎_elim (λ e. ap (track r) e ∙ p.2) (λ h. absurd (omega (arith, rises 0 p.0 h p.1))) (eq-or-lt_of_le least)

  pub track_last : track r (r.count - 1) ≡ side
  track_last =
      let p = track_end in
      let last : p.0 ≤ r.count - 1 = omega arith in
      ⊎_elim (λ e. ap (track r) (sym e) ∙ p.2)
      (λ h. absurd (omega (arith, rises p.0 (r.count - 1) h (omega arith), track_below (r.count - 1) (omega arith))))
      (eq-or-lt_of_le last)

  pub track_two : 1 ≤ side → 2 ≤ r.count
  track_two h =
      let some : 1 ≤ r.count = omega (arith, track_zero.1) in
      ⊎_elim
      (λ e. let both : r.count - 1 ≡ 0 = omega arith in absurd (omega (arith, ap (track r) both, track_first, track_last)))
      (λ two. two)
      (eq-or-lt_of_le some)

-- ---- there is no other

pub one_tracks : {ss : List Span} {side : ℕ} {further : List ℕ} {r s : Tracks}
    → AreTracks ss side further r → AreTracks ss side further s → r ≡ s
one_tracks {r} {s} p q = λ i. record { at = places i; count = counts i }
  where
    same : listed r ≡ listed s
    same = one_rising (listed r) (listed s) p.rising q.rising (λ v h. q.all v (p.only v h)) (λ v h. p.all v (q.only v h))

    counts : r.count ≡ s.count
    counts =
        sym (length-take-le r.count r.at (omega (arith, p.few, p.room))) ∙ ap length same
        ∙ length-take-le s.count s.at (omega (arith, q.few, q.room))

    place : (i : ℕ) → Dec (i < r.count) → track r i ≡ track s i
    place i (yes h) =
        sym (get_or-take r.count r.at i 0 h) ∙ ap (λ l. get_or l i 0) same ∙ get_or-take s.count s.at i 0 (omega (arith, counts))
    place i (no n) = p.rest i (omega arith) ∙ sym (q.rest i (omega (arith, counts)))

    places : r.at ≡ s.at
    places = ext_get_or 0 r.at s.at (p.room ∙ sym q.room) (λ i h. place i (dec_lt i r.count))

-- ---- the spans by their places

pub spans_long : (n : ℕ) (lo hi c : List ℕ) → length (spans n lo hi c) ≡ n
unfolding spans
spans_long zero lo hi c = refl
spans_long (suc n) lo hi c = omega (arith, length-append (spans n lo hi c) (span_at lo hi c n ∷ []), spans_long n lo hi c)

pub spans_at : (n i : ℕ) (lo hi c : List ℕ) (d : Span) → i < n → get_or (spans n lo hi c) i d ≡ span_at lo hi c i
unfolding spans
spans_at zero i lo hi c d h = absurd (omega arith)
spans_at (suc n) i lo hi c d h =
    ⊎_elim
    (λ e. rw e (get_or_at (spans n lo hi c) (span_at lo hi c n) [] d n (spans_long n lo hi c)))
    (λ k. get_or-append (spans n lo hi c) (span_at lo hi c n ∷ []) d i (omega (arith, spans_long n lo hi c)) ∙ spans_at n i lo hi c d k)
    (eq-or-lt_of_le (le_of_suc-le-suc h))
