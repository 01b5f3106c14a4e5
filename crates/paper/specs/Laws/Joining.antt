-- The rectangle of two blocks: one or none, whichever comes first; and the keep-outs of a list two by two.
-- Assumes nothing.
use Rattle.std.proofs.Common.{arith}
use Rattle.std.proofs.Math.Nat.{min_comm, max_comm}
use Rattle.std.specs.Prelude.{◌≡◌, refl, Bool, true, false, T}
use Rattle.std.proofs.Math.Path.{ap₂}
use mathlib.Core.List.{[], ◌∷◌, ◌++◌}
use Rattle.paper.specs.Grid.{Area, Span, Block, widened, Any}
use Rattle.paper.specs.Laws.Joins.{Touch, Share, hull, common, beam, post, beamb, postb, beam_says, post_says, given, join_of, Joins, sideways, upwards, join_in, join_out}

-- ---- one or none

given_yes : {A : Type 0} (b : Bool) (x : A) → T b → given b x ≡ x ∷ []
unfolding given
given_yes true x t = refl
given_yes false x t = absurd t

given_no : {A : Type 0} (b : Bool) (x : A) → ¬ (T b) → given b x ≡ []
unfolding given
given_no true x n = absurd (n tt)
given_no false x n = refl

module _ (a b : Block) where
  pub join_beam : Touch a.along_x b.along_x → Share a.along_y b.along_y → join_of a b ≡ beam a b ∷ []
  unfolding join_of Touch Share
  join_beam t s =
      ap₂ ◌++◌ (given_yes (beamb a b) (beam a b) ((beam_says a b).test (t, s)))
      (given_no (postb a b) (post a b) (λ k. let h = (post_says a b).fact k in omega (arith, h.0.1, t.1)))

  pub join_post : Share a.along_x b.along_x → Touch a.along_y b.along_y → join_of a b ≡ post a b ∷ []
  unfolding join_of Touch Share
  join_post s t =
      ap₂ ◌++◌ (given_no (beamb a b) (beam a b) (λ k. let h = (beam_says a b).fact k in omega (arith, h.0.1, s.1)))
      (given_yes (postb a b) (post a b) ((post_says a b).test (s, t)))

  pub join_none : ¬ (Touch a.along_x b.along_x × Share a.along_y b.along_y) → ¬ (Share a.along_x b.along_x × Touch a.along_y b.along_y)
      → join_of a b ≡ []
  unfolding join_of
  join_none n m =
      ap₂ ◌++◌ (given_no (beamb a b) (beam a b) (λ k. n ((beam_says a b).fact k))) (given_no (postb a b) (post a b) (λ k. m ((post_says a b).fact k)))

-- ---- whichever comes first

touch_flip : (s t : Span) → Touch s t → Touch t s
unfolding Touch
touch_flip s t h = omega arith

share_flip : (s t : Span) → Share s t → Share t s
unfolding Share
share_flip s t h = omega arith

hull_flip : (s t : Span) → hull s t ≡ hull t s
hull_flip s t = λ i. record { lo = min_comm s.lo t.lo i; hi = max_comm s.hi t.hi i; c = 0 }

common_flip : (s t : Span) → common s t ≡ common t s
common_flip s t = λ i. record { lo = max_comm s.lo t.lo i; hi = min_comm s.hi t.hi i; c = 0 }

-- what holds of the rectangle, as of an area that is not widened
pub join_flip : (P Q : Block → Type 0) → ((r : Area) → P (widened 0 r) → Q (widened 0 r)) → (a b : Block) → Any P (join_of a b) → Any Q (join_of b a)
join_flip P Q f a b h = join_in Q b a (turned (join_out P a b h))
  where
    beam_flip : beam a b ≡ beam b a
    beam_flip = λ i. record { along_x = hull_flip a.along_x b.along_x i; along_y = common_flip a.along_y b.along_y i }

    post_flip : post a b ≡ post b a
    post_flip = λ i. record { along_x = common_flip a.along_x b.along_x i; along_y = hull_flip a.along_y b.along_y i }

    turned : Joins a b P → Joins b a Q
    turned (sideways t s p) = sideways (touch_flip _ _ t) (share_flip _ _ s) (rw beam_flip at (f _ p))
    turned (upwards s t p) = upwards (share_flip _ _ s) (touch_flip _ _ t) (rw post_flip at (f _ p))

pub join_imp : (P Q : Block → Type 0) → ((r : Area) → P (widened 0 r) → Q (widened 0 r)) → (a b : Block) → Any P (join_of a b) → Any Q (join_of a b)
join_imp P Q f a b h = join_in Q a b (same (join_out P a b h))
  where
    same : Joins a b P → Joins a b Q
    same (sideways t s p) = sideways t s (f _ p)
    same (upwards s t p) = upwards s t (f _ p)
