-- The lines of both sorts of tracks are the sheet.
-- Assumes nothing.
use Rattle.std.specs.Prelude.{get_or, replicate}
use Rattle.std.proofs.Common.{zero-add, arith, ◌∙◌, inl, inr}
use Rattle.tracks.specs.Tracks.{track}
use Rattle.index.specs.Bits.{no_edges}
use Rattle.index.specs.Rows.{Shows, Put, Counted}
use Rattle.index.specs.declared.Index.{Index}
use Rattle.index.specs.declared.Crowding.{Crowding}
use Rattle.index.specs.Laws.Arrays.{replicate_at}

abbrev pub blank : Index → Crowding
blank i = record {
  code = 0;
  upright = i.x.count;
  level = i.y.count;
  at = replicate 192 0;
  free = replicate 192 0;
  stretch = replicate 192 0;
}

pub counted : (i : Index) (a r : Crowding) → Put (blank i) 0 i.x i.upright i.x.count a
    → Put a i.x.count i.y i.level i.y.count r → Counted i r
counted i a r p q = record {
  code_is = q.code_is ∙ p.code_is;
  upright_is = q.upright_is ∙ p.upright_is;
  level_is = q.level_is ∙ p.level_is;
  long = q.long;
  uprights = λ k h. let s = q.others k (inl h) in let u : Shows a k (track i.x k) (get_or i.upright k no_edges) = rw zero-add at (p.each k h) in record {
    at_is = s.at_is ∙ u.at_is;
    free_is = s.free_is ∙ u.free_is;
    stretch_is = s.stretch_is ∙ u.stretch_is;
  };
  levels = λ k h. q.each k h;
  rest = λ j h. let s = q.others j (inr h) in let u = p.others j (inr (omega arith)) in (
    s.at_is ∙ u.at_is ∙ replicate_at 0 192 j,
    s.free_is ∙ u.free_is ∙ replicate_at 0 192 j,
    s.stretch_is ∙ u.stretch_is ∙ replicate_at 0 192 j,
  );
}
