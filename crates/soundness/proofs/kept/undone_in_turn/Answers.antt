-- `soundness::kept::undone_in_turn` meets its contract: what is left to be undone can be undone in turn just if all of it can.
use Rattle.std.proofs.Common.{arith}
use Rattle.paper.specs.Laws.Says.{said, said_not}
use Rattle.paper.specs.Laws.Standing.{kept_is}
use Rattle.soundness.specs.Laws.Undone.{left_all, left_none, left_stop, left_room, left_apart, left_seamed, left_fewer, left_next}
use Rattle.soundness.proofs.kept.undone_in_turn.Goals as goal

pub loop-left-init : goal.loop-left-init
loop-left-init c = left_all _ c.requires.0 c.requires.1

pub goes_back-requires : goal.goes_back-requires
goes_back-requires c = let p = c.loop-left.invariant in (p.stands, p.fits.two, omega (arith, c.loop-left-test.true))

pub returns-then-not-goes_back : goal.returns-then-not-goes_back
returns-then-not-goes_back c = left_stop _ _ c.loop-left.invariant _ (omega (arith, c.loop-left-test.true)) c.goes_back.ensures c.if-not-goes_back.true

pub undo-next-requires : goal.undo-next-requires
undo-next-requires c =
    let p = c.loop-left.invariant in (
      p.stands,
      record {
        some = omega (arith, kept_is _ p.stands, c.loop-left-test.true);
        room = left_room _ _ p _ (omega (arith, c.loop-left-test.true)) c.goes_back.ensures c.if-not-goes_back.false;
      },
    )

pub seamless-requires : goal.seamless-requires
seamless-requires c = left_apart _ _ c.loop-left.invariant _ (omega (arith, c.loop-left-test.true)) c.goes_back.ensures c.if-not-goes_back.false _ c.undo-next.ensures

pub returns-then-not-seamless : goal.returns-then-not-seamless
returns-then-not-seamless c =
    left_seamed _ _ c.loop-left.invariant _ (omega (arith, c.loop-left-test.true)) c.goes_back.ensures c.if-not-goes_back.false _ c.undo-next.ensures
    (said_not c.seamless.ensures c.if-not-seamless.true)

pub loop-left-smaller : goal.loop-left-smaller
loop-left-smaller c = left_fewer _ _ c.loop-left.invariant _ (omega (arith, c.loop-left-test.true)) c.goes_back.ensures c.if-not-goes_back.false _ c.undo-next.ensures

pub loop-left-preserved : goal.loop-left-preserved
loop-left-preserved c =
    left_next _ _ c.loop-left.invariant _ (omega (arith, c.loop-left-test.true)) c.goes_back.ensures c.if-not-goes_back.false _ c.undo-next.ensures
    (said c.seamless.ensures c.if-not-seamless.false)

pub returns : goal.returns
returns c = left_none _ _ c.loop-left.invariant (omega (arith, c.loop-left-test.false))
