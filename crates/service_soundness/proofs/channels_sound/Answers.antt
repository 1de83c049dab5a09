-- `service_soundness::channels_sound` meets its contract: every channel passed is closed or ready.
-- Assumes nothing.
use borrow.Author.Tests.{lt-leb, le-leb}
use Rattle.basics.proofs.Loops.{every-none, every_more, every-fails, every-all}
use Rattle.service_soundness.proofs.channels_sound.Goals as goal

pub returns-then-state-c-gt1 : goal.returns-then-state-c-gt1
returns-then-state-c-gt1 c = every-fails _ _ _ c.loop-c-test.true (lt-leb _ _ c.if-state-c-gt1.true)

pub loop-c-preserved : goal.loop-c-preserved
loop-c-preserved c = every_more _ _ c.loop-c.invariant (le-leb _ _ c.if-state-c-gt1.false)

pub returns : goal.returns
returns c = every-all _ _ _ c.loop-c.auto.c-end c.loop-c-test.false c.loop-c.invariant

pub loop-c-init : goal.loop-c-init
loop-c-init c = every-none _
