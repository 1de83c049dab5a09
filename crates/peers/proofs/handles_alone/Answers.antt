-- `peers::handles_alone` meets its contract: no handle passed stands before it.
-- Assumes nothing.
use mathlib.Core.Path.{ap}
use mathlib.Core.Bool.{not}
use mathlib.Core.Bool.{false}
use mathlib.Core.Path.{refl, sym}
use borrow.Author.Tests.{not-false}
use Rattle.basics.proofs.Choice.{clash}
use Rattle.basics.proofs.Loops.{every-none, every_more, every-all}
use Rattle.peers.proofs.handles_alone.Goals as goal

pub loop-p-preserved : goal.loop-p-preserved
loop-p-preserved c =
    every_more _ _ c.loop-p.invariant (c.handle_alone.ensures (not-false _ (ap not c.if-not-handle_alone.false)))

pub returns : goal.returns
returns c e = sym (every-all _ _ _ c.loop-p.auto.p-end c.loop-p-test.false c.loop-p.invariant)

pub loop-p-init : goal.loop-p-init
loop-p-init c = every-none _

pub returns-then-not-handle_alone : goal.returns-then-not-handle_alone
returns-then-not-handle_alone c e = absurd (clash false refl e)
