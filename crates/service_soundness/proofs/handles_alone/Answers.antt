-- `service_soundness::handles_alone` meets its contract: no handle passed stands before it.
-- Assumes nothing.
use mathlib.Core.Path.{ap}
use mathlib.Core.Bool.{not}
use mathlib.Core.Bool.{false}
use mathlib.Core.Path.{refl, sym}
use Rattle.basics.proofs.Loops.{every-none, every_more, every-all}
use Rattle.basics.proofs.Choice.{clash}
use borrow.Author.Tests.{not-false}
use Rattle.service_soundness.proofs.handles_alone.Goals as goal

pub loop-k-preserved : goal.loop-k-preserved
loop-k-preserved c = every_more _ _ c.loop-k.invariant (c.handle_alone.ensures (not-false _ (ap not c.if-not-handle_alone.false)))

pub returns : goal.returns
returns c e = sym (every-all _ _ _ c.loop-k.auto.k-end c.loop-k-test.false c.loop-k.invariant)

pub loop-k-init : goal.loop-k-init
loop-k-init c = every-none _

pub returns-then-not-handle_alone : goal.returns-then-not-handle_alone
returns-then-not-handle_alone c e = absurd (clash false refl e)
