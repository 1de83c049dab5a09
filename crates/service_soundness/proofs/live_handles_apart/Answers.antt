-- `service_soundness::live_handles_apart` meets its contract: every handle passed differs from those before it.
-- Assumes nothing.
use mathlib.Core.Path.{ap}
use mathlib.Core.Bool.{not}
use Rattle.basics.proofs.Loops.{no, yes, every-none, every_more, every-fails, every-all}
use Rattle.service_soundness.proofs.live_handles_apart.Goals as goal

pub returns-then-not-handle_apart : goal.returns-then-not-handle_apart
returns-then-not-handle_apart c = every-fails _ _ _ c.loop-k-test.true (no _ c.handle_apart.ensures (ap not c.if-not-handle_apart.true))

pub loop-k-preserved : goal.loop-k-preserved
loop-k-preserved c = every_more _ _ c.loop-k.invariant (yes _ c.handle_apart.ensures (ap not c.if-not-handle_apart.false))

pub returns : goal.returns
returns c = every-all _ _ _ c.loop-k.auto.k-end c.loop-k-test.false c.loop-k.invariant

pub loop-k-init : goal.loop-k-init
loop-k-init c = every-none _
