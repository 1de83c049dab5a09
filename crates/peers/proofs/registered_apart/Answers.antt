-- `peers::registered_apart` meets its contract: each id passed is apart.
-- Assumes nothing.
use mathlib.Core.Path.{ap}
use mathlib.Core.Bool.{not}
use Rattle.basics.proofs.Loops.{no, yes, every-none, every_more, every-fails, every-all}
use Rattle.peers.proofs.registered_apart.Goals as goal

pub returns-then-not-peer_apart : goal.returns-then-not-peer_apart
returns-then-not-peer_apart c = every-fails _ _ _ c.loop-p-test.true (no _ c.peer_apart.ensures (ap not c.if-not-peer_apart.true))

pub loop-p-preserved : goal.loop-p-preserved
loop-p-preserved c = every_more _ _ c.loop-p.invariant (yes _ c.peer_apart.ensures (ap not c.if-not-peer_apart.false))

pub returns : goal.returns
returns c = every-all _ _ _ c.loop-p.auto.p-end c.loop-p-test.false c.loop-p.invariant

pub loop-p-init : goal.loop-p-init
loop-p-init c = every-none _
