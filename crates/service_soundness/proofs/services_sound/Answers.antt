-- `service_soundness::services_sound` meets its contract: every service passed is sound.
-- Assumes nothing.
use mathlib.Core.Path.{ap}
use mathlib.Core.Bool.{not}
use Rattle.basics.proofs.Loops.{no, yes, every-none, every_more, every-fails, every-all}
use Rattle.service_soundness.proofs.services_sound.Goals as goal

pub returns-then-not-service_sound : goal.returns-then-not-service_sound
returns-then-not-service_sound c =
    every-fails _ _ _ c.loop-k-test.true (no _ c.service_sound.ensures (ap not c.if-not-service_sound.true))

pub loop-k-preserved : goal.loop-k-preserved
loop-k-preserved c =
    every_more _ _ c.loop-k.invariant (yes _ c.service_sound.ensures (ap not c.if-not-service_sound.false))

pub returns : goal.returns
returns c = every-all _ _ _ c.loop-k.auto.k-end c.loop-k-test.false c.loop-k.invariant

pub loop-k-init : goal.loop-k-init
loop-k-init c = every-none _
