-- `front::front_sound` meets its contract: every channel passed is sound.
-- Assumes nothing.
use mathlib.Core.Path.{ap}
use mathlib.Core.Bool.{not}
use native.Mathlib.Omega.{arith}
use mathlib.Core.Bool.{true}
use Prim.Native.Nat.{◌-◌}
use Rattle.front_model.specs.Front.{front_sound}
use Rattle.basics.proofs.Loops.{no, yes, every-none, every_more, every-fails, every-all}
use Rattle.front.proofs.front_sound.Goals as goal

pub returns-then-not-channel_sound : goal.returns-then-not-channel_sound
unfolding front_sound
returns-then-not-channel_sound c = every-fails _ _ _ c.loop-c-test.true (no _ c.channel_sound.ensures (ap not c.if-not-channel_sound.true))

pub loop-c-preserved : goal.loop-c-preserved
loop-c-preserved c = every_more _ _ c.loop-c.invariant (yes _ c.channel_sound.ensures (ap not c.if-not-channel_sound.false))

pub returns : goal.returns
unfolding front_sound
returns c = every-all _ _ _ (omega arith) c.loop-c-test.false c.loop-c.invariant

pub loop-c-init : goal.loop-c-init
loop-c-init c = every-none _
