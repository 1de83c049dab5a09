-- `device_list::each_apart` meets its contract: every device passed is apart from those before it.
-- Assumes nothing.
use mathlib.Core.Path.{ap}
use mathlib.Core.Bool.{not}
use native.Mathlib.Omega.{arith}
use Rattle.basics.proofs.Choice.{every-at, every-make}
use Rattle.basics.proofs.Loops.{no, yes, every-none, every_more, every-fails, every-all}
use Rattle.device_list.proofs.each_apart.Goals as goal

pub device_apart-requires : goal.device_apart-requires
device_apart-requires c =
    let each = c.requires.1 in
    (omega arith, every-make _ _ (λ k h. every-at _ _ k each (omega arith)))

pub returns-then-not-device_apart : goal.returns-then-not-device_apart
returns-then-not-device_apart c =
    every-fails _ _ _ c.loop-i-test.true (no _ c.device_apart.ensures (ap not c.if-not-device_apart.true))

pub loop-i-preserved : goal.loop-i-preserved
loop-i-preserved c =
    every_more _ _ c.loop-i.invariant (yes _ c.device_apart.ensures (ap not c.if-not-device_apart.false))

pub returns : goal.returns
returns c = let l = c.loop-i in every-all _ _ _ l.auto.i-end c.loop-i-test.false l.invariant

pub loop-i-init : goal.loop-i-init
loop-i-init c = every-none _
