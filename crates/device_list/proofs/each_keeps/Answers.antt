-- `device_list::each_keeps` meets its contract: every device passed keeps the rules.
-- Assumes nothing.
use mathlib.Core.Path.{ap}
use mathlib.Core.Bool.{not}
use Rattle.basics.proofs.Loops.{no, yes, every-none, every_more, every-fails, every-all}
use Rattle.device_list.proofs.each_keeps.Goals as goal

pub returns-then-not-device_keeps : goal.returns-then-not-device_keeps
returns-then-not-device_keeps c =
    every-fails _ _ _ c.loop-i-test.true (no _ c.device_keeps.ensures (ap not c.if-not-device_keeps.true))

pub loop-i-preserved : goal.loop-i-preserved
loop-i-preserved c =
    every_more _ _ c.loop-i.invariant (yes _ c.device_keeps.ensures (ap not c.if-not-device_keeps.false))

pub returns : goal.returns
returns c = let l = c.loop-i in every-all _ _ _ l.auto.i-end c.loop-i-test.false l.invariant

pub loop-i-init : goal.loop-i-init
loop-i-init c = every-none _
