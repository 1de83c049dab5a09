-- `device_list::name_apart` meets its contract: no device passed has the id and the name.
-- Assumes nothing.
use mathlib.Core.Bool.{not}
use mathlib.Core.Path.{sym, ap, ◌∙◌}
use native.Mathlib.Omega.{arith}
use Rattle.model.specs.Devices.{device_apart}
use Rattle.basics.proofs.Loops.{every-none, every_more, every-fails, every-all}
use Rattle.device_list.proofs.Names.{keeps-name}
use Rattle.device_list.proofs.name_apart.Goals as goal

pub same_device-requires : goal.same_device-requires
same_device-requires c =
    let each = c.requires.1 in
    (omega arith, omega arith, keeps-name _ _ _ _ each (omega arith), keeps-name _ _ _ _ each (omega arith))

pub returns-then-same_device : goal.returns-then-same_device
unfolding device_apart
returns-then-same_device c =
    every-fails _ _ _ c.loop-j-test.true (ap not (sym c.same_device.ensures ∙ c.if-same_device.true))

pub loop-j-preserved : goal.loop-j-preserved
loop-j-preserved c =
    every_more _ _ c.loop-j.invariant (ap not (sym c.same_device.ensures ∙ c.if-same_device.false))

pub returns : goal.returns
unfolding device_apart
returns c = let l = c.loop-j in every-all _ _ _ l.auto.j-end c.loop-j-test.false l.invariant

pub loop-j-init : goal.loop-j-init
loop-j-init c = every-none _
