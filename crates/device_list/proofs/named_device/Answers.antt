-- `device_list::named_device` meets its contract: the id and the name name no device passed.
-- Assumes nothing.
use mathlib.Core.Path.{sym, ◌∙◌}
use Rattle.model.specs.Devices.{named_device}
use Rattle.basics.proofs.Loops.{none_first, none_more, found_here, found_nowhere}
use Rattle.device_list.proofs.Names.{devices-few, devices-each, keeps-name}
use native.Mathlib.Omega.{arith}
use Rattle.device_list.proofs.named_device.Goals as goal

pub is_device-requires : goal.is_device-requires
is_device-requires c =
    let few = devices-few _ _ _ c.requires in
    (omega arith, keeps-name _ _ _ _ (devices-each _ _ _ c.requires) c.loop-i-test.true)

pub returns-then-is_device : goal.returns-then-is_device
unfolding named_device
returns-then-is_device c =
    found_here _ _ _ c.loop-i.invariant c.loop-i-test.true (sym c.is_device.ensures ∙ c.if-is_device.true)

pub loop-i-preserved : goal.loop-i-preserved
loop-i-preserved c =
    none_more _ _ c.loop-i.invariant (sym c.is_device.ensures ∙ c.if-is_device.false)

pub returns : goal.returns
unfolding named_device
returns c = found_nowhere _ _ _ c.loop-i.invariant c.loop-i-test.false

pub loop-i-init : goal.loop-i-init
loop-i-init c = none_first _
