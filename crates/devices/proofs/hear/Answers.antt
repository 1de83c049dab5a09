-- `devices::hear` meets its contract: a device found is asked, and another is answered as unknown.
-- Assumes nothing.
use mathlib.Core.Path.{sym, ◌∙◌}
use Rattle.model.specs.DeviceRequests.{device_for}
use Rattle.model.proofs.Rules.{sound-facts}
use Rattle.devices.proofs.Laws.{named-place}
use native.Mathlib.Omega.{arith}
use Rattle.devices.proofs.hear.Goals as goal

pub ask-requires : goal.ask-requires
ask-requires c =
    let p = c.requires in
    (named-place _ _ _ _ (sound-facts _ p.0).devices (sym c.named_device.ensures ∙ c.in-Some.is), omega (arith, p.1))

pub returns-in-Some : goal.returns-in-Some
unfolding device_for
returns-in-Some c =
    rw (← c.named_device.ensures, c.in-Some.is) c.ask.ensures

pub returns-in-None : goal.returns-in-None
unfolding device_for
returns-in-None c =
    rw (← c.named_device.ensures, c.in-None.is, ← c.unknown_result.ensures) (c.refuse.ensures _)

pub named_device-requires : goal.named_device-requires
named_device-requires c = (sound-facts _ c.requires.0).devices
