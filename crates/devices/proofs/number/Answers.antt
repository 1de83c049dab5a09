-- `devices::number` meets its contract: the cases of the definition.
-- Assumes nothing.
use mathlib.Core.Path.{sym, ◌∙◌}
use borrow.Author.Tests.{lt-ltb, le-ltb}
use Rattle.model.specs.DeviceRequests.{device_number}
use Rattle.basics.proofs.Choice.{pick_true, pick-false}
use Rattle.devices.proofs.number.Goals as goal

pub returns : goal.returns
unfolding device_number
returns c = c.get64.ensures ∙ sym (pick-false _ _ _ (le-ltb _ _ c.if-b-lt-DEVICE_NUMBER_BYTES.false))

pub returns-then-b-lt-DEVICE_NUMBER_BYTES : goal.returns-then-b-lt-DEVICE_NUMBER_BYTES
unfolding device_number
returns-then-b-lt-DEVICE_NUMBER_BYTES c = sym (pick_true _ _ _ (lt-ltb _ _ c.if-b-lt-DEVICE_NUMBER_BYTES.true))
