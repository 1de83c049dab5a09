-- `devices::status_of` meets its contract: the cases of the definition.
-- Assumes nothing.
use mathlib.Core.Path.{sym}
use borrow.Author.Tests.{eq-eqb, ne_eqb}
use Rattle.model.specs.DeviceRequests.{device_status}
use Rattle.basics.proofs.Choice.{pick_true, pick-false}
use Rattle.devices.proofs.status_of.Goals as goal

pub returns-then-configured-eq1 : goal.returns-then-configured-eq1
unfolding device_status
returns-then-configured-eq1 c = sym (pick_true _ _ _ (eq-eqb _ _ c.if-configured-eq1.true))

pub returns : goal.returns
unfolding device_status
returns c = sym (pick-false _ _ _ (ne_eqb _ _ c.if-configured-eq1.false))
