-- `devices::unknown_result` meets its contract: the cases of the definition.
-- Assumes nothing.
use mathlib.Core.Path.{sym}
use Rattle.basics.proofs.Choice.{pick_true, pick-false}
use Rattle.devices.proofs.unknown_result.Goals as goal

pub returns-then-changes : goal.returns-then-changes
returns-then-changes c = sym (pick_true _ _ _ c.if-changes.true)

pub returns : goal.returns
returns c = sym (pick-false _ _ _ c.if-changes.false)
