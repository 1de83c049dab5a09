-- `device_list::each_apart` meets its contract: every device passed is apart from those before it.
-- Assumes nothing.
use mathlib.Core.Bool.{true}
use mathlib.Core.Path.{◌≡◌}
use Rattle.basics.specs.Choice.{every}
use Rattle.model.specs.Devices.{device_apart}
use Rattle.device_list.proofs.each_apart.Given as goal

abbrev pub invariant-loop-i : goal.invariant-loop-i
invariant-loop-i l = every l.i (device_apart l.words l.at) ≡ true
