-- `device_list::each_keeps` meets its contract: every device passed keeps the rules.
-- Assumes nothing.
use mathlib.Core.Bool.{true}
use mathlib.Core.Path.{◌≡◌}
use Rattle.basics.specs.Choice.{every}
use Rattle.model.specs.Devices.{device_keeps}
use Rattle.device_list.proofs.each_keeps.Given as goal

abbrev pub invariant-loop-i : goal.invariant-loop-i
invariant-loop-i l = every l.i (device_keeps l.words l.at) ≡ true
