-- `device_list::name_apart` meets its contract: no device passed has the id and the name.
-- Assumes nothing.
use mathlib.Core.Bool.{true, not}
use mathlib.Core.Path.{◌≡◌}
use Rattle.basics.specs.Choice.{every}
use Rattle.model.specs.Devices.{is_device}
use Rattle.model.specs.Layout.{device_in}
use Rattle.device_list.proofs.name_apart.Given as goal

abbrev pub invariant-loop-j : goal.invariant-loop-j
invariant-loop-j l = every l.j (λ k. not (is_device (device_in l.words l.at l.i).id (device_in l.words l.at l.i).name (device_in l.words l.at k))) ≡ true
