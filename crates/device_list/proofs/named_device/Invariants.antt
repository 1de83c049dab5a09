-- `device_list::named_device` meets its contract: the id and the name name no device passed.
-- Assumes nothing.
use Rattle.model.specs.Devices.{is_device}
use Rattle.model.specs.Layout.{device_in, first_device_word}
use Rattle.basics.proofs.Loops.{NoneBelow}
use Rattle.device_list.proofs.named_device.Given as goal

abbrev pub invariant-loop-i : goal.invariant-loop-i
invariant-loop-i l = NoneBelow (λ k. is_device l.id l.name (device_in l.state first_device_word k)) l.i
