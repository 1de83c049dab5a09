-- `device_list::state_devices_keep` meets its contract: past the count the devices decide.
-- Assumes nothing.
use Rattle.basics.proofs.Loops.{refute}
use Rattle.device_list.proofs.Names.{devices-few}
use native.Mathlib.Omega.{arith}
use Rattle.device_list.proofs.state_devices_keep.Goals as goal

pub returns-then-n-gt-MOST_DEVICES : goal.returns-then-n-gt-MOST_DEVICES
returns-then-n-gt-MOST_DEVICES c = refute _ (λ t. let r = devices-few _ _ _ t in omega arith)
