-- `device_list::set_configured` meets its contract: the store is the definition's.
-- Assumes nothing.
use mathlib.Core.Path.{refl}
use Rattle.model.specs.Layout.{with_device}
use Rattle.device_list.proofs.set_configured.Goals as goal

pub returns : goal.returns
unfolding with_device
returns c = refl
