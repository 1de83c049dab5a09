-- `device_list::busy_of` meets its contract: the word that it reads is the field.
-- Assumes nothing.
use mathlib.Core.Path.{refl}
use Rattle.model.specs.Layout.{device_in}
use Rattle.device_list.proofs.busy_of.Goals as goal

pub returns : goal.returns
unfolding device_in
returns c = refl
