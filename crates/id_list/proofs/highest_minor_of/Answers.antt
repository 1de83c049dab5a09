-- `id_list::highest_minor_of` meets its contract: the word that it reads is the field.
-- Assumes nothing.
use mathlib.Core.Path.{refl}
use Rattle.model.specs.Layout.{id_in}
use Rattle.id_list.proofs.highest_minor_of.Goals as goal

pub returns : goal.returns
unfolding id_in
returns c = refl
