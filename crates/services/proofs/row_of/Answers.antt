-- `services::row_of` meets its contract: the table keeps its rule, which is one test computed over all of it.
-- Assumes nothing.
use mathlib.Core.Path.{refl}
use Rattle.basics.specs.Choice.{◌and◌, every}
use Rattle.model.specs.Messages.{services}
use Rattle.services.specs.Table.{ends_in_zero, row_fits}
use Rattle.services.proofs.row_of.Goals as goal

pub row_in-requires : goal.row_in-requires
unfolding ◌and◌ every services ends_in_zero row_fits
row_in-requires c = (record { same = refl; fits = refl }, c.requires)
