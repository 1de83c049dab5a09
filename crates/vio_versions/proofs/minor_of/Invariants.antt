-- `vio_versions::minor_of` meets its contract: the minor is that of the versions passed.
-- Assumes nothing.
use mathlib.Core.Path.{◌≡◌}
use Rattle.vio_model.specs.Versions.{minor_in}
use Rattle.vio_versions.proofs.minor_of.Given as goal

abbrev pub invariant-loop-i : goal.invariant-loop-i
invariant-loop-i l = l.minor ≡ minor_in l.list l.major l.i
