-- `vio_versions::highest_below` meets its contract: the major is the highest of the versions passed.
-- Assumes nothing.
use mathlib.Core.Path.{◌≡◌}
use Rattle.vio_model.specs.Versions.{highest_in}
use Rattle.vio_versions.proofs.highest_below.Given as goal

abbrev pub invariant-loop-i : goal.invariant-loop-i
invariant-loop-i l = l.highest ≡ highest_in l.list l.bound l.i
