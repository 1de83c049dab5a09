-- `vio_versions::holds_in` meets its contract: no version passed has the major.
-- Assumes nothing.
use mathlib.Core.Path.{◌≡◌}
use mathlib.Core.Bool.{false}
use Rattle.vio_model.specs.Versions.{holds_in}
use Rattle.vio_versions.proofs.holds_in.Given as goal

abbrev pub invariant-loop-i : goal.invariant-loop-i
invariant-loop-i l = holds_in l.list l.major l.i ≡ false
