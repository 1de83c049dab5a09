-- `vio_versions::accepted_list` meets its contract: each early answer breaks a rule, and every version passed keeps them.
-- Assumes nothing.
use mathlib.Core.Bool.{true}
use mathlib.Core.Path.{◌≡◌}
use Rattle.basics.specs.Choice.{every}
use Rattle.vio_model.specs.Versions.{version_keeps}
use Rattle.vio_versions.proofs.accepted_list.Given as goal

abbrev pub invariant-loop-i : goal.invariant-loop-i
invariant-loop-i l = every l.i (λ k. version_keeps l.list k) ≡ true
