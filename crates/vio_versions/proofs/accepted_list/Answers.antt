-- `vio_versions::accepted_list` meets its contract: each early answer breaks a rule, and every version passed keeps them.
-- Assumes nothing.
use mathlib.Core.Path.{ap, sym, ◌∙◌}
use mathlib.Core.Bool.{not}
use native.Mathlib.Omega.{arith}
use Rattle.basics.proofs.Loops.{no, every-fails}
use Rattle.vio_model.proofs.Versions.{list-last}
use Rattle.vio_versions.proofs.accepted_list.Goals as goal

pub returns-then-not-version_keeps : goal.returns-then-not-version_keeps
returns-then-not-version_keeps c =
    every-fails _ _ _ (omega arith) (no _ c.version_keeps.ensures (ap not c.if-not-version_keeps.true))
    ∙ sym (list-last _ (omega arith) (omega arith) (omega arith))
