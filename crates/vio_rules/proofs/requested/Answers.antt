-- `vio_rules::requested` meets its contract: by the class, and by whether the major is held.
-- Assumes nothing.
use native.Mathlib.Omega.{arith}
use Rattle.std.proofs.lemmas.Grind.{common_steps}
use Rattle.vio_model.specs.Rules.{acknowledges, refuses_class, requested, tells_lower}
use Rattle.vio_rules.proofs.Laws.{tests}
use Rattle.vio_rules.proofs.requested.Goals as goal

pub returns-then-m-end : goal.returns-then-m-end
unfolding requested refuses_class
returns-then-m-end c = grind (arith, tests)

pub returns-then-holds : goal.returns-then-holds
unfolding requested acknowledges
returns-then-holds c = grind (arith, common_steps, tests)

pub returns : goal.returns
unfolding requested tells_lower
returns c = grind (arith, tests)
