-- `vio_rules::asking` meets its contract: by the highest major below the bound.
-- Assumes nothing.
use native.Mathlib.Omega.{arith}
use Rattle.vio_model.specs.Rules.{asks, asking}
use Rattle.vio_rules.proofs.Laws.{tests}
use Rattle.vio_rules.proofs.asking.Goals as goal

pub returns-then-major-eq0 : goal.returns-then-major-eq0
unfolding asking
returns-then-major-eq0 c = grind (arith, tests)

pub returns : goal.returns
unfolding asking asks
returns c = grind (arith, tests)
