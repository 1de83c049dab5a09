use Rattle.basics.specs.Choice.{◌and◌}
use Rattle.model.specs.Memory.{has_nothing}
use Rattle.requests.proofs.has_nothing.Goals as goal
use native.Mathlib.Omega.{arith}
use Rattle.std.proofs.lemmas.Grind.{common_steps}

pub returns-then-get32-eq0 : goal.returns-then-get32-eq0
unfolding has_nothing ◌and◌
returns-then-get32-eq0 c = grind (arith, common_steps)

pub returns-else-get32-eq0 : goal.returns-else-get32-eq0
unfolding has_nothing ◌and◌
returns-else-get32-eq0 c = grind (arith, common_steps)
