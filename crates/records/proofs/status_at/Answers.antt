use native.Mathlib.Omega.{arith}
use Rattle.std.proofs.lemmas.Grind.{common_steps}
use Rattle.basics.specs.Choice.{pick}
use Rattle.model.specs.Memory.{status_at}
use Rattle.records.proofs.status_at.Goals as goal

pub returns-then-configured_of-eq1 : goal.returns-then-configured_of-eq1
unfolding status_at pick
returns-then-configured_of-eq1 c = grind (arith, common_steps)

pub returns-else-configured_of-eq1 : goal.returns-else-configured_of-eq1
unfolding status_at pick
returns-else-configured_of-eq1 c = grind (arith, common_steps)
