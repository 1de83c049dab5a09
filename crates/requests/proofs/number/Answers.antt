use Rattle.basics.specs.Choice.{pick}
use Rattle.model.specs.Memory.{request_number}
use Rattle.requests.proofs.number.Goals as goal
use native.Mathlib.Omega.{arith}
use Rattle.std.proofs.lemmas.Grind.{common_steps}

pub returns-then-b-lt-MEMORY_HEADER_BYTES : goal.returns-then-b-lt-MEMORY_HEADER_BYTES
unfolding request_number pick
returns-then-b-lt-MEMORY_HEADER_BYTES c = grind (arith, common_steps)

pub returns-else-b-lt-MEMORY_HEADER_BYTES : goal.returns-else-b-lt-MEMORY_HEADER_BYTES
unfolding request_number pick
returns-else-b-lt-MEMORY_HEADER_BYTES c = grind (arith, common_steps)
