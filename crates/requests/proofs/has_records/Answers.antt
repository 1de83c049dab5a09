use native.Mathlib.Omega.{arith}
use mathlib.Core.Path.{sym}
use Rattle.std.proofs.lemmas.Grind.{common_steps}
use Rattle.basics.specs.Choice.{◌and◌}
use Rattle.model.specs.Memory.{has_records}
use Rattle.requests.proofs.Laws.{counted-last}
use Rattle.requests.proofs.has_records.Goals as goal
use Rattle.requests.proofs.has_records.Goals.{then-n-ge1, else-n-ge1}

pub returns-then-n-le-MOST_RECORDS : goal.returns-then-n-le-MOST_RECORDS
returns-then-n-le-MOST_RECORDS c = rw c.get32-n.ensures.0 (sym (counted-last _ (omega arith) (omega arith)))

pub returns-else-n-le-MOST_RECORDS : goal.returns-else-n-le-MOST_RECORDS
unfolding has_records ◌and◌
returns-else-n-le-MOST_RECORDS c = grind (arith, common_steps)
