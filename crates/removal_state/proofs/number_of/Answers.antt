use native.Mathlib.Omega.{arith}
use mathlib.Core.Path.{sym}
use Rattle.removal_state.proofs.Laws.{number_past}
use Rattle.removal_state.proofs.number_of.Goals as goal

pub returns-then-n-i : goal.returns-then-n-i
returns-then-n-i c = sym (number_past _ _ 8 (omega arith))
