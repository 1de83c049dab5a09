-- `id_list::accepted_ids` meets its contract: a list of no whole ids breaks the rules, and past it the ids decide.
-- Assumes nothing.
use mathlib.Core.Path.{sym, ◌∙◌}
use native.Mathlib.Omega.{arith}
use Rattle.basics.proofs.Loops.{refute}
use Rattle.id_list.proofs.Ids.{accepted-rules, accepted-last}
use Rattle.id_list.proofs.accepted_ids.Goals as goal

pub returns-then-l-ne0 : goal.returns-then-l-ne0
returns-then-l-ne0 c = refute _ (λ t. let r = accepted-rules _ t in omega arith)

pub returns : goal.returns
returns c = c.keep_rules.ensures ∙ sym (accepted-last _ (omega arith))
