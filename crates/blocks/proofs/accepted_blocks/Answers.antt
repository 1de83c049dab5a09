-- `blocks::accepted_blocks` meets its contract: each early answer breaks a rule, and past them the loop decides.
-- Assumes nothing.
use mathlib.Core.Path.{sym, ◌∙◌}
use native.Mathlib.Omega.{arith}
use Rattle.basics.proofs.Loops.{refute}
use Rattle.blocks.proofs.Rules.{accepted-rules, accepted-last, blocks_last}
use Rattle.blocks.proofs.accepted_blocks.Goals as goal

pub returns-then-l-ne0 : goal.returns-then-l-ne0
returns-then-l-ne0 c = refute _ (λ t. let r = accepted-rules _ t in omega arith)

pub returns-then-n-gt-MOST_BLOCKS : goal.returns-then-n-gt-MOST_BLOCKS
returns-then-n-gt-MOST_BLOCKS c = refute _ (λ t. let r = accepted-rules _ t in omega arith)

pub returns : goal.returns
returns c = c.keep_rules.ensures ∙ sym (accepted-last _ (omega arith) ∙ blocks_last _ _ _ (omega arith))
