-- `blocks::state_blocks_keep` meets its contract: past the count the loop decides.
-- Assumes nothing.
use mathlib.Core.Path.{sym, ◌∙◌}
use native.Mathlib.Omega.{arith}
use Rattle.basics.proofs.Loops.{refute}
use Rattle.blocks.proofs.Rules.{blocks-rules, blocks_last}
use Rattle.blocks.proofs.state_blocks_keep.Goals as goal

pub returns-then-n-gt-MOST_BLOCKS : goal.returns-then-n-gt-MOST_BLOCKS
returns-then-n-gt-MOST_BLOCKS c = refute _ (λ t. let r = blocks-rules _ _ _ t in omega arith)

pub returns : goal.returns
returns c = c.keep_rules.ensures ∙ sym (blocks_last _ _ _ (omega arith))
