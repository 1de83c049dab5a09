-- `blocks::block_keeps` meets its contract: each early answer breaks a rule, and past them the permanent pages decide.
-- Assumes nothing.
use mathlib.Core.Path.{sym, ◌∙◌}
use native.Mathlib.Omega.{arith}
use Rattle.model.proofs.Rules.{block-rules}
use Rattle.basics.proofs.Loops.{refute}
use Rattle.blocks.proofs.Rules.{lies-last}
use Rattle.blocks.proofs.block_keeps.Goals as goal

pub returns-then-base-ne0 : goal.returns-then-base-ne0
returns-then-base-ne0 c = refute _ (λ t. let r = (block-rules _ _ t).0 in omega arith)

pub returns-then-pages-lt1 : goal.returns-then-pages-lt1
returns-then-pages-lt1 c = refute _ (λ t. let r = (block-rules _ _ t).0 in omega arith)

pub returns-then-pages-gt-MOST_PAGES : goal.returns-then-pages-gt-MOST_PAGES
returns-then-pages-gt-MOST_PAGES c = refute _ (λ t. let r = (block-rules _ _ t).0 in omega arith)

pub returns-then-base-gt-HIGHEST_END : goal.returns-then-base-gt-HIGHEST_END
returns-then-base-gt-HIGHEST_END c = refute _ (λ t. let r = (block-rules _ _ t).0 in omega arith)

pub returns-then-base-pages-gt-HIGHEST_END : goal.returns-then-base-pages-gt-HIGHEST_END
returns-then-base-pages-gt-HIGHEST_END c = refute _ (λ t. let r = (block-rules _ _ t).0 in omega arith)

pub returns-then-base-floor : goal.returns-then-base-floor
returns-then-base-floor c = refute _ (λ t. let r = (block-rules _ _ t).0 in omega arith)

pub returns : goal.returns
returns c = c.permanent_keeps.ensures ∙ sym (lies-last _ _ (omega arith))
