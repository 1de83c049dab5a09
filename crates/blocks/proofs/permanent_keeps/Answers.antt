-- `blocks::permanent_keeps` meets its contract: each early answer breaks a rule, and past them the last rule decides.
-- Assumes nothing.
use mathlib.Core.Path.{sym, ◌∙◌}
use native.Mathlib.Omega.{arith}
use borrow.Author.Tests.{eq-eqb, ne_eqb}
use Rattle.basics.specs.Choice.{pick}
use Rattle.basics.proofs.Loops.{refute}
use Rattle.blocks.proofs.Rules.{permanent-rules, permanent-last}
use Rattle.blocks.proofs.permanent_keeps.Goals as goal

pub returns-then-pages-first : goal.returns-then-pages-first
returns-then-pages-first c = refute _ (λ t. let r = permanent-rules _ _ _ _ t in omega arith)

pub returns-then-pages-first-2 : goal.returns-then-pages-first-2
returns-then-pages-first-2 c = refute _ (λ t. let r = permanent-rules _ _ _ _ t in omega arith)

pub returns-then-configured-gt1 : goal.returns-then-configured-gt1
returns-then-configured-gt1 c = refute _ (λ t. let r = permanent-rules _ _ _ _ t in omega arith)

pub returns-then-permanent-eq0 : goal.returns-then-permanent-eq0
unfolding pick
returns-then-permanent-eq0 c = sym (permanent-last _ _ _ _ (omega arith) (omega arith) ∙ rw (eq-eqb _ _ c.if-permanent-eq0.true))

pub returns : goal.returns
unfolding pick
returns c = sym (permanent-last _ _ _ _ (omega arith) (omega arith) ∙ rw (ne_eqb _ _ c.if-permanent-eq0.false))
