-- `removal_soundness::outstanding_sound` meets its contract: each early answer breaks a rule, and past them the removal decides.
-- Assumes nothing.
use mathlib.Core.Path.{sym, ◌∙◌}
use native.Mathlib.Omega.{arith}
use Rattle.basics.proofs.Loops.{refute}
use Rattle.removal_soundness.proofs.Rules.{none-outstanding, outstanding-rules, outstanding-last}
use Rattle.removal_soundness.proofs.outstanding_sound.Goals as goal

pub returns-then-state-ne1 : goal.returns-then-state-ne1
returns-then-state-ne1 c = refute _ (λ t. let r = outstanding-rules _ (λ e. omega arith) t in omega arith)

pub returns-then-state-gt1 : goal.returns-then-state-gt1
returns-then-state-gt1 c = refute _ (λ t. let r = outstanding-rules _ (λ e. omega arith) t in omega arith)

pub returns : goal.returns
returns c = c.removal_sound.ensures ∙ sym (outstanding-last _ (omega arith) (omega arith))

pub returns-then-state-eq0 : goal.returns-then-state-eq0
returns-then-state-eq0 c = sym (none-outstanding _ (omega arith))
