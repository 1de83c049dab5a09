-- `front::give` meets its contract: the agent's answer, and the words if it does not refuse.
-- Assumes nothing.
use mathlib.Core.Path.{sym, ◌∙◌}
use Rattle.basics.proofs.Choice.{pick_true, pick-false}
use borrow.Author.Tests.{eq-eqb, ne_eqb}
use Rattle.front.proofs.give.Goals as goal

pub returns-then-answer-ne0 : goal.returns-then-answer-ne0
returns-then-answer-ne0 c = (c.receive-answer.ensures, sym (pick-false _ _ _ (ne_eqb _ _ c.if-answer-ne0.true)))

pub returns : goal.returns
returns c =
    (c.receive-answer.ensures, c.set_words.ensures ∙ sym (pick_true _ _ _ (eq-eqb _ _ c.if-answer-ne0.false)))
