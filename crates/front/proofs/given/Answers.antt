-- `front::given` meets its contract: by the agent's refusal.
-- Assumes nothing.
use borrow.Author.Tests.{eq-eqb, ne_eqb}
use Rattle.basics.specs.Choice.{pick}
use Rattle.front.proofs.given.Goals as goal

pub returns-then-answer-ne0 : goal.returns-then-answer-ne0
unfolding pick
returns-then-answer-ne0 c = rw (ne_eqb _ _ c.if-answer-ne0.true) c.refused.ensures

pub returns : goal.returns
unfolding pick
returns c = rw (eq-eqb _ _ c.if-answer-ne0.false)
