use Rattle.removal.proofs.Laws.{result-settled, result-cancelled, result-failing, result-after}
use Rattle.removal.proofs.result_at.Goals as goal

pub returns-then-i-position : goal.returns-then-i-position
returns-then-i-position c = result-settled _ _ c.position_of-position.ensures c.requires.0 c.if-i-position.true c.result_of.ensures

pub returns-then-is_cancelled : goal.returns-then-is_cancelled
returns-then-is_cancelled c = result-cancelled _ _ c.position_of-position.ensures c.if-i-position.false c.is_cancelled.ensures c.if-is_cancelled.true

pub returns-then-i-position-2 : goal.returns-then-i-position-2
returns-then-i-position-2 c = result-failing _ _ c.position_of-position.ensures c.if-i-position.false c.is_cancelled.ensures c.if-is_cancelled.false c.if-i-position-2.true c.requires.1

pub returns-else-i-position-2 : goal.returns-else-i-position-2
returns-else-i-position-2 c = result-after _ _ c.position_of-position.ensures c.if-i-position.false c.is_cancelled.ensures c.if-is_cancelled.false c.if-i-position-2.false
