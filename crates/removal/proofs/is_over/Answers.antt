use Rattle.basics.specs.Choice.{◌or◌}
use Rattle.removal_state.proofs.Laws.{cancelled-is, count-is, position-is}
use Rattle.removal.proofs.is_over.Goals as goal

pub returns-then-is_cancelled : goal.returns-then-is_cancelled
unfolding ◌or◌
returns-then-is_cancelled c = rw (cancelled-is c.args.state.now c.is_cancelled.ensures c.if-is_cancelled.true) c.if-is_cancelled.true

pub returns-else-is_cancelled : goal.returns-else-is_cancelled
unfolding ◌or◌
returns-else-is_cancelled c = rw (cancelled-is _ c.is_cancelled.ensures c.if-is_cancelled.false, ← count-is _ c.count_of.ensures, ← position-is _ c.position_of.ensures)
