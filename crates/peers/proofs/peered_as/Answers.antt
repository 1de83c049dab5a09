-- `peers::peered_as` meets its contract: the cases of the definition.
-- Assumes nothing.
use borrow.Author.Tests.{ne_eqb, eq-eqb}
use Rattle.basics.specs.Choice.{◌and◌}
use Rattle.peers.proofs.peered_as.Goals as goal

pub returns-then-mark_of-eq1 : goal.returns-then-mark_of-eq1
unfolding ◌and◌
returns-then-mark_of-eq1 c = rw (← c.mark_of.ensures, ← c.handle_of.ensures, eq-eqb _ _ c.if-mark_of-eq1.true)

pub returns-else-mark_of-eq1 : goal.returns-else-mark_of-eq1
unfolding ◌and◌
returns-else-mark_of-eq1 c = rw (← c.mark_of.ensures, ne_eqb _ _ c.if-mark_of-eq1.false)
