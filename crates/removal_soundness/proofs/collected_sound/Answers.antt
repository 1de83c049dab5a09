-- `removal_soundness::collected_sound` meets its contract: the cases of the definition.
-- Assumes nothing.
use borrow.Author.Tests.{eq-eqb, ne_eqb}
use Rattle.basics.specs.Choice.{pick}
use Rattle.model.specs.State.{collected_sound}
use Rattle.removal_soundness.proofs.collected_sound.Goals as goal

pub returns-then-room-eq0 : goal.returns-then-room-eq0
unfolding collected_sound pick
returns-then-room-eq0 c = rw (eq-eqb _ _ c.if-room-eq0.true)

pub returns : goal.returns
unfolding collected_sound pick
returns c = rw (ne_eqb _ _ c.if-room-eq0.false)
