use borrow.Author.Tests.{eq-eqb, ne_eqb}
use Rattle.basics.specs.Choice.{pick}
use Rattle.model.specs.State.{room_at}
use Rattle.removal_soundness.proofs.room_at.Goals as goal

pub returns-then-configured_of-ne1 : goal.returns-then-configured_of-ne1
unfolding room_at pick
returns-then-configured_of-ne1 c = rw (← c.configured_of.ensures, ne_eqb _ _ c.if-configured_of-ne1.true)

pub returns : goal.returns
unfolding room_at pick
returns c = rw (← c.configured_of.ensures, ← c.pages_of.ensures, eq-eqb _ _ c.if-configured_of-ne1.false)
