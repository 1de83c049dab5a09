-- `lines::output::Output::make_room` meets its contract.
-- Assumes nothing.
use Rattle.std.proofs.Common.{le-leb}
use borrow.Author.Tests.{lt-leb}
use Rattle.basics.specs.Choice.{pick}
use Rattle.lines.specs.Forms.{start_of}
use Rattle.lines.proofs.output.Output.make_room.Goals as goal

pub returns-then-self-clause-used : goal.returns-then-self-clause-used
unfolding start_of pick
returns-then-self-clause-used c = rw (lt-leb _ _ c.if-self.true) c.flush.ensures.used

pub returns-else-self-clause-used : goal.returns-else-self-clause-used
unfolding start_of pick
returns-else-self-clause-used c = rw (le-leb _ _ c.if-self.false)
