-- `peers::differs` meets its contract: the cases of the definition.
-- Assumes nothing.
use mathlib.Core.Path.{sym}
use borrow.Author.Tests.{ne_eqb, eq-eqb}
use Rattle.basics.proofs.Choice.{or-none, or-true}
use Rattle.peers.proofs.differs.Goals as goal

pub returns-then-handle_of-handle : goal.returns-then-handle_of-handle
returns-then-handle_of-handle c = rw (← c.handle_of.ensures, ne_eqb _ _ c.if-handle_of-handle.true) (sym (or-true _))

pub returns : goal.returns
returns c =
    rw (← c.handle_of.ensures, ← c.mark_of.ensures, eq-eqb _ _ c.if-handle_of-handle.false) (sym (or-none _))
