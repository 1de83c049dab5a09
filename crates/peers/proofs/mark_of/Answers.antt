-- `peers::mark_of` meets its contract: the bit of the definition.
-- Assumes nothing.
use Rattle.model.specs.Layout.{bit_of}
use Rattle.peers.proofs.mark_of.Goals as goal

pub returns : goal.returns
unfolding bit_of
returns c = rw c.marks_of.ensures
