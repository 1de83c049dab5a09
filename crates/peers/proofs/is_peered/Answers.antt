-- `peers::is_peered` meets its contract.
-- Assumes nothing.

use Rattle.peers.proofs.is_peered.Goals as goal

pub returns : goal.returns
returns c = rw (← c.mark_of.ensures)
