-- `peers::end_peer` meets its contract: the store is that of the definition.
-- Assumes nothing.
use Rattle.model.specs.Layout.{without_peer, bit_cleared}
use Rattle.peers.proofs.Laws.{own-bit}
use Rattle.peers.proofs.end_peer.Goals as goal

pub returns : goal.returns
unfolding without_peer bit_cleared
returns c = rw (c.marks_of-marks.ensures, own-bit c.args.p c.requires.1)
