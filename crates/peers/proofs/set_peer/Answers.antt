-- `peers::set_peer` meets its contract: the stores are those of the definition.
-- Assumes nothing.
use Rattle.model.specs.Layout.{with_peer, bit_set}
use Rattle.peers.proofs.Laws.{own-bit}
use Rattle.peers.proofs.set_peer.Goals as goal

pub returns : goal.returns
unfolding with_peer bit_set
returns c = rw (c.marks_of.ensures, own-bit c.args.p c.requires.1)
