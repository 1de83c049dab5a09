-- `peers::find_peer` meets its contract: no id passed is registered under the handle.
-- Assumes nothing.
use Rattle.model.specs.Peers.{peered_as}
use Rattle.basics.proofs.Loops.{NoneBelow}
use Rattle.peers.proofs.find_peer.Given as goal

abbrev pub invariant-loop-p : goal.invariant-loop-p
invariant-loop-p l = NoneBelow (peered_as l.state l.channel l.handle) l.p
