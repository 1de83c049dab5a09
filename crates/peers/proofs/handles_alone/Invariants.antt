-- `peers::handles_alone` meets its contract: no handle passed stands before it.
-- Assumes nothing.
use mathlib.Core.Bool.{true}
use mathlib.Core.Path.{◌≡◌}
use Rattle.basics.specs.Choice.{every}
use Rattle.model.specs.Peers.{peer_apart}
use Rattle.peers.proofs.handles_alone.Given as goal

abbrev pub invariant-loop-p : goal.invariant-loop-p
invariant-loop-p l = every l.p (peer_apart l.state l.channel) ≡ true
