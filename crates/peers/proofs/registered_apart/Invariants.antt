-- `peers::registered_apart` meets its contract: each id passed is apart.
-- Assumes nothing.
use mathlib.Core.Bool.{true}
use mathlib.Core.Path.{◌≡◌}
use Rattle.basics.specs.Choice.{every}
use Rattle.model.specs.Peers.{peer_apart}
use Rattle.peers.proofs.registered_apart.Given as goal

abbrev pub invariant-loop-p : goal.invariant-loop-p
invariant-loop-p l = every l.p (peer_apart l.state l.channel) ≡ true
