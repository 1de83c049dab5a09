-- `peers::each_sound` meets its contract: each id passed is sound.
-- Assumes nothing.
use mathlib.Core.Bool.{true}
use mathlib.Core.Path.{◌≡◌}
use Rattle.basics.specs.Choice.{every}
use Rattle.model.specs.Layout.{ready_at}
use Rattle.model.specs.Peers.{peer_sound}
use Rattle.peers.proofs.each_sound.Given as goal

abbrev pub invariant-loop-p : goal.invariant-loop-p
invariant-loop-p l = every l.p (peer_sound l.state (ready_at l.state l.channel) l.channel) ≡ true
