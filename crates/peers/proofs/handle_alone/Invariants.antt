-- `peers::handle_alone` meets its contract: no handle passed is the same, so that none of a registration is.
-- Assumes nothing.
use mathlib.Core.Bool.{true, not}
use mathlib.Core.Path.{◌≡◌}
use lib.Dec.{eqb}
use Rattle.basics.specs.Choice.{◌or◌, every}
use Rattle.model.specs.Layout.{peered_at, peer_handle_at}
use Rattle.peers.proofs.handle_alone.Given as goal

abbrev pub invariant-loop-j : goal.invariant-loop-j
invariant-loop-j l = every l.j (λ k. eqb (peered_at l.state l.channel k) 0 or not (eqb (peer_handle_at l.state l.channel k) l.handle)) ≡ true
