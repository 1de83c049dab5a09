-- `peers::peer_apart` meets its contract: no handle passed is the same.
-- Assumes nothing.
use mathlib.Core.Bool.{true, not}
use mathlib.Core.Path.{◌≡◌}
use lib.Dec.{eqb}
use Rattle.basics.specs.Choice.{◌or◌, every}
use Rattle.model.specs.Layout.{peered_at, peer_handle_at}
use Rattle.peers.proofs.peer_apart.Given as goal

abbrev pub invariant-loop-q : goal.invariant-loop-q
invariant-loop-q l = every l.q (λ k. eqb (peered_at l.state l.channel k) 0 or not (eqb (peer_handle_at l.state l.channel k) l.handle)) ≡ true
