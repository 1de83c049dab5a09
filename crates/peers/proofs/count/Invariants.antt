-- `peers::count` meets its contract: the marks passed are counted, one at most for each.
-- Assumes nothing.
use Prim.Native.Nat.{◌≤◌}
use mathlib.Core.Path.{◌≡◌}
use Rattle.model.specs.Peers.{peers_below}
use Rattle.peers.proofs.count.Given as goal

abbrev pub invariant-loop-p : goal.invariant-loop-p
invariant-loop-p l = (l.n ≤ l.p) × (l.n ≡ peers_below l.state l.channel l.p)
