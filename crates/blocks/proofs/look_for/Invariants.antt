-- `blocks::look_for` meets its contract. The loop's invariant: the blocks told of were looked at, and `left` are left from `low` on. The
-- measure is those left.
-- Assumes nothing.
use Prim.Native.Nat.{◌+◌, ◌≤◌}
use mathlib.Core.Path.{◌≡◌}
use lib.ListN.{length, take}
use Rattle.model.specs.Layout.{blocks_of, most_looked}
use Rattle.blocks.proofs.Halves.{Going}
use Rattle.blocks.proofs.look_for.Given as goal

abbrev pub invariant-loop-left : goal.invariant-loop-left
invariant-loop-left l = (l.low + l.left ≤ blocks_of l.state) × (length l.looked ≡ most_looked) × (l.count ≤ most_looked) × Going l.state l.addr l.size (take l.count l.looked) l.low l.left

abbrev pub decreases-loop-left : goal.decreases-loop-left
decreases-loop-left l = l.left
