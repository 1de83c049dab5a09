-- `devices::none_is_zero` meets its contract: no byte passed is 0.
-- Assumes nothing.
use mathlib.Core.Bool.{not}
use mathlib.Core.Path.{◌≡◌}
use Prim.Native.Nat.{◌+◌}
use lib.Dec.{eqb}
use Rattle.wire.specs.BigEndian.{byte_at}
use Rattle.basics.specs.Choice.{every}
use Rattle.devices.proofs.none_is_zero.Given as goal

abbrev pub invariant-loop-k : goal.invariant-loop-k
invariant-loop-k l = l.none ≡ every l.k (λ j. not (eqb (byte_at l.b (l.from + j)) 0))
