use Prim.Native.Nat.{◌≤◌}
use lib.ListN.{length}
use Rattle.call_fields.proofs.numbers.numbers_and_bytes.Given as goal

abbrev pub invariant-loop-i : goal.invariant-loop-i
invariant-loop-i g l = l.at ≤ length l.rest
