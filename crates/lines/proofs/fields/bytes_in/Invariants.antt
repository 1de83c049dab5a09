use Rattle.std.proofs.Common.{◌≡◌, true, ◌++◌, length, drop}
use Rattle.basics.specs.Choice.{every, tabulate}
use Rattle.lines.specs.Fields.{byte_of, is_byte}
use Rattle.lines.proofs.fields.bytes_in.Given as goal

abbrev pub invariant-loop-i : goal.invariant-loop-i
invariant-loop-i l =
    (length l.into ≡ length l.initial.into) × (every l.i (λ k. is_byte l.field k) ≡ true) × (l.into ≡ tabulate (λ k. byte_of l.field k) l.i ++ drop l.i l.initial.into)
