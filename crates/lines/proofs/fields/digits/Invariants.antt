use Rattle.std.proofs.Common.{◌≡◌, ◌<◌, true}
use Rattle.lines.specs.Fields.{value_of, are_digits}
use Rattle.lines.proofs.fields.digits.Given as goal

abbrev pub invariant-loop-b : goal.invariant-loop-b
invariant-loop-b l =
    (l.value ≡ value_of l.base l.field l.b-index) × (are_digits l.base l.field l.b-index ≡ true) × (l.value < 18446744073709551616)
