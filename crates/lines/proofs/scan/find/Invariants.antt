-- The byte is not among those that were passed.
use Rattle.std.proofs.Common.{◌≡◌, ◌+◌}
use Rattle.lines.specs.Search.{index_of, slice}
use Rattle.lines.proofs.scan.find.Given as goal

abbrev pub invariant-loop-i : goal.invariant-loop-i
invariant-loop-i l = l.from + index_of l.b (slice l.from l.end l.run) ≡ l.i + index_of l.b (slice l.i l.end l.run)
