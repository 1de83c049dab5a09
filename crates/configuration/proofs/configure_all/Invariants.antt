use mathlib.Core.Path.{◌≡◌}
use lib.ListN.{length}
use Rattle.configuration.proofs.Laws.{Passed}
use Rattle.configuration.proofs.configure_all.Given as goal

abbrev pub invariant-loop-i : goal.invariant-loop-i
invariant-loop-i l = (length l.out ≡ length l.initial.out) × Passed l.initial.state l.records.bytes.now l.initial.out l.i l.state l.mask l.failed l.out
