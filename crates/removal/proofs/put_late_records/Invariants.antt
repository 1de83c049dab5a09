use mathlib.Core.Path.{◌≡◌}
use lib.ListN.{length}
use lib.Seq.{sets}
use Rattle.basics.specs.Choice.{joined}
use Rattle.model.specs.Layout.{reply_header_bytes}
use Rattle.removal.specs.Fits.{late_record}
use Rattle.removal.proofs.put_late_records.Given as goal

abbrev pub invariant-loop-i : goal.invariant-loop-i
invariant-loop-i l = (length l.out ≡ length l.initial.out) × (l.out ≡ sets l.initial.out reply_header_bytes (joined (late_record l.state) l.i))
