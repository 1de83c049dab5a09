use mathlib.Core.Path.{◌≡◌}
use lib.ListN.{length}
use lib.Seq.{sets}
use Rattle.basics.specs.Choice.{joined}
use Rattle.model.specs.Layout.{reply_header_bytes}
use Rattle.model.specs.Memory.{DR-MEM-RES-BLOCKED, addr_in, result_record, size_in}
use Rattle.memory.proofs.put_blocked.Given as goal

abbrev pub invariant-loop-i : goal.invariant-loop-i
invariant-loop-i l = (length l.out ≡ length l.initial.out) × (l.out ≡ sets l.initial.out reply_header_bytes (joined (λ k. result_record l.state (addr_in l.records.bytes.now k) (size_in l.records.bytes.now k) DR-MEM-RES-BLOCKED) l.i))
