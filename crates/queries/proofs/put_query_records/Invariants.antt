-- `queries::put_query_records` meets its contract: the records passed stand after the headers.
-- Assumes nothing.
use Rattle.std.proofs.Common.{◌≡◌, length}
use lib.Seq.{sets}
use Rattle.basics.specs.Choice.{joined}
use Rattle.model.specs.Memory.{addr_in, size_in, query_record}
use Rattle.model.specs.Layout.{reply_header_bytes}
use Rattle.queries.proofs.put_query_records.Given as goal

abbrev pub invariant-loop-i : goal.invariant-loop-i
invariant-loop-i l = (length l.out ≡ length l.initial.out) × (l.out ≡ sets l.initial.out reply_header_bytes (joined (λ k. query_record l.state (addr_in l.records.bytes.now k) (size_in l.records.bytes.now k)) l.i))
