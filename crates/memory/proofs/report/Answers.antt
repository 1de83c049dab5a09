use mathlib.Core.Path.{sym}
use native.Mathlib.Omega.{arith}
use lib.ListN.{length-take, length-drop}
use Rattle.model.proofs.Replies.{status-length}
use Rattle.model.specs.Layout.{removal_of, reply_header_bytes, status_bytes}
use Rattle.model.specs.Memory.{status_record}
use Rattle.records.proofs.Parts.{part-sets}
use Rattle.memory.proofs.Laws.{removal-fits, report-none, report-some}
use Rattle.memory.proofs.report.Goals as goal

pub put_status_record-requires : goal.put_status_record-requires
put_status_record-requires c = let f = removal-fits _ c.requires.0 (sym c.if-is_outstanding.ensures) in (f.0, f.1, simp (length-take, length-drop) (omega arith))

pub returns-then-is_outstanding : goal.returns-then-is_outstanding
returns-then-is_outstanding c = report-some _ _ _ _ _ c.if-is_outstanding.ensures c.answered.ensures c.requires.1 c.put_header.ensures (rw c.put_status_record.ensures (part-sets c.put_header.new.out (status_record (removal_of c.args.state.now)) reply_header_bytes status_bytes (status-length (removal_of c.args.state.now)) (omega arith)))

pub returns-else-is_outstanding : goal.returns-else-is_outstanding
returns-else-is_outstanding c = report-none _ _ _ _ _ c.if-is_outstanding.ensures (c.reply_bare.ensures _)
