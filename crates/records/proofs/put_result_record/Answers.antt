-- `records::put_result_record` meets its contract: the five fields fill the part.
-- Assumes nothing.
use Rattle.records.proofs.Parts.{low-bytes, record-stored}
use Rattle.records.proofs.put_result_record.Goals as goal

pub returns : goal.returns
returns c =
    record-stored _ _ _ _ _ c.requires c.put64.ensures c.put64-2.ensures
    (low-bytes _ 16 _ c.put32.ensures) (low-bytes _ 20 _ c.put32-2.ensures)
    c.put32-3.ensures
