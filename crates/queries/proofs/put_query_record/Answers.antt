-- `queries::put_query_record` meets its contract: its fields, one after the other, fill the part.
-- Assumes nothing.
use Rattle.queries.proofs.Laws.{query-stored}
use Rattle.queries.proofs.put_query_record.Goals as goal

pub returns : goal.returns
returns c =
    let r = c.permanent_of-range.ensures in
    query-stored _ _ _ _ c.requires.1 (r.bytes, r.first) c.put64.ensures c.put64-2.ensures
    c.put_range.ensures
