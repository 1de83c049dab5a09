-- `queries::put_range` meets its contract: three fields, one after the other.
-- Assumes nothing.
use mathlib.Core.Path.{refl}
use Rattle.queries.proofs.Laws.{range_none, range-some}
use Rattle.queries.proofs.put_range.Goals as goal

pub returns-then-bytes-eq0 : goal.returns-then-bytes-eq0
returns-then-bytes-eq0 c =
    range_none _ _ _ c.if-bytes-eq0.true c.put64.ensures c.put64-then-bytes-eq0.ensures
    c.put64-then-bytes-eq0-2.ensures

pub returns-else-bytes-eq0 : goal.returns-else-bytes-eq0
returns-else-bytes-eq0 c =
    range-some _ _ _ c.if-bytes-eq0.false refl
    c.put64-else-bytes-eq0.ensures c.put64-else-bytes-eq0-2.ensures c.put64-else-bytes-eq0-3.ensures
