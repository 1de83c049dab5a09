use Rattle.std.proofs.Common.{arith}
use Rattle.queries.proofs.Laws.{query-handles}
use native.Mathlib.Omega.{arith}
use Rattle.queries.proofs.query.Goals as goal

pub returns : goal.returns
returns c = query-handles _ _ _ _ _ _ _ (omega arith) (omega arith) c.answered.ensures c.put_header.ensures c.put_query_records.ensures
