-- `queries::put_query_records` meets its contract: the records passed stand after the headers.
-- Assumes nothing.
use Rattle.std.proofs.Common.{◌≡◌, ◌+◌, ◌-◌, ◌*◌, ◌≤◌, length, refl, ◌∙◌, arith}
use Rattle.basics.specs.Choice.{joined}
use Rattle.model.proofs.Replies.{query-length}
use Rattle.records.proofs.Parts.{record-more}
use Rattle.model.specs.Layout.{query_bytes, reply_header_bytes}
use native.Mathlib.Omega.{arith}
use Rattle.queries.proofs.put_query_records.Goals as goal

pub loop-i-preserved : goal.loop-i-preserved
loop-i-preserved c =
    let l = c.loop-i in
    let at = reply_header_bytes + l.i * query_bytes in
    let fits : at + query_bytes ≤ length l.out = omega arith in
    let span : at + query_bytes - at ≡ query_bytes = omega arith in (
      omega arith,
      record-more _ query_bytes (λ i. query-length _ _ _) _ _ _ _ _ l.invariant.1
          (c.put_query_record.ensures ∙ rw (c.pair-addr.ensures.0, c.pair-addr.ensures.1)) span fits,
    )

pub loop-i-init : goal.loop-i-init
unfolding joined
loop-i-init c = (refl, refl)
