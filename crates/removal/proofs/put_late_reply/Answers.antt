use native.Mathlib.Omega.{arith}
use Rattle.model.specs.Layout.{removal_of}
use Rattle.removal_state.proofs.Laws.{count-is, handle-is, request-is}
use Rattle.removal.proofs.Laws.{late-written}
use Rattle.removal.proofs.put_late_reply.Goals as goal

pub put_results_header-length-requires : goal.put_results_header-length-requires
unfolding removal_of
put_results_header-length-requires c = let p = c.requires in (omega (arith, p.0.records), omega (arith, p.2))

pub put_late_records-requires : goal.put_late_records-requires
unfolding removal_of
put_late_records-requires c = let p = c.requires in
    (p.0.blocks, omega (arith, p.0.records), p.1, omega arith)

pub returns : goal.returns
returns c = let p = c.requires in late-written _ _ (count-is _ c.count_of-n.ensures) (handle-is _ c.handle_of-handle.ensures) (request-is _ c.request_of-request.ensures) p.0.records p.2 c.put_results_header-length.ensures c.put_late_records.ensures
