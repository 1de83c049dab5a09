use Prim.Native.Nat.{◌+◌, ◌-◌, ◌*◌}
use mathlib.Core.Path.{◌≡◌, ◌∙◌}
use Rattle.model.specs.Layout.{reply_header_bytes, result_bytes}
use Rattle.model.specs.Memory.{result_record}
use Rattle.model.proofs.Replies.{result-length}
use Rattle.records.proofs.Parts.{record-put}
use native.Mathlib.Omega.{arith}
use Rattle.records.proofs.put_result.Goals as goal

pub returns : goal.returns
unfolding result_record
returns c =
    let a = c.args in
    let span : reply_header_bytes + a.i * result_bytes + result_bytes - (reply_header_bytes + a.i * result_bytes) ≡ result_bytes = omega arith in
    record-put result_bytes _ _ (result_record a.state.now a.addr a.size a.res) _ _ (c.put_result_record.ensures ∙ rw c.status_of-status.ensures) (result-length _ _ _ _) span (omega arith)
