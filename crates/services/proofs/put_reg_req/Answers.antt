-- `services::put_reg_req` meets its contract, by the table's rule and the law of a message.
-- Assumes nothing.
use mathlib.Core.Path.{ap}
use Prim.Native.Nat.{◌+◌}
use native.Mathlib.Omega.{arith}
use lib.ListN.{length}
use Rattle.wire.specs.BigEndian.{bytes_of}
use Rattle.model.specs.Messages.{Service, reg_req}
use Rattle.services.proofs.Parts.{message-stored}
use Rattle.services.proofs.put_reg_req.Goals as goal

pub returns : goal.returns
unfolding bytes_of reg_req
returns c =
    let read = c.row_of-row in
    let long = ap (λ (s : Service). length s.id) read.ensures.same in
    message-stored _ (12 + length read.result.id.now) _ _ (omega arith) (omega arith) (omega arith)
    (rw (← read.ensures.same, c.put_row.ensures, c.put64.ensures, c.put_header.ensures))
