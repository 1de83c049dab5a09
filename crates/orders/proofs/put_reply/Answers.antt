-- `orders::put_reply` meets its contract, by the law of a message.
-- Assumes nothing.
use Prim.Native.Nat.{ℕ, ◌+◌}
use mathlib.Core.List.{List}
use native.Mathlib.Omega.{arith}
use lib.ListN.{length}
use Rattle.wire.specs.BigEndian.{bytes_of}
use Rattle.model.specs.Messages.{ds_data}
use Rattle.model.specs.Orders.{order_reply}
use Rattle.services.proofs.Parts.{message-stored}
use Rattle.orders.proofs.put_reply.Goals as goal

pub returns : goal.returns
unfolding bytes_of order_reply ds_data
returns c =
    let reason : List ℕ = c.args.reason.now in
    message-stored _ (20 + length reason) _ _ (omega arith) (omega arith) (omega arith)
    (rw (c.put_bytes.ensures, c.put32-3.ensures, c.put64-2.ensures, c.put64.ensures, c.put32-2.ensures, c.put32.ensures))
