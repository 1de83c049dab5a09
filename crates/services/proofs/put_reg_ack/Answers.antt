-- `services::put_reg_ack` meets its contract, by the law of a message.
-- Assumes nothing.
use mathlib.Core.Path.{refl}
use native.Mathlib.Omega.{arith}
use Rattle.wire.specs.BigEndian.{bytes_of}
use Rattle.model.specs.Messages.{reg_ack}
use Rattle.services.proofs.Parts.{message-stored}
use Rattle.services.proofs.put_reg_ack.Goals as goal

pub returns : goal.returns
unfolding bytes_of reg_ack
returns c =
    message-stored _ 10 _ _ refl refl (omega arith) (rw (c.put16.ensures, c.put64.ensures, c.put_header.ensures))
