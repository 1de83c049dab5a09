-- `services::put_handle` meets its contract, by the law of a message.
-- Assumes nothing.
use mathlib.Core.Path.{refl}
use native.Mathlib.Omega.{arith}
use Rattle.wire.specs.BigEndian.{bytes_of}
use Rattle.services.proofs.Parts.{message-stored}
use Rattle.services.proofs.put_handle.Goals as goal

pub returns : goal.returns
unfolding bytes_of
returns c =
    message-stored _ 8 _ _ refl refl (omega arith) (rw (c.put64.ensures, c.put_header.ensures))
