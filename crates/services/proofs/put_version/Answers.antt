-- `services::put_version` meets its contract, by the law of a message.
-- Assumes nothing.
use mathlib.Core.Path.{refl}
use native.Mathlib.Omega.{arith}
use Rattle.wire.specs.BigEndian.{bytes_of}
use Rattle.services.proofs.Parts.{message-stored}
use Rattle.services.proofs.put_version.Goals as goal

pub returns : goal.returns
unfolding bytes_of
returns c =
    message-stored _ 2 _ _ refl refl (omega arith) (rw (c.put16.ensures, c.put_header.ensures))
