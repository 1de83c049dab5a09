-- `services::put_nack` meets its contract, by the law of a message.
-- Assumes nothing.
use mathlib.Core.Path.{refl}
use native.Mathlib.Omega.{arith}
use Rattle.wire.specs.BigEndian.{bytes_of}
use Rattle.model.specs.Messages.{nack}
use Rattle.services.proofs.Parts.{message-stored}
use Rattle.services.proofs.put_nack.Goals as goal

pub returns : goal.returns
unfolding bytes_of nack
returns c = message-stored _ 16 _ _ refl refl (omega arith) c.put_result.ensures
