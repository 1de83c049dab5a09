use mathlib.Core.Path.{ap}
use lib.ListN.{length}
use Rattle.exports.proofs.Part.{part-shown}
use Rattle.exports.proofs.arkelutz_show.Goals as goal

pub returns : goal.returns
returns c = record { message_value = (rw c.show-part.ensures (part-shown _ _ _)); value = ap length c.show-part.ensures }
