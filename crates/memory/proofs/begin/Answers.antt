use mathlib.Core.Path.{refl}
use Rattle.model.specs.Memory.{beginning}
use Rattle.memory.proofs.begin.Goals as goal

pub returns : goal.returns
unfolding beginning
returns c = record { no_reply = refl; length' = refl; notes = c.begun.ensures; state = c.begin.ensures }
