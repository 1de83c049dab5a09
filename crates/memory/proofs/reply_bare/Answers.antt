use mathlib.Core.Path.{refl, sym}
use mathlib.Core.List.{[]}
use Rattle.model.specs.Memory.{answering}
use Rattle.model.proofs.Replies.{memory-length}
use Rattle.memory.proofs.reply_bare.Goals as goal

pub returns : goal.returns
unfolding answering
returns c = λ s. record { length' = sym (memory-length _ _ _ _ []); notes = c.answered.ensures; state = refl; output = c.put_bare.ensures }
