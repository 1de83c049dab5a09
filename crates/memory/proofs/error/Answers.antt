use Rattle.model.specs.Memory.{answering_error}
use Rattle.memory.proofs.error.Goals as goal

pub returns : goal.returns
unfolding answering_error
returns c = c.reply_bare.ensures
