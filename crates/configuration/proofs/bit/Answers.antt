use Rattle.configuration.proofs.Laws.{bit_is}
use Rattle.configuration.proofs.bit.Goals as goal

pub returns : goal.returns
returns c = bit_is _ c.requires
