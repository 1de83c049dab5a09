use mathlib.Core.Path.{sym}
use Rattle.model.specs.Layout.{removal_of}
use Rattle.model.proofs.RemovalWords.{marked-words}
use Rattle.removal_state.proofs.mark.Goals as goal

pub returns : goal.returns
unfolding removal_of
returns c = sym (marked-words _ c.told-state c.requires.0 c.requires.1)
