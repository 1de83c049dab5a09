-- `names::mixed` meets its contract: it computes what the definition says.
-- Assumes nothing.
use mathlib.Core.Path.{refl}
use Rattle.names.specs.Hashes.{mixed}
use Rattle.names.proofs.mixed.Goals as goal

pub returns : goal.returns
unfolding mixed
returns c = refl
