-- `id_list::folded` meets its contract: it computes what the definition says.
-- Assumes nothing.
use mathlib.Core.Path.{refl}
use Rattle.id_list.specs.Hashes.{folded}
use Rattle.id_list.proofs.folded.Goals as goal

pub returns : goal.returns
unfolding folded
returns c = refl
