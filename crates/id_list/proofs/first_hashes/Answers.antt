-- `id_list::first_hashes` meets its contract: what is written stands within the hashes.
-- Assumes nothing.
use mathlib.Core.Path.{refl}
use lib.ListN.{length-set}
use Rattle.id_list.proofs.first_hashes.Goals as goal

pub loop-p-init : goal.loop-p-init
loop-p-init c = refl

pub loop-p-preserved : goal.loop-p-preserved
loop-p-preserved c = simp length-set c.loop-p.invariant

pub returns : goal.returns
returns c = c.loop-p.invariant
