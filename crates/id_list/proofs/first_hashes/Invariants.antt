-- `id_list::first_hashes` meets its contract: what is written stands within the hashes.
-- Assumes nothing.
use mathlib.Core.Path.{◌≡◌}
use Prim.Native.Nat.{◌*◌}
use lib.ListN.{length}
use Rattle.model.specs.Layout.{most_ids}
use Rattle.id_list.proofs.first_hashes.Given as goal

abbrev pub invariant-loop-p : goal.invariant-loop-p
invariant-loop-p l = length l.hashes ≡ 2 * most_ids
