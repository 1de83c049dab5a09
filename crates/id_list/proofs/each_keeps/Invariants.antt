-- `id_list::each_keeps` meets its contract: every id passed keeps the rules, and its hash stands at its two places.
-- Assumes nothing.
use mathlib.Core.Bool.{true}
use mathlib.Core.Path.{◌≡◌}
use Prim.Native.Nat.{◌*◌}
use lib.ListN.{length}
use Rattle.basics.specs.Choice.{every}
use Rattle.model.specs.Layout.{most_ids}
use Rattle.model.specs.Peers.{id_keeps}
use Rattle.id_list.specs.Hashes.{HashesStand}
use Rattle.id_list.proofs.each_keeps.Given as goal

abbrev pub invariant-loop-p : goal.invariant-loop-p
invariant-loop-p l =
    (every l.p (id_keeps l.words l.at) ≡ true) × (length l.hashes ≡ 2 * most_ids) × HashesStand l.words l.at l.p l.hashes
