-- `id_list::hashes_apart` meets its contract: no hash is the one at a distance passed.
-- Assumes nothing.
use mathlib.Core.Path.{◌≡◌}
use Prim.Native.Nat.{◌+◌}
use Rattle.basics.specs.Choice.{every}
use Rattle.id_list.specs.Hashes.{apart_at}
use Rattle.id_list.proofs.hashes_apart.Given as goal

abbrev pub invariant-loop-d : goal.invariant-loop-d
invariant-loop-d l = l.apart ≡ every l.d (λ j. apart_at l.hashes (j + 1))
