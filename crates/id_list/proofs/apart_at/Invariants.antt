-- `id_list::apart_at` meets its contract: no hash passed is the one so many places on.
-- Assumes nothing.
use mathlib.Core.Bool.{not}
use mathlib.Core.Path.{◌≡◌}
use Prim.Native.Nat.{◌+◌}
use lib.ListN.{get_or}
use lib.Dec.{eqb}
use Rattle.basics.specs.Choice.{every}
use Rattle.id_list.proofs.apart_at.Given as goal

abbrev pub invariant-loop-k : goal.invariant-loop-k
invariant-loop-k l = l.apart ≡ every l.k (λ j. not (eqb (get_or l.hashes j 0) (get_or l.hashes (j + l.distance) 0)))
