-- `device_list::id_apart` meets its contract: no device passed has the id.
-- Assumes nothing.
use mathlib.Core.Bool.{not}
use mathlib.Core.Path.{◌≡◌}
use Prim.Native.Nat.{◌+◌, ◌*◌}
use lib.ListN.{get_or}
use lib.Dec.{eqb}
use Rattle.basics.specs.Choice.{every}
use Rattle.model.specs.Layout.{device_words}
use Rattle.device_list.proofs.id_apart.Given as goal

abbrev pub invariant-loop-j : goal.invariant-loop-j
invariant-loop-j l = l.apart ≡ every l.j (λ k. not (eqb (get_or l.words (l.at + k * device_words) 0) l.id))
