-- `device_list::ids_rise` meets its contract: each id passed is below the next.
-- Assumes nothing.
use mathlib.Core.Path.{◌≡◌}
use Prim.Native.Nat.{◌+◌, ◌*◌, ◌-◌, ◌≤◌}
use lib.ListN.{get_or}
use lib.Dec.{ltb}
use Rattle.basics.specs.Choice.{every}
use Rattle.model.specs.Layout.{device_words}
use Rattle.device_list.proofs.ids_rise.Given as goal

abbrev pub invariant-loop-j : goal.invariant-loop-j
invariant-loop-j l = (l.j - 1 ≤ l.n - 1) × (l.rise ≡ every (l.j - 1) (λ k. ltb (get_or l.words (l.at + k * device_words) 0) (get_or l.words (l.at + (k + 1) * device_words) 0)))
