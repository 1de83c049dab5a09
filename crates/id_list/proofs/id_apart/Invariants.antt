-- `id_list::id_apart` meets its contract: no id passed has its bytes.
-- Assumes nothing.
use mathlib.Core.Bool.{true, not}
use mathlib.Core.Path.{◌≡◌}
use Rattle.basics.specs.Choice.{every}
use Rattle.model.specs.Devices.{same_name}
use Rattle.model.specs.Layout.{id_in}
use Rattle.id_list.proofs.id_apart.Given as goal

abbrev pub invariant-loop-q : goal.invariant-loop-q
invariant-loop-q l = every l.q (λ k. not (same_name (id_in l.words l.at k).bytes (id_in l.words l.at l.p).bytes)) ≡ true
