-- `id_list::each_apart` meets its contract: every id passed is apart from those before it.
-- Assumes nothing.
use mathlib.Core.Bool.{true}
use mathlib.Core.Path.{◌≡◌}
use Rattle.basics.specs.Choice.{every}
use Rattle.model.specs.Peers.{id_apart}
use Rattle.id_list.proofs.each_apart.Given as goal

abbrev pub invariant-loop-p : goal.invariant-loop-p
invariant-loop-p l = every l.p (id_apart l.words l.at) ≡ true
