-- `service_soundness::handles_alone` meets its contract: no handle passed stands before it.
-- Assumes nothing.
use mathlib.Core.Bool.{true}
use mathlib.Core.Path.{◌≡◌}
use Rattle.basics.specs.Choice.{every}
use Rattle.model.specs.State.{handle_apart}
use Rattle.service_soundness.proofs.handles_alone.Given as goal

abbrev pub invariant-loop-k : goal.invariant-loop-k
invariant-loop-k l = every l.k (λ i. handle_apart l.state i) ≡ true
