-- `service_soundness::live_handles_apart` meets its contract: every handle passed differs from those before it.
-- Assumes nothing.
use mathlib.Core.Bool.{true}
use mathlib.Core.Path.{◌≡◌}
use Rattle.basics.specs.Choice.{every}
use Rattle.model.specs.State.{handle_apart}
use Rattle.service_soundness.proofs.live_handles_apart.Given as goal

abbrev pub invariant-loop-k : goal.invariant-loop-k
invariant-loop-k l = every l.k (λ i. handle_apart l.state i) ≡ true
