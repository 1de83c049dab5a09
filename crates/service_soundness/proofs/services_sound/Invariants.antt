-- `service_soundness::services_sound` meets its contract: every service passed is sound.
-- Assumes nothing.
use mathlib.Core.Bool.{true}
use mathlib.Core.Path.{◌≡◌}
use Rattle.basics.specs.Choice.{every}
use Rattle.model.specs.State.{service_sound_at}
use Rattle.service_soundness.proofs.services_sound.Given as goal

abbrev pub invariant-loop-k : goal.invariant-loop-k
invariant-loop-k l = every l.k (λ i. service_sound_at l.state i) ≡ true
