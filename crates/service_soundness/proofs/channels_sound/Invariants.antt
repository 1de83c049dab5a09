-- `service_soundness::channels_sound` meets its contract: every channel passed is closed or ready.
-- Assumes nothing.
use mathlib.Core.Bool.{true}
use mathlib.Core.Path.{◌≡◌}
use lib.Dec.{leb}
use Rattle.basics.specs.Choice.{every}
use Rattle.model.specs.Layout.{ready_at}
use Rattle.service_soundness.proofs.channels_sound.Given as goal

abbrev pub invariant-loop-c : goal.invariant-loop-c
invariant-loop-c l = every l.c (λ i. leb (ready_at l.state i) 1) ≡ true
