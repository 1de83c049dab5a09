use mathlib.Core.Bool.{true, not}
use mathlib.Core.Path.{◌≡◌}
use lib.Dec.{eqb}
use Rattle.basics.specs.Choice.{◌or◌, every}
use Rattle.model.specs.Layout.{stage_idle, stage_at, handle_at}
use Rattle.service_soundness.proofs.handle_alone.Given as goal

abbrev pub invariant-loop-j : goal.invariant-loop-j
invariant-loop-j l = every l.j (λ i. eqb (stage_at l.state i) stage_idle or not (eqb (handle_at l.state i) (handle_at l.state l.k))) ≡ true
