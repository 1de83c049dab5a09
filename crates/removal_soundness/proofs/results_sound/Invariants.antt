-- `removal_soundness::results_sound` meets its contract: every result passed is OK or NOWORK.
-- Assumes nothing.
use mathlib.Core.Bool.{true}
use mathlib.Core.Path.{◌≡◌}
use Prim.Native.Nat.{◌+◌}
use lib.ListN.{get_or}
use Rattle.basics.specs.Choice.{every}
use Rattle.model.specs.Layout.{first_result_word}
use Rattle.model.specs.State.{result_sound}
use Rattle.removal_soundness.proofs.results_sound.Given as goal

abbrev pub invariant-loop-i : goal.invariant-loop-i
invariant-loop-i l = every l.i (λ k. result_sound (get_or l.state (first_result_word + k) 0)) ≡ true
