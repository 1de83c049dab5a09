-- `front::front_sound` meets its contract: every channel passed is sound.
-- Assumes nothing.
use mathlib.Core.Path.{◌≡◌}
use mathlib.Core.Bool.{true}
use Rattle.basics.specs.Choice.{every}
use Rattle.front_model.specs.Front.{front_sound_at}
use Rattle.front.proofs.front_sound.Given as goal

abbrev pub invariant-loop-c : goal.invariant-loop-c
invariant-loop-c l = every l.c (λ i. front_sound_at (record { words = l.words; bytes = l.bytes }) i) ≡ true
