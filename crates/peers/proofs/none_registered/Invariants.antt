-- `peers::none_registered` meets its contract: none of the channels passed has a mark.
-- Assumes nothing.
use mathlib.Core.Bool.{true}
use mathlib.Core.Path.{◌≡◌}
use Prim.Native.Nat.{ℕ, ◌<◌}
use Rattle.model.specs.Layout.{peered_at}
use Rattle.peers.proofs.none_registered.Given as goal

abbrev pub invariant-loop-c : goal.invariant-loop-c
invariant-loop-c l = l.none ≡ true → (i : ℕ) → i < l.c → (p : ℕ) → peered_at l.state i p ≡ 0
