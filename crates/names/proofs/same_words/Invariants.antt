-- `names::same_words` meets its contract: the words passed have the same bytes, and two that differ have not.
-- Assumes nothing.
use mathlib.Core.Bool.{true}
use mathlib.Core.Path.{◌≡◌}
use Prim.Native.Nat.{◌+◌}
use lib.ListN.{get_or}
use Rattle.basics.specs.Choice.{every}
use Rattle.names.specs.NameWords.{same_bytes}
use Rattle.names.proofs.same_words.Given as goal

abbrev pub invariant-loop-q : goal.invariant-loop-q
invariant-loop-q l = every l.q (λ j. same_bytes (get_or l.words (l.a + j) 0) (get_or l.words (l.b + j) 0)) ≡ true
