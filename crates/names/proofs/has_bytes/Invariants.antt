-- `names::has_bytes` meets its contract: the words passed have the bytes, and one that differs has not.
-- Assumes nothing.
use mathlib.Core.Bool.{true}
use mathlib.Core.Path.{◌≡◌}
use Prim.Native.Nat.{◌+◌, ◌*◌}
use lib.ListN.{get_or}
use Rattle.wire.specs.BigEndian.{number_at}
use Rattle.basics.specs.Choice.{every}
use Rattle.model.specs.Layout.{word_bytes}
use Rattle.names.specs.NameWords.{same_bytes}
use Rattle.names.proofs.has_bytes.Given as goal

abbrev pub invariant-loop-q : goal.invariant-loop-q
invariant-loop-q l = every l.q (λ j. same_bytes (get_or l.words (l.from + j) 0) (number_at l.name (j * word_bytes) word_bytes)) ≡ true
