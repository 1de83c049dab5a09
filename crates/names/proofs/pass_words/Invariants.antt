-- `names::pass_words` meets its contract: no bit is set for the words passed exactly where none of their bytes is 0, and they are mixed.
-- Assumes nothing.
use mathlib.Core.Path.{◌≡◌}
use Prim.Native.Nat.{◌+◌}
use lib.ListN.{get_or}
use lib.Dec.{eqb}
use Rattle.basics.specs.Choice.{every}
use Rattle.names.specs.NameWords.{whole_word}
use Rattle.names.specs.Hashes.{mixed_words}
use Rattle.names.proofs.pass_words.Given as goal

abbrev pub invariant-loop-word : goal.invariant-loop-word
invariant-loop-word l = (eqb l.zeros 0 ≡ every l.word-index (λ j. whole_word (get_or l.words (l.from + j) 0))) × (l.hash ≡ mixed_words l.words l.from l.first l.word-index)
