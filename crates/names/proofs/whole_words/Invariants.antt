-- `names::whole_words` meets its contract: no bit is set for the words passed exactly where none of their bytes is 0.
-- Assumes nothing.
use mathlib.Core.Path.{◌≡◌}
use Prim.Native.Nat.{◌+◌}
use lib.ListN.{get_or}
use lib.Dec.{eqb}
use Rattle.basics.specs.Choice.{every}
use Rattle.names.specs.NameWords.{whole_word}
use Rattle.names.proofs.whole_words.Given as goal

abbrev pub invariant-loop-w : goal.invariant-loop-w
invariant-loop-w l = eqb l.zeros 0 ≡ every l.w-index (λ j. whole_word (get_or l.words (l.from + j) 0))
