-- `names::holds_name` meets its contract: a length out of bounds breaks the rules, and past it the words decide.
-- Assumes nothing.
use mathlib.Core.Path.{ap}
use mathlib.Core.Bool.{not}
use mathlib.Core.Path.{sym, ◌∙◌}
use Rattle.basics.proofs.Choice.{and-false}
use Rattle.basics.proofs.Loops.{refute, no, yes}
use Rattle.names.proofs.Bytes.{and-next}
use Rattle.names.proofs.Names.{name-rules, name-words}
use native.Mathlib.Omega.{arith}
use Rattle.names.proofs.holds_name.Goals as goal

pub returns-then-n-lt1 : goal.returns-then-n-lt1
returns-then-n-lt1 c = refute _ (λ t. let r = name-rules _ _ _ _ t in omega arith)

pub returns-then-most-n : goal.returns-then-most-n
returns-then-most-n c = refute _ (λ t. let r = name-rules _ _ _ _ t in omega arith)

pub returns-then-not-whole_words : goal.returns-then-not-whole_words
returns-then-not-whole_words c =
    sym (and-false _ _ (no _ c.whole_words.ensures (ap not c.if-not-whole_words.true)))
    ∙ name-words _ _ _ _ c.if-n-lt1.false c.if-most-n.false

pub returns : goal.returns
returns c =
    c.last_word_keeps.ensures
    ∙ sym (and-next _ _ (yes _ c.whole_words.ensures (ap not c.if-not-whole_words.false)))
    ∙ name-words _ _ _ _ c.if-n-lt1.false c.if-most-n.false
