-- `names::same_names` meets its contract: lengths that differ decide, and past them the words.
-- Assumes nothing.
use mathlib.Core.Path.{◌∙◌}
use native.Mathlib.Omega.{arith}
use Rattle.names.proofs.Names.{lengths_differ, pair-words}
use Rattle.names.proofs.same_names.Goals as goal

pub returns : goal.returns
returns c =
    c.same_words.ensures ∙ pair-words _ _ _ _ _ c.requires.0 c.requires.3 c.requires.4 (omega arith)

pub returns-then-n-m : goal.returns-then-n-m
returns-then-n-m c = lengths_differ _ _ _ _ _ (λ e. omega arith)
