-- `names::has_name` meets its contract: a length that differs decides, and past it the words.
-- Assumes nothing.
use mathlib.Core.Path.{◌∙◌}
use native.Mathlib.Omega.{arith}
use Rattle.names.proofs.Names.{length-differs, same-words}
use Rattle.names.proofs.has_name.Goals as goal

pub returns : goal.returns
returns c =
    c.has_bytes.ensures ∙ same-words _ _ _ c.requires.0 c.requires.2 _ (omega arith)

pub returns-then-n-name : goal.returns-then-n-name
returns-then-n-name c = length-differs _ _ _ _ (λ e. omega arith)
