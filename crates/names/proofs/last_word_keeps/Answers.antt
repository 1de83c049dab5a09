-- `names::last_word_keeps` meets its contract: the bits from its zero on are none, and with them set no byte is 0.
-- Assumes nothing.
use mathlib.Core.Path.{◌∙◌}
use native.Mathlib.Omega.{arith}
use Rattle.names.proofs.Zeros.{rest-fails, rest-law}
use Rattle.names.proofs.last_word_keeps.Goals as goal

pub returns-then-w-rest-ne0 : goal.returns-then-w-rest-ne0
returns-then-w-rest-ne0 c = rest-fails _ _ c.requires (λ z. omega arith) (omega arith)

pub returns : goal.returns
returns c = c.zero_bytes.ensures ∙ rest-law _ _ c.requires (omega arith)
